-- A chunk that is spelled as this writer spells it.
use Rattle.std.specs.Prelude.{◌≡◌, List, ℕ, length}
use Rattle.vol_base.specs.Bytes.{AreBytes}
use Rattle.vol_spec.specs.SegBlocks.{raw_len}
use Rattle.vol_spec.specs.SegSizes.{SegSizes}
use Rattle.vol_spec.specs.SegWritten.{seg_bytes}

-- there are values whose chunk this is
pub record IsOwn (s : SegSizes) (chunk : List ℕ) : Type 0 where
  pub raw : List ℕ
  pub len : length raw ≡ raw_len s
  pub bytes : AreBytes raw
  pub is : chunk ≡ seg_bytes s raw
