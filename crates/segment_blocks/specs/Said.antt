-- The values that a chunk says (this project's words for proofs).
use Rattle.std.specs.Prelude.{ℕ, ◌*◌, ◌/◌, ◌%◌, List, flat_map}
use Rattle.std.specs.List.{range_with_len}
use Rattle.vol_spec.specs.BoxValues.{bytes_of}
use Rattle.vol_spec.specs.SegBlocks.{size, width}
use Rattle.vol_spec.specs.SegChunks.{seg_at}
use Rattle.vol_spec.specs.SegSizes.{SegSizes}

-- the bytes of value n
abbrev pub said_at : SegSizes → List ℕ → ℕ → List ℕ
said_at s bytes n = bytes_of (width s)
    (seg_at bytes s (n % size s 0) (n / size s 0 % size s 1) (n / size s 0 / size s 1 % size s 2)
    (n / size s 0 / size s 1 / size s 2))

unfoldable pub said : SegSizes → List ℕ → List ℕ
said s bytes = flat_map (said_at s bytes)
    (range_with_len 0 (size s 0 * size s 1 * size s 2 * s.channels))
