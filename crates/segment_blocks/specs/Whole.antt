-- The voxels of blocks and of channels (this project's).
use Rattle.std.specs.Prelude.{◌≡◌, ℕ, ◌<◌, List}
use Rattle.vol_spec.specs.SegSizes.{SegSizes}
use Rattle.vol_spec.specs.SegBlocks.{block_count}
use Rattle.segment_blocks.specs.Shape.{place, InBlock}
use Rattle.vol_spec.specs.SegChunks.{entry}

-- the voxel n of block k of channel c
pub record Where : Type 0 where
  pub c : ℕ
  pub k : ℕ
  pub n : ℕ

abbrev pub place_of : SegSizes → Where → ℕ
place_of s a = place s a.c a.k a.n

abbrev pub entry_of : List ℕ → SegSizes → Where → List ℕ
entry_of bytes s a = entry bytes s a.c a.k a.n

-- those of one block, of the first blocks of a channel, of the first channels
abbrev pub OfBlock : SegSizes → ℕ → ℕ → Where → Type 0
OfBlock s c k a = (a.c ≡ c) × (a.k ≡ k) × InBlock s a.k a.n

abbrev pub OfBlocks : SegSizes → ℕ → ℕ → Where → Type 0
OfBlocks s c k a = (a.c ≡ c) × (a.k < k) × InBlock s a.k a.n

abbrev pub OfChannels : SegSizes → ℕ → Where → Type 0
OfChannels s c a = (a.c < c) × (a.k < block_count s) × InBlock s a.k a.n
