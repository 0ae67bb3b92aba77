-- Two scales with the same members are the same: their limits are facts.
use Rattle.std.specs.Prelude.{All}
use Rattle.std.proofs.Common.{◌≡◌, ◌⊎◌, ℕ, List, ◌≤◌, ◌^◌, length}
use Rattle.std.specs.Option.{ForSome}
use Rattle.std.proofs.Props.{props}
use mathlib.Core.HLevel.{is_prop→PathP}
use Rattle.vol_base.specs.Grids.{AreSizes, pairs}
use Rattle.vol_spec.specs.Limits.{IsWidth, AreOffsets, first_bytes, IsSeg, AreBlocks, FitsChunk, padded_of, cell_counts}
use Rattle.vol_spec.specs.declared.scale.Scale.{Scale}

pub same_scale : (a b : Scale) → a.key ≡ b.key → a.width ≡ b.width → a.channels ≡ b.channels → a.size ≡ b.size → a.offset ≡ b.offset → a.chunk ≡ b.chunk → a.encoding ≡ b.encoding → a.sharding ≡ b.sharding → a.more ≡ b.more → a ≡ b
same_scale a b k w c s o ch e sh mo = λ i. record {
  key = k i;
  width = w i;
  channels = c i;
  size = s i;
  offset = o i;
  chunk = ch i;
  encoding = e i;
  sharding = sh i;
  more = mo i;
  key_ok = is_prop→PathP (λ j. length (k j) ≤ 200) (λ j. hlevel props) a.key_ok b.key_ok i;
  width_ok = is_prop→PathP (λ j. ∥ IsWidth (w j) ∥₁) (λ j. hlevel props) a.width_ok b.width_ok i;
  some_channels = is_prop→PathP (λ j. 1 ≤ c j) (λ j. hlevel props) a.some_channels b.some_channels i;
  channels_ok = is_prop→PathP (λ j. c j ≤ 1024) (λ j. hlevel props) a.channels_ok b.channels_ok i;
  size_ok = is_prop→PathP (λ j. AreSizes (s j)) (λ j. hlevel props) a.size_ok b.size_ok i;
  offset_ok = is_prop→PathP (λ j. AreOffsets (o j)) (λ j. hlevel props) a.offset_ok b.offset_ok i;
  chunk_ok = is_prop→PathP (λ j. AreSizes (ch j)) (λ j. hlevel props) a.chunk_ok b.chunk_ok i;
  first_ok = is_prop→PathP (λ j. first_bytes (w j) (c j) (s j) (ch j) ≤ 2 ^ 27) (λ j. hlevel props) a.first_ok b.first_ok i;
  wide_ok = is_prop→PathP (λ j. (block : List ℕ) → IsSeg (e j) block → ∥ (w j ≡ 4) ⊎ (w j ≡ 8) ∥₁) (λ j. hlevel props) a.wide_ok b.wide_ok i;
  block_ok = is_prop→PathP (λ j. (block : List ℕ) → IsSeg (e j) block → AreBlocks block) (λ j. hlevel props) a.block_ok b.block_ok i;
  padded_ok = is_prop→PathP (λ j. padded_of (e j) (c j) (s j) (ch j) ≤ 2 ^ 24) (λ j. hlevel props) a.padded_ok b.padded_ok i;
  codes_ok = is_prop→PathP (λ j. ForSome (sh j) (λ _. length (pairs (cell_counts (s j) (ch j))) ≤ 64)) (λ j. hlevel props) a.codes_ok b.codes_ok i;
  more_ok = is_prop→PathP (λ j. All (FitsChunk (w j) (c j) (s j) (e j)) (mo j)) (λ j. hlevel props) a.more_ok b.more_ok i;
  alone_ok = is_prop→PathP (λ j. ForSome (sh j) (λ _. length (mo j) ≡ 0)) (λ j. hlevel props) a.alone_ok b.alone_ok i;
}
