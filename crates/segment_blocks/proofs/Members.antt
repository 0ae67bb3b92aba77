-- The blocks in the index.
use Rattle.std.proofs.Common.{◌≡◌, ℕ, List, Bool, true, false, IsTrue}
use Rattle.std.specs.Prelude.{not, ◌&&◌}
use Rattle.vol_spec.specs.SegSizes.{SegSizes}
use Rattle.vol_spec.specs.SegWritten.{places}
use Rattle.segment_blocks.specs.Singles.{is_single}
use Rattle.segment_blocks.specs.Stored.{indexed}

pub indexed_places : (s : SegSizes) (raw : List ℕ) (c k : ℕ) → IsTrue (indexed s raw c k) → IsTrue (places s raw c k)
indexed_places s raw c k t = right (not (is_single s)) (places s raw c k) t
  where
    right : (a b : Bool) → IsTrue (a && b) → IsTrue b
    right true b t = t
    right false b t = absurd (no t)
      where
        no : IsTrue false → ⊥
        no e = cc

pub indexed_is : (s : SegSizes) (raw : List ℕ) (c k : ℕ) → is_single s ≡ false → IsTrue (places s raw c k) → IsTrue (indexed s raw c k)
indexed_is s raw c k f t = both (is_single s) (places s raw c k) f t
  where
    both : (a b : Bool) → a ≡ false → IsTrue b → IsTrue (not a && b)
    both true b f t = cc
    both false b f t = t
