-- The room for blocks of one voxel.
use Rattle.std.proofs.Common.{◌≡◌, ◌*◌, arith, ap, refl, subst, ◌∙◌, IsTrue, slice_index}
use Rattle.std.specs.Prelude.{◌==◌}
use Rattle.vol_spec.specs.SegSizes.{SegSizes}
use Rattle.vol_spec.specs.SegBlocks.{block_voxels}
use Rattle.segment_blocks.specs.declared.single.Singles.{Singles}
use Rattle.segment_blocks.specs.Rooms.{Serves}
use Rattle.segment_blocks.specs.Shape.{IsShape}
use Rattle.segment_blocks.specs.Singles.{HasPlaces, IsSingles, SameSingles}
use Rattle.segment_blocks.proofs.Reserves.{fewer_blocks}

pub same_self : (a : Singles) → SameSingles a a
same_self a = record { values = refl; spots = refl; finder = refl }

pub same_singles : (a b c : Singles) → SameSingles a b → SameSingles b c → SameSingles a c
same_singles a b c p q = record { values = q.values ∙ p.values; spots = q.spots ∙ p.spots; finder = q.finder ∙ p.finder }

pub kept_singles : (s : SegSizes) (a b : Singles) → IsSingles s a → SameSingles a b → IsSingles s b
kept_singles s a b x p = λ t. let h = x t in record { values = omega (arith, h.values, p.values); spots = omega (arith, h.spots, p.spots); finder = omega (arith, h.finder, p.finder) }

pub serves_singles : (r s : SegSizes) (a : Singles) → IsShape s → Serves r s → IsSingles r a → IsSingles s a
serves_singles r s a h v x = λ t.
    let few = fewer_blocks r s h v in
    let same : block_voxels s ≡ block_voxels r = ap (λ q. slice_index q 0 * slice_index q 1 * slice_index q 2) v.block in
    let p : HasPlaces r a = x (subst (λ q. IsTrue (q == 1)) same t) in
    record { values = omega (arith, few, p.values); spots = omega (arith, few, p.spots); finder = omega (arith, few, p.finder) }
