-- Rows make planes, and planes a block.
use Rattle.std.proofs.Common.{◌≡◌, ◌≢◌, ◌⊎◌, ℕ, ◌+◌, ◌*◌, ◌<◌, ◌≤◌, List, arith, ◌∙◌, sym, subst, inl, inr, ⊎_elim}
use Rattle.std.proofs.lemmas.Bool.{cases_lt}
use Rattle.std.proofs.lemmas.Nat.{same_from_place}
use Rattle.std.proofs.Math.Nat.{mul-le-mul_left}
use Rattle.segment_blocks.specs.declared.block.Block.{Block}
use Rattle.segment_blocks.specs.Filled.{Voxel, Lies, Done, IsOut, InRow, InRows, InPlanes, spot, want, number_of}
use Rattle.segment_blocks.proofs.Fills.{filled_more}

-- two sets, one after the other
pub done_more : (P Q R : Voxel → Type 0) (b : Block) (values table : List ℕ) (w bits : ℕ) (old cur new : List ℕ)
    → Done P b values table w bits old cur → Done Q b values table w bits cur new
    → ((u v : Voxel) → P u → Q v → spot b u ≢ spot b v)
    → ((v : Voxel) → R v → P v ⊎ Q v) → ((v : Voxel) → P v → R v) → ((v : Voxel) → Q v → R v)
    → Done R b values table w bits old new
done_more P Q R b values table w bits old cur new f g apart split left right = record {
  filled = filled_more P Q R (spot b) (want b values table w bits) w old cur new f.filled g.filled apart split left right;
  has = λ v r. ⊎_elim (λ (p : P v). f.has v p) (λ (q : Q v). g.has v q) (split v r);
}

-- one value is that of one voxel
pub one_spot : (b : Block) (values : ℕ) (u v : Voxel) → Lies b values → u.x < b.count_x → v.x < b.count_x → u.y < b.count_y → v.y < b.count_y
    → spot b u ≡ spot b v → (u.x ≡ v.x) × (u.y ≡ v.y) × (u.z ≡ v.z)
one_spot b values u v l ux vx uy vy e =
    let outer = same_from_place ((b.y + u.y) + b.size_y * (b.z + u.z)) (b.x + u.x) ((b.y + v.y) + b.size_y * (b.z + v.z)) (b.x + v.x) b.size_x (omega (arith, l.x)) (omega (arith, l.x)) (omega arith) in
    let inner = same_from_place (b.z + u.z) (b.y + u.y) (b.z + v.z) (b.y + v.y) b.size_y (omega (arith, l.y)) (omega (arith, l.y)) (omega (arith, outer.0)) in
    (omega (arith, outer.1), omega (arith, inner.1), omega (arith, inner.0))

pub rows_more : (b : Block) (n : ℕ) (values table : List ℕ) (w bits y z : ℕ) (old cur new : List ℕ) → Lies b n → y < b.count_y
    → Done (InRows b y z) b values table w bits old cur → Done (InRow b y z) b values table w bits cur new → Done (InRows b (y + 1) z) b values table w bits old new
rows_more b n values table w bits y z old cur new l ly was now =
    done_more (InRows b y z) (InRow b y z) (InRows b (y + 1) z) b values table w bits old cur new was now
    (λ u v p q e. let same = one_spot b n u v l p.0 q.0 (omega (arith, p.1)) (omega (arith, q.1)) e in omega (arith, same.1, p.1, q.1))
    (λ v r. ⊎_elim (λ (h : v.y < y). inl (r.0, h, r.2)) (λ (h : y ≤ v.y). inr (r.0, omega (arith, r.1), r.2)) (cases_lt v.y y))
    (λ v p. (p.0, omega (arith, p.1), p.2))
    (λ v q. (q.0, omega (arith, q.1), q.2))

pub planes_more : (b : Block) (n : ℕ) (values table : List ℕ) (w bits z : ℕ) (old cur new : List ℕ) → Lies b n
    → Done (InPlanes b z) b values table w bits old cur → Done (InRows b b.count_y z) b values table w bits cur new → Done (InPlanes b (z + 1)) b values table w bits old new
planes_more b n values table w bits z old cur new l was now =
    done_more (InPlanes b z) (InRows b b.count_y z) (InPlanes b (z + 1)) b values table w bits old cur new was now
    (λ u v p q e. let same = one_spot b n u v l p.0 q.0 p.1 q.1 e in omega (arith, same.2, p.2, q.2))
    (λ v r. ⊎_elim (λ (h : v.z < z). inl (r.0, r.1, h)) (λ (h : z ≤ v.z). inr (r.0, r.1, omega (arith, r.2))) (cases_lt v.z z))
    (λ v p. (p.0, p.1, omega (arith, p.2)))
    (λ v q. (q.0, q.1, omega (arith, q.2)))

-- a voxel of a later row has a higher number
later : (b : Block) (u v : Voxel) → u.x < b.block_x → u.z ≡ v.z → u.y < v.y → number_of b u < number_of b v
later b u v lx ez ly =
    let e : b.block_x * ((u.y + b.block_y * v.z) + 1) ≤ b.block_x * (v.y + b.block_y * v.z) = mul-le-mul_left b.block_x (omega arith) in
    subst (λ q. u.x + b.block_x * (u.y + b.block_y * q) < number_of b v) (sym ez) (omega arith)

later_plane : (b : Block) (u v : Voxel) → u.x < b.block_x → u.y < b.block_y → u.z < v.z → number_of b u < number_of b v
later_plane b u v lx ly lz =
    let f : b.block_y * (u.z + 1) ≤ b.block_y * v.z = mul-le-mul_left b.block_y (omega arith) in
    let e : b.block_x * ((u.y + b.block_y * u.z) + 1) ≤ b.block_x * (v.y + b.block_y * v.z) = mul-le-mul_left b.block_x (omega arith) in
    omega arith

pub rows_out : (b : Block) (m : ℕ) (values table : List ℕ) (w bits y z n : ℕ) (old cur : List ℕ) → Lies b m → y < b.count_y
    → Done (InRows b y z) b values table w bits old cur → IsOut (InRow b y z) b values table w bits n → IsOut (InRows b b.count_y z) b values table w bits n
rows_out b m values table w bits y z n old cur l ly was o = record {
  at = (o.at.0, (o.at.1.0, omega (arith, o.at.1.1), o.at.1.2), o.at.2);
  out = o.out;
  before = λ v r less. ⊎_elim
      (λ (h : v.y < y). was.has v (r.0, h, r.2))
      (λ (h : y ≤ v.y). ⊎_elim
      (λ (g : y < v.y). let up = later b o.at.0 v (omega (arith, o.at.1.0, l.row)) (o.at.1.2 ∙ sym r.2) (omega (arith, o.at.1.1)) in absurd (omega (arith, up, o.at.2)))
      (λ (g : v.y ≤ y). o.before v (r.0, omega arith, r.2) less)
      (cases_lt y v.y))
      (cases_lt v.y y);
}

pub planes_out : (b : Block) (m : ℕ) (values table : List ℕ) (w bits z n : ℕ) (old cur : List ℕ) → Lies b m → z < b.count_z
    → Done (InPlanes b z) b values table w bits old cur → IsOut (InRows b b.count_y z) b values table w bits n → IsOut (InPlanes b b.count_z) b values table w bits n
planes_out b m values table w bits z n old cur l lz was o = record {
  at = (o.at.0, (o.at.1.0, o.at.1.1, omega (arith, o.at.1.2)), o.at.2);
  out = o.out;
  before = λ v r less. ⊎_elim
      (λ (h : v.z < z). was.has v (r.0, r.1, h))
      (λ (h : z ≤ v.z). ⊎_elim
      (λ (g : z < v.z). let up = later_plane b o.at.0 v (omega (arith, o.at.1.0, l.row)) (omega (arith, o.at.1.1, l.plane)) (omega (arith, o.at.1.2)) in absurd (omega (arith, up, o.at.2)))
      (λ (g : v.z ≤ z). o.before v (r.0, r.1, omega arith) less)
      (cases_lt z v.z))
      (cases_lt v.z z);
}
