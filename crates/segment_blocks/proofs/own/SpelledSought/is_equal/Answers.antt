use Rattle.std.proofs.Common.{arith, ◌≡◌, ◌*◌, ℕ, List, length, slice_index, take, drop, ap, ◌∙◌, sym, subst, refl, ⊎_elim, Bool, true, false, IsTrue}
use Rattle.std.specs.Prelude.{flat_map}
use Rattle.equal_values.proofs.Ranges.{either}
use Rattle.vol_spec.specs.BoxValues.{bytes_of}
use Rattle.vol_spec.specs.SegSizes.{width_of}
use Rattle.vol_spec.specs.SegWritten.{same, table}
use Rattle.vol_spec.specs.SegShapes.{sizes_of}
use Rattle.segment_blocks.specs.Said.{said}
use Rattle.segment_blocks.proofs.Equal.{AreNarrow, equal_bytes, same_is, same_self}
use Rattle.segment_blocks.proofs.own.SpelledSought.is_equal.Goals as goal

told : (b : Bool) (w v m n : ℕ) (xs ys p q : List ℕ) → (IsTrue b → (m ≡ n) × (take (v * m) p ≡ take (v * n) q)) → ((m ≡ n) × (take (v * m) p ≡ take (v * n) q) → IsTrue b)
    → v ≡ w → m ≡ length xs → n ≡ length ys → take (w * m) p ≡ flat_map (bytes_of w) xs → take (w * n) q ≡ flat_map (bytes_of w) ys → AreNarrow w xs → AreNarrow w ys → b ≡ same xs ys
told true w v m n xs ys p q to from ev em en ep eq nx ny =
    let h = to refl in
    let bytes : take (w * m) p ≡ take (w * n) q = ap (λ u. take (u * m) p) (sym ev) ∙ h.1 ∙ ap (λ u. take (u * n) q) ev in
    let e : xs ≡ ys = equal_bytes w xs ys nx ny (sym em ∙ h.0 ∙ en) (sym ep ∙ bytes ∙ eq) in
    sym (subst (λ z. same xs z ≡ true) e (same_self xs))
told false w v m n xs ys p q to from ev em en ep eq nx ny = ⊎_elim
    (λ (t : same xs ys ≡ true).
    let e : xs ≡ ys = same_is xs ys t in
    let bytes : take (v * m) p ≡ take (v * n) q = ap (λ u. take (u * m) p) ev ∙ ep ∙ ap (flat_map (bytes_of w)) e ∙ sym eq ∙ ap (λ u. take (u * n) q) (sym ev) in
    from (em ∙ ap length e ∙ sym en, bytes) ∙ sym t)
    (λ (f : same xs ys ≡ false). sym f)
    (either (same xs ys))

pub returns : goal.returns
returns c =
    let b = c.args.self.now in
    let s = sizes_of b.shape.now in
    let raw : List ℕ = said s b.chunk.now in
    let j : ℕ = c.args.j in
    let k : ℕ = b.k in
    let lens : List ℕ = b.lens.now in
    let at : List ℕ = b.at.now in
    let stored = c.requires.ready.0 in
    told c.is_same.result (width_of b.shape.now.wide) c.find_width.result (slice_index lens j) (slice_index lens k) (table s raw b.c j) (table s raw b.c k)
    (drop (slice_index at j) b.channel.now) (drop (slice_index at k) b.channel.now) c.is_same.ensures.0 c.is_same.ensures.1 c.find_width.ensures
    (stored.len j (omega (arith, c.requires.before))) (stored.len k (omega arith)) (stored.here j (omega (arith, c.requires.before))) (stored.here k (omega arith))
    (stored.narrow j (omega (arith, c.requires.before))) (stored.narrow k (omega arith))
