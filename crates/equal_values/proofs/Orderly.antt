-- From the positions of values in an order to their places.
use Rattle.std.proofs.Common.{◌≡◌, ◌⊎◌, ℕ, ◌<◌, List, slice_index, arith, ap, ◌∙◌, sym, ⊎_elim, option_map, Some, None}
use Rattle.std.proofs.lemmas.Bool.{cases_order}
use Rattle.equal_values.specs.Earlier.{earlier}
use Rattle.equal_values.specs.Orders.{IsOrder}
use Rattle.equal_values.proofs.Firsts.{IsEarlier, IsNew, earlier_is, earlier_or_new, none_is}

-- equal values: the earlier place stands at the earlier position
sooner : (values order moved : List ℕ) (n a b : ℕ) → IsOrder values order moved n → a < n → b < n
    → slice_index order b < slice_index order a
    → slice_index values (slice_index order b) ≡ slice_index values (slice_index order a) → b < a
sooner values order moved n a b o la lb less e =
    let same : slice_index moved b ≡ slice_index moved a = o.same b lb ∙ e ∙ sym (o.same a la) in
    ⊎_elim
    (λ (s : a ≡ b). absurd (omega (arith, less, ap (slice_index order) s)))
    (λ (r : (a < b) ⊎ (b < a)). ⊎_elim
    (λ (l : a < b). absurd (omega (arith, less, o.rises a b l lb (sym same))))
    (λ (l : b < a). l)
    r)
    (cases_order a b)

ordered : (values order moved : List ℕ) (n a : ℕ) → IsOrder values order moved n → a < n
    → option_map (slice_index order) (earlier moved a) ≡ earlier values (slice_index order a)
ordered values order moved n a o la =
    let k : ℕ = slice_index order a in ⊎_elim
    (λ (t : (j : ℕ) × IsEarlier moved a j).
    let lb : t.0 < n = omega (arith, t.1.below) in
    let place : ℕ = slice_index order t.0 in
    let e : slice_index values place ≡ slice_index values k = sym (o.same t.0 lb) ∙ t.1.equal ∙ o.same a la in
    let less : place < k = o.rises t.0 a t.1.below la t.1.equal in
    ap (option_map (slice_index order)) t.1.is ∙ sym (earlier_is values k place less e
    (λ i l q.
    let w = o.all i (omega (arith, l, o.within t.0 lb)) in
    let at : slice_index values (slice_index order w.0) ≡ slice_index values k = ap (slice_index values) w.2 ∙ q in
    let less : w.0 < t.0 = sooner values order moved n t.0 w.0 o lb w.1 (omega (arith, w.2, l)) (at ∙ sym e) in
    t.1.before w.0 less (o.same w.0 w.1 ∙ at ∙ sym (o.same a la)))))
    (λ (m : IsNew moved a).
    ap (option_map (slice_index order)) m.is ∙ sym (none_is values k
    (λ i l q.
    let w = o.all i (omega (arith, l, o.within a la)) in
    let at : slice_index values (slice_index order w.0) ≡ slice_index values k = ap (slice_index values) w.2 ∙ q in
    let less : w.0 < a = sooner values order moved n a w.0 o la w.1 (omega (arith, w.2, l)) at in
    m.none w.0 less (o.same w.0 w.1 ∙ at ∙ sym (o.same a la)))))
    (earlier_or_new moved a)

pub ordered_some : (values order moved : List ℕ) (n a b : ℕ) → IsOrder values order moved n → a < n
    → earlier moved a ≡ Some b → earlier values (slice_index order a) ≡ Some (slice_index order b)
ordered_some values order moved n a b o la e =
    sym (ordered values order moved n a o la) ∙ ap (option_map (slice_index order)) e

pub ordered_none : (values order moved : List ℕ) (n a : ℕ) → IsOrder values order moved n → a < n
    → earlier moved a ≡ None → earlier values (slice_index order a) ≡ None
ordered_none values order moved n a o la e =
    sym (ordered values order moved n a o la) ∙ ap (option_map (slice_index order)) e
