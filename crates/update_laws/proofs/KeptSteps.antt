-- A cell of a shard without a fault stands in a row exactly where something is told of it.
use Rattle.std.proofs.Common.{◌≡◌, ℕ, zero, suc, ◌+◌, ◌<◌, ◌==◌, nat_le, Bool, true, false, ◌||◌, if◌then◌else◌, ◌∷◌, length, map, slice_index, Option, Some, None, refl, ap, ◌∙◌, sym, subst, arith}
use Rattle.std.specs.Prelude.{Result, Ok, Err}
use Rattle.std.specs.List.{find, list_any, range_with_len}
use Rattle.std.specs.Option.{option_map_or}
use Rattle.std.proofs.lemmas.Bool.Decides.{nat_tests}
use Rattle.std.proofs.lemmas.List.Sums.{sum_by_more}
use Rattle.vol_base.specs.declared.faults.Fault.{Fault}
use Rattle.vol_base.specs.declared.faults.IndexFault.{IndexFault}
use Rattle.vol_spec.specs.BoxValues.{first_some}
use Rattle.vol_spec.specs.Rows.{Columns, find_in, id_at, judged_by, judged_row, start_at, stops, stops_at, wanted_row}
use Rattle.vol_spec.specs.declared.row.Row.{Row}
use Rattle.update_laws.specs.Kept.{has_row, row_fault, rows_fault}

-- whether a look-up tells anything
abbrev pub tells : {A : Type 0} → Result (Option A) IndexFault → Bool
tells (Ok None) = false
tells (Ok (Some a)) = true
tells (Err fault) = true

sound_row : (seen : Result Row IndexFault) → row_fault seen ≡ None → (row : Row) × (seen ≡ Ok row)
sound_row (Ok row) e = (row, refl)
sound_row (Err fault) e = absurd (cc e)

pub ok_id : (r stored id start size : ℕ) (row : Row) → judged_by r stored id start size ≡ Ok row → row.id ≡ id
ok_id r stored id start size row is = grind (arith, nat_tests)

pub ok_later : (r stored id start size : ℕ) (row : Row) → judged_by r stored id start size ≡ Ok row → 0 < r → 0 < stored
ok_later r stored id start size row is later = grind (arith, nat_tests)

chosen : (b : Bool) (row : Row) → tells (Ok (if b then Some row else None)) ≡ b
chosen true row = refl
chosen false row = refl

module _ (c : Columns) (wanted : ℕ) where
  abbrev is_it : ℕ → Bool
  is_it r = id_at c r == wanted

  abbrev found_from : ℕ → ℕ → Result (Option Row) IndexFault
  found_from a n = option_map_or (λ r. wanted_row wanted (judged_row c r)) (find (stops c wanted) (range_with_len a n)) (Ok None)

  -- rows behind one with a higher id
  none_behind : (a n : ℕ) → ((k : ℕ) → k < n → wanted < id_at c (a + k)) → list_any is_it (range_with_len a n) ≡ false
  none_behind a zero above = refl
  none_behind a (suc n) above =
      let zero_on : a + 0 ≡ a = omega arith in
      let here : wanted < id_at c a = subst (λ r. wanted < id_at c r) zero_on (above 0 (omega arith)) in
      let not_it : is_it a ≡ false = grind (arith, nat_tests) in
      ap (λ b. b || list_any is_it (range_with_len (a + 1) n)) not_it
      ∙ none_behind (a + 1) n (λ k h.
      let on : a + (k + 1) ≡ (a + 1) + k = omega arith in
      subst (λ r. wanted < id_at c r) on (above (k + 1) (omega arith)))

  -- ids of sound rows ascend
  ascends : (r : ℕ) (row : Row) → judged_row c (r + 1) ≡ Ok row → r + 1 < length c.ids → id_at c r < id_at c (r + 1)
  ascends r row is within =
      let some : 0 < slice_index c.ids (r + 1) = ok_later (r + 1) (slice_index c.ids (r + 1)) (id_at c (r + 1)) (start_at c (r + 1)) (slice_index c.sizes (r + 1)) row is (omega arith) in
      let more = sum_by_more (λ n. n) c.ids (r + 1) 0 within in
      omega arith

  pub far : (a k : ℕ) → ((r : ℕ) → r < length c.ids → (row : Row) × (judged_row c r ≡ Ok row)) → a + suc k < length c.ids → id_at c a < id_at c (a + suc k)
  far a zero sound within =
      let at_a : a + 1 ≡ a + suc 0 = omega arith in
      let (row, is) = sound (a + 1) (omega arith) in
      ascends a row is (omega arith)
  far a (suc k) sound within =
      let before = far a k sound (omega arith) in
      let (row, is) = sound (a + suc k + 1) (omega arith) in
      let next = ascends (a + suc k) row is (omega arith) in
      let same : a + suc k + 1 ≡ a + suc (suc k) = omega arith in
      let up : id_at c a < id_at c (a + suc k + 1) = omega arith in
      subst (λ r. id_at c a < id_at c r) same up

  looked_up : (sound : (r : ℕ) → r < length c.ids → (row : Row) × (judged_row c r ≡ Ok row)) → (n a : ℕ) → a + n ≡ length c.ids → tells (found_from a n) ≡ list_any is_it (range_with_len a n)
  looked_up sound zero a len = refl
  looked_up sound (suc n) a len =
      let (row, is) = sound a (omega arith) in
      let id : row.id ≡ id_at c a = ok_id a (slice_index c.ids a) (id_at c a) (start_at c a) (slice_index c.sizes a) row is in
      by row is id (nat_le wanted row.id) refl (looked_up sound n (a + 1) (omega arith))
    where
      by : (row : Row) → judged_row c a ≡ Ok row → row.id ≡ id_at c a → (b : Bool) → nat_le wanted row.id ≡ b → tells (found_from (a + 1) n) ≡ list_any is_it (range_with_len (a + 1) n)
          → tells (found_from a (suc n)) ≡ list_any is_it (range_with_len a (suc n))
      by row is id true e later =
          let stop : stops c wanted a ≡ true = ap (stops_at wanted) is ∙ e in
          let answer : found_from a (suc n) ≡ wanted_row wanted (judged_row c a) = rw stop refl in
          ap tells (answer ∙ ap (wanted_row wanted) is) ∙ chosen (row.id == wanted) row ∙ ap (λ k. k == wanted) id ∙ rest (is_it a) refl
        where
          rest : (b : Bool) → is_it a ≡ b → b ≡ (b || list_any is_it (range_with_len (a + 1) n))
          rest true f = refl
          rest false f =
              let above : wanted < id_at c a = grind (arith, nat_tests) in
              sym (none_behind (a + 1) n (λ k h.
              let more = far a k sound (omega arith) in
              let on : a + suc k ≡ (a + 1) + k = omega arith in
              let up : wanted < id_at c (a + suc k) = omega arith in
              subst (λ r. wanted < id_at c r) on up))
      by row is id false e later =
          let stop : stops c wanted a ≡ false = ap (stops_at wanted) is ∙ e in
          let answer : found_from a (suc n) ≡ found_from (a + 1) n = rw stop refl in
          let not_it : is_it a ≡ false = grind (arith, nat_tests) in
          ap tells answer ∙ later ∙ ap (λ b. b || list_any is_it (range_with_len (a + 1) n)) (sym not_it)

-- where no row has a fault, an id is found exactly where it stands in one
pub each_row : (c : Columns) (a n : ℕ) → first_some (map (λ r. row_fault (judged_row c r)) (range_with_len a n)) ≡ None → (k : ℕ) → k < n → (row : Row) × (judged_row c (a + k) ≡ Ok row)
each_row c a zero e k h = absurd (omega arith)
each_row c a (suc n) e k h = by (row_fault (judged_row c a)) refl e k h (each_row c (a + 1) n)
  where
    by : (o : Option Fault) → row_fault (judged_row c a) ≡ o → first_some (o ∷ map (λ r. row_fault (judged_row c r)) (range_with_len (a + 1) n)) ≡ None → (k : ℕ) → k < suc n
        → (first_some (map (λ r. row_fault (judged_row c r)) (range_with_len (a + 1) n)) ≡ None → (k : ℕ) → k < n → (row : Row) × (judged_row c ((a + 1) + k) ≡ Ok row))
        → (row : Row) × (judged_row c (a + k) ≡ Ok row)
    by (Some fault) is e k h later = absurd (cc e)
    by None is e zero h later =
        let zero_on : a ≡ a + 0 = omega arith in
        subst (λ r. (row : Row) × (judged_row c r ≡ Ok row)) zero_on (sound_row (judged_row c a) is)
    by None is e (suc k) h later =
        let on : (a + 1) + k ≡ a + suc k = omega arith in
        subst (λ r. (row : Row) × (judged_row c r ≡ Ok row)) on (later e k (omega arith))

pub found_is : (c : Columns) (rows wanted : ℕ) → length c.ids ≡ rows → rows_fault c rows ≡ None → tells (find_in c wanted) ≡ has_row c rows wanted
found_is c rows wanted len e =
    let sound : (r : ℕ) → r < length c.ids → (row : Row) × (judged_row c r ≡ Ok row) = λ r h.
    let zero_on : 0 + r ≡ r = omega arith in
    subst (λ k. (row : Row) × (judged_row c k ≡ Ok row)) zero_on (each_row c 0 rows e r (omega arith)) in
    looked_up c wanted sound (length c.ids) 0 (omega arith) ∙ ap (λ n. has_row c n wanted) len
