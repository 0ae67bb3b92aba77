-- Columns of an index, one number on.
use Rattle.std.proofs.Common.{◌^◌, ⊎_elim, subst, ◌≡◌, ℕ, zero, suc, ◌+◌, ◌-◌, ◌*◌, ◌<◌, ◌≤◌, List, [], ◌∷◌, ◌++◌, length, take, drop, slice_index, slice_index_or, add-one, arith, refl, ap, ◌∙◌, sym, length-drop, length-append, append_assoc}
use Rattle.std.proofs.lemmas.Bool.{cases_lt}
use Rattle.std.proofs.lemmas.Grind.{common_steps, flat_map-append}
use Rattle.std.proofs.lemmas.List.{take_all, take_more, get_or-map, length-map}
use Rattle.std.proofs.Math.Seq.{drop-drop}
use borrow.Rule.Slice.PartMut.{put_mid}
use Rattle.byteorder.specs.Numbers.{length-bytes_low_first}
use Rattle.vol_spec.specs.IndexBytes.{ids, starts, ends, over, stored, eight, numbers}
use Rattle.minishard.specs.Numbers.{with_number}
use Rattle.vol_spec.specs.declared.row.Row.{Row}

pub length-eight : (n : ℕ) → length (eight n) ≡ 8
unfolding eight
length-eight n = length-bytes_low_first 0 8 n

-- the front of a list after a piece is put in
put_front : (a : ℕ) (xs piece : List ℕ) (n : ℕ) → n ≡ a + length piece → n ≤ length xs → take n (take a xs ++ piece ++ drop n xs) ≡ take a xs ++ piece
put_front a xs piece n e h = grind (arith, common_steps)

single : (n : ℕ) → numbers (n ∷ []) ≡ eight n
single n = grind (arith, common_steps)

pub number_more : (out ns : List ℕ) (r n : ℕ) → r < length ns → 8 * r + 8 ≤ length out → n ≡ slice_index ns r
    → take (8 * r) out ≡ numbers (take r ns) → take (8 * (r + 1)) (with_number out r n) ≡ numbers (take (r + 1) ns)
number_more out ns r n h fits e was =
    let up : 8 * (r + 1) ≡ 8 * r + 8 = omega arith in
    let eight_long = length-eight n in
    ap (λ k. take k (with_number out r n)) up
    ∙ put_front (8 * r) out (eight n) (8 * r + 8) (omega arith) fits
    ∙ ap (λ xs. xs ++ eight n) was
    ∙ (let one : eight n ≡ numbers (slice_index ns r ∷ []) = sym (single n) ∙ ap (λ m. numbers (m ∷ [])) e in
    ap (λ xs. numbers (take r ns) ++ xs) one ∙ sym (flat_map-append eight (take r ns) (slice_index ns r ∷ [])) ∙ ap numbers (sym (take_more ns r 0 h)))

put_to_end : (a : ℕ) (xs ys : List ℕ) → a ≤ length xs → length ys ≡ length xs - a → put_mid a (length xs - a) xs ys ≡ take a xs ++ ys
put_to_end a xs ys h e = grind (arith, common_steps)

pub put_over : (a : ℕ) (xs piece : List ℕ) → length piece ≡ 8 → a + 8 ≤ length xs
    → put_mid a (length xs - a) xs (piece ++ drop 8 (take (length xs - a) (drop a xs))) ≡ take a xs ++ piece ++ drop (a + 8) xs
put_over a xs piece e h =
    let whole : take (length xs - a) (drop a xs) ≡ drop a xs = take_all (length xs - a) (drop a xs) (omega (arith, length-drop a xs)) in
    let rest : drop 8 (take (length xs - a) (drop a xs)) ≡ drop (a + 8) xs = ap (drop 8) whole ∙ drop-drop 8 a xs in
    ap (λ ys. put_mid a (length xs - a) xs (piece ++ ys)) rest
    ∙ put_to_end a xs (piece ++ drop (a + 8) xs) (omega arith) (omega (arith, length-append piece (drop (a + 8) xs), length-drop (a + 8) xs)) ∙ sym (append_assoc (take a xs) piece (drop (a + 8) xs))

pub end_at : (rows : List Row) (r : ℕ) → r < length rows → slice_index (ends rows) r ≡ (slice_index_or rows r (record { id = 0; start = 0; size = 0 })).start + (slice_index_or rows r (record { id = 0; start = 0; size = 0 })).size
end_at rows r h = get_or-map (λ (row : Row). row.start + row.size) rows r (record { id = 0; start = 0; size = 0 }) 0 h

pub length-over : (xs before : List ℕ) → length xs ≤ length before → length (over xs before) ≡ length xs
length-over [] before h = refl
length-over (x ∷ xs) [] h = absurd (omega arith)
length-over (x ∷ xs) (b ∷ before) h = let rest = length-over xs before (omega arith) in omega arith

pub over_at : (xs before : List ℕ) (r : ℕ) → r < length xs → length xs ≤ length before → slice_index (over xs before) r ≡ slice_index xs r - slice_index before r
over_at [] before r h l = absurd (omega arith)
over_at (x ∷ xs) [] r h l = absurd (omega arith)
over_at (x ∷ xs) (b ∷ before) zero h l = refl
over_at (x ∷ xs) (b ∷ before) (suc r) h l = over_at xs before r (omega arith) (omega arith)

pub all_numbers : (out ns : List ℕ) (r : ℕ) → r ≡ length ns → length out ≡ 8 * length ns → take (8 * r) out ≡ numbers (take r ns) → out ≡ numbers ns
all_numbers out ns r e len was = sym (take_all (8 * r) out (omega arith)) ∙ was ∙ ap numbers (take_all r ns (omega arith))

pub length-ids : (rows : List Row) → length (stored rows).ids ≡ length rows
length-ids rows =
    let n : length (ids rows) ≡ length rows = length-map rows (λ (row : Row). row.id) in
    length-over (ids rows) (0 ∷ ids rows) (omega arith) ∙ n

pub length-starts : (rows : List Row) → length (stored rows).starts ≡ length rows
length-starts rows =
    let n : length (starts rows) ≡ length rows = length-map rows (λ (row : Row). row.start) in
    let m : length (ends rows) ≡ length rows = length-map rows (λ (row : Row). row.start + row.size) in
    length-over (starts rows) (0 ∷ ends rows) (omega arith) ∙ n

pub stored_id : (rows : List Row) (r : ℕ) → r < length rows → slice_index (stored rows).ids r ≡ slice_index (ids rows) r - slice_index (0 ∷ ids rows) r
stored_id rows r h =
    let n : length (ids rows) ≡ length rows = length-map rows (λ (row : Row). row.id) in
    over_at (ids rows) (0 ∷ ids rows) r (omega arith) (omega arith)

pub stored_start : (rows : List Row) (r : ℕ) → r < length rows → slice_index (stored rows).starts r ≡ slice_index (starts rows) r - slice_index (0 ∷ ends rows) r
stored_start rows r h =
    let n : length (starts rows) ≡ length rows = length-map rows (λ (row : Row). row.start) in
    let m : length (ends rows) ≡ length rows = length-map rows (λ (row : Row). row.start + row.size) in
    over_at (starts rows) (0 ∷ ends rows) r (omega arith) (omega arith)

pub next_before : (xs : List ℕ) (r : ℕ) → slice_index (0 ∷ xs) (r + 1) ≡ slice_index xs r
next_before xs r = rw add-one refl

-- numbers below the r-th one fit, and so does that one
pub below_next : (xs : List ℕ) (r : ℕ) → ((k : ℕ) → k < r → slice_index xs k < 2 ^ 64) → slice_index xs r < 2 ^ 64 → (k : ℕ) → k < r + 1 → slice_index xs k < 2 ^ 64
below_next xs r before here k h =
    ⊎_elim (λ (l : k < r). before k l) (λ (ge : r ≤ k). let e : r ≡ k = omega arith in subst (λ (i : ℕ). slice_index xs i < 2 ^ 64) e here) (cases_lt k r)
