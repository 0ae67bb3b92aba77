-- The writes that are read from the stream of a list.
use Rattle.std.proofs.Common.{◌≡◌, ℕ, suc, ◌+◌, ◌-◌, ◌^◌, ◌<◌, ◌≤◌, Bool, true, false, nat_lt, List, [], ◌∷◌, ◌++◌, length, map, drop, Option, Some, None, Result, Ok, Err, sym, ap, ◌∙◌, refl, arith, lit<}
use Rattle.std.specs.Prelude.{◌==◌, ℤ, pos, negsuc, neg_ℤ, ◌+ℤ◌, ◌≤ℤ◌, slice_index, FitsSigned, if◌then◌else◌}
use Rattle.std.specs.Int.{w32, w64, cast_signed, cast_unsigned, from_le_bytes}
use Rattle.std.specs.List.{All}
use Rattle.std.specs.Str.{bytes_eq}
use Rattle.std.proofs.lemmas.Bool.Decides.{nat_tests}
use Rattle.std.proofs.lemmas.Int.{ints, to_z-of_z}
use Rattle.std.proofs.lemmas.List.{append-nil, append_assoc, drop_at, length-append, length_push, take_at}
use Rattle.std.proofs.lemmas.List.Sums.{sum_by-cons}
use Rattle.std.proofs.lemmas.Nat.{from_le_bytes-to_le_bytes_4, from_le_bytes-to_le_bytes_8}
use Rattle.byteorder.specs.Endian.{little_bytes}
use Rattle.vol_base.specs.declared.boxes.Box3.{Box3}
use Rattle.vol_base.specs.Boxes.{IsSome, at, on_axes, size}
use Rattle.vol_spec.specs.Grid.{Inside, whole}
use Rattle.vol_spec.specs.Raw.{raw_len}
use Rattle.vol_spec.specs.declared.scale.Scale.{Scale}
use Rattle.chunk_grid.specs.Axes.{LiesOn}
use Rattle.chunk_grid.proofs.GridSteps.{Inside-on}
use Rattle.write_plan.specs.Reading.{◌>>=◌, box_at, count_at, ended, front, judged, limited, marked, write_at, writes_at, writes_read}
use Rattle.write_plan.specs.Stream.{box_of, is_empty, is_within, magic, unless_fault, writes_of}
use Rattle.write_plan.specs.WriteLists.{BoxWrite, IsWriteOf, total}
use Rattle.write_plan.specs.declared.fault.PlanFault.{PlanFault}
use Rattle.write_plan.specs.declared.fault.PlanFault.TheVariants.{BadMagic, Truncated, WritesTooLarge}
use Rattle.write_plan.proofs.BoxSteps.{Inside-within}
use Rattle.write_plan.proofs.ListSteps.{total_last}
use Rattle.write_plan.proofs.SumSteps.{summed}
use Rattle.vectors_vol.specs.WriteStreams.{head_of, size_fault, stream_of, unless_large, written}

-- a box has three begins and three sizes
abbrev pub HasAxes : Box3 → Type 0
HasAxes b = b ≡ record { begin = on_axes (at b.begin); size = on_axes (size b) }

-- a write of a scale whose box has three axes
pub record IsSpelled (s : Scale) (w : BoxWrite) : Type 0 where
  pub axes : HasAxes w.0
  pub of_scale : IsWriteOf s w

-- the front of a list, and what comes after it
front_of : (n : ℕ) (fault : PlanFault) (xs ys : List ℕ) → length xs ≡ n → front n fault (xs ++ ys) ≡ Ok (xs, ys)
front_of n fault xs ys len =
    let enough : nat_lt (length (xs ++ ys)) n ≡ false = (let l = length-append xs ys in grind (arith, nat_tests)) in
    let same : Result (List ℕ × List ℕ) PlanFault = Ok (xs, ys) in
    rw enough (ap (λ zs. (let r : Result (List ℕ × List ℕ) PlanFault = Ok (zs, drop n (xs ++ ys)) in r)) (take_at xs ys n len)
    ∙ ap (λ zs. (let r : Result (List ℕ × List ℕ) PlanFault = Ok (xs, zs) in r)) (drop_at xs ys n len))

-- the numbers of a head are read as they were written
word_back : (n : ℕ) → n < 2 ^ 64 → from_le_bytes w64 (little_bytes 8 n) ≡ n
word_back n h = from_le_bytes-to_le_bytes_8 n h

signed_back : (z : ℤ) → neg_ℤ (pos (2 ^ 41)) ≤ℤ z → z ≤ℤ pos (2 ^ 41) → cast_signed w64 (from_le_bytes w64 (little_bytes 8 (cast_unsigned w64 z))) ≡ z
signed_back (pos n) low high =
    let small : n ≤ 2 ^ 41 = omega (arith, ints) in
    let fits : FitsSigned w64 (pos n) = record { sfits = omega arith } in
    ap (cast_signed w64) (word_back n (omega arith)) ∙ to_z-of_z w64 (pos n) fits
signed_back (negsuc n) low high =
    let small : n ≤ 2 ^ 41 = omega (arith, ints) in
    let fits : FitsSigned w64 (negsuc n) = record { sfits = omega arith } in
    ap (cast_signed w64) (word_back (2 ^ 64 - suc n) (omega arith)) ∙ to_z-of_z w64 (negsuc n) fits

same_box : (x x' y y' z z' : ℤ) (u u' v v' w w' : ℕ) → x ≡ x' → y ≡ y' → z ≡ z' → u ≡ u' → v ≡ v' → w ≡ w'
    → (let b : Box3 = record { begin = x ∷ y ∷ z ∷ []; size = u ∷ v ∷ w ∷ [] } in b) ≡ record { begin = x' ∷ y' ∷ z' ∷ []; size = u' ∷ v' ∷ w' ∷ [] }
same_box x x' y y' z z' u u' v v' w w' hx hy hz hu hv hw = cc

-- the numbers of a box fit a head
pub record FitsHead (b : Box3) (axis : ℕ) : Type 0 where
  pub low : neg_ℤ (pos (2 ^ 41)) ≤ℤ at b.begin axis
  pub high : at b.begin axis ≤ℤ pos (2 ^ 41)
  pub small : size b axis < 2 ^ 64

box_back : (b : Box3) → HasAxes b → FitsHead b 0 → FitsHead b 1 → FitsHead b 2 → box_of (head_of b) ≡ b
unfolding head_of
box_back b axes x y z =
    same_box _ (at b.begin 0) _ (at b.begin 1) _ (at b.begin 2) _ (size b 0) _ (size b 1) _ (size b 2)
    (signed_back (at b.begin 0) x.low x.high) (signed_back (at b.begin 1) y.low y.high) (signed_back (at b.begin 2) z.low z.high)
    (word_back (size b 0) x.small) (word_back (size b 1) y.small) (word_back (size b 2) z.small)
    ∙ sym axes

length-head_of : (b : Box3) → length (head_of b) ≡ 48
unfolding head_of
length-head_of b = refl

fits_on : (o p : ℤ) (whole n : ℕ) → neg_ℤ (pos (2 ^ 40)) ≤ℤ o → o ≤ℤ pos (2 ^ 40) → whole ≤ 2 ^ 40 → o ≤ℤ p → (p +ℤ pos n) ≤ℤ (o +ℤ pos whole)
    → (neg_ℤ (pos (2 ^ 41)) ≤ℤ p) × ((p ≤ℤ pos (2 ^ 41)) × (n < 2 ^ 64))
fits_on o p whole n low high few begins ends = (omega (arith, ints), (omega (arith, ints), omega (arith, ints)))

fits_head : (s : Scale) (b : Box3) (axis : ℕ) → axis < 3 → LiesOn s b axis → FitsHead b axis
fits_head s b axis h lies =
    let fits = fits_on (at s.offset axis) (at b.begin axis) (slice_index s.size axis) (size b axis) (s.offset_ok axis h).0 (s.offset_ok axis h).1 (s.size_ok axis h).1 lies.begins lies.ends in
    record { low = fits.0; high = fits.1.0; small = fits.1.1 }

box_again : (s : Scale) (w : BoxWrite) → IsSpelled s w → box_of (head_of w.0) ≡ w.0
box_again s w h =
    let on = Inside-on s w.0 h.of_scale.inside in
    box_back w.0 h.axes (fits_head s w.0 0 (lit< tt) (on 0 (lit< tt))) (fits_head s w.0 1 (lit< tt) (on 1 (lit< tt))) (fits_head s w.0 2 (lit< tt) (on 2 (lit< tt)))

not_empty : (b : Box3) → IsSome b → is_empty b ≡ false
not_empty b some =
    let x : (size b 0 == 0) ≡ false = positive (size b 0) (some 0 (lit< tt)) in
    let y : (size b 1 == 0) ≡ false = positive (size b 1) (some 1 (lit< tt)) in
    let z : (size b 2 == 0) ≡ false = positive (size b 2) (some 2 (lit< tt)) in
    rw (x, y, z) refl
  where
    positive : (n : ℕ) → 0 < n → (n == 0) ≡ false
    positive n h = grind (arith, nat_tests)

-- a box of the scale is refused exactly for what its values come to
judged_is : (s : Scale) (i before : ℕ) (b : Box3) (large : Bool) → Inside s b → nat_lt (2 ^ 30) (before + raw_len b s.channels s.width) ≡ large
    → judged s i before b ≡ (if large then Err (WritesTooLarge i) else Ok b)
unfolding judged
judged_is s i before b large inside h =
    let some : is_empty b ≡ false = not_empty b inside.some in
    let within : is_within s b ≡ true = Inside-within s b inside in
    rw (some, within, h) refl

box_at_is : (s : Scale) (i before : ℕ) (w : BoxWrite) (tail : List ℕ) (large : Bool) → IsSpelled s w → nat_lt (2 ^ 30) (before + length w.1) ≡ large
    → box_at s i before (head_of w.0 ++ tail) ≡ (if large then Err (WritesTooLarge i) else Ok (w.0, tail))
unfolding box_at
box_at_is s i before w tail large h room =
    let go : List ℕ × List ℕ → Result (Box3 × List ℕ) PlanFault =
    λ head. judged s i before (box_of head.0) >>= λ b. Ok (b, head.1) in
    let len : nat_lt (2 ^ 30) (before + raw_len w.0 s.channels s.width) ≡ large =
    ap (λ n. nat_lt (2 ^ 30) (before + n)) (sym h.of_scale.bytes) ∙ room in
    let with_tail : Box3 → Result (Box3 × List ℕ) PlanFault = λ b. Ok (b, tail) in
    ap (λ r. r >>= go) (front_of 48 (Truncated i) (head_of w.0) tail (length-head_of w.0))
    ∙ ap (λ b. judged s i before b >>= with_tail) (box_again s w h)
    ∙ ap (λ r. r >>= with_tail) (judged_is s i before w.0 large h.of_scale.inside len)
    ∙ by_size large
  where
    by_size : (large : Bool) → ((if large then Err (WritesTooLarge i) else Ok w.0) >>= λ (b : Box3). (let r : Result (Box3 × List ℕ) PlanFault = Ok (b, tail) in r))
        ≡ (if large then Err (WritesTooLarge i) else Ok (w.0, tail))
    by_size true = refl
    by_size false = refl

-- the write in front of others
write_at_is : (s : Scale) (i before : ℕ) (w : BoxWrite) (rest : List ℕ) (large : Bool) → IsSpelled s w → nat_lt (2 ^ 30) (before + length w.1) ≡ large
    → write_at s i before (head_of w.0 ++ w.1 ++ rest) ≡ (if large then Err (WritesTooLarge i) else Ok (w, rest))
unfolding write_at
write_at_is s i before w rest large h room =
    let go : Box3 × List ℕ → Result (BoxWrite × List ℕ) PlanFault =
    λ b. front (raw_len b.0 s.channels s.width) (Truncated i) b.1 >>= λ values. Ok ((b.0, values.0), values.1) in
    ap (λ xs. box_at s i before xs >>= go) (append_assoc (head_of w.0) w.1 rest)
    ∙ ap (λ r. r >>= go) (box_at_is s i before w (w.1 ++ rest) large h room)
    ∙ by_size large
  where
    by_size : (large : Bool) → ((if large then Err (WritesTooLarge i) else Ok (w.0, w.1 ++ rest)) >>= λ (b : Box3 × List ℕ). front (raw_len b.0 s.channels s.width) (Truncated i) b.1 >>= λ values. (let r : Result (BoxWrite × List ℕ) PlanFault = Ok ((b.0, values.0), values.1) in r))
        ≡ (if large then Err (WritesTooLarge i) else Ok (w, rest))
    by_size true = refl
    by_size false = ap (λ r. r >>= λ (values : List ℕ × List ℕ). (let r : Result (BoxWrite × List ℕ) PlanFault = Ok ((w.0, values.0), values.1) in r)) (front_of (raw_len w.0 s.channels s.width) (Truncated i) w.1 rest h.of_scale.bytes)

-- one write more in front
one_more : (s : Scale) (w : BoxWrite) (ws before : List BoxWrite) (large : Bool) → IsSpelled s w → nat_lt (2 ^ 30) (total before + length w.1) ≡ large
    → writes_at s (length ws) (before ++ w ∷ []) (written ws) ≡ unless_fault (size_fault (length (before ++ w ∷ [])) (total (before ++ w ∷ [])) ws) ((before ++ w ∷ []) ++ ws, [])
    → writes_at s (suc (length ws)) before (written (w ∷ ws)) ≡ unless_fault (size_fault (length before) (total before) (w ∷ ws)) (before ++ w ∷ ws, [])
unfolding writes_at
one_more s w ws before true first room later =
    let go : BoxWrite × List ℕ → Result (List BoxWrite × List ℕ) PlanFault = λ write. writes_at s (length ws) (before ++ write.0 ∷ []) write.1 in
    ap (λ r. r >>= go) (write_at_is s (length before) (total before) w (written ws) true first room) ∙ rw room refl
one_more s w ws before false first room later =
    let go : BoxWrite × List ℕ → Result (List BoxWrite × List ℕ) PlanFault = λ write. writes_at s (length ws) (before ++ write.0 ∷ []) write.1 in
    let all : List BoxWrite = (before ++ w ∷ []) ++ ws in
    ap (λ r. r >>= go) (write_at_is s (length before) (total before) w (written ws) false first room) ∙ later
    ∙ ap (λ n. unless_fault (size_fault n (total (before ++ w ∷ [])) ws) (let r : List BoxWrite × List ℕ = (all, []) in r)) (length_push before w)
    ∙ ap (λ n. unless_fault (size_fault (length before + 1) n ws) (let r : List BoxWrite × List ℕ = (all, []) in r)) (total_last before w)
    ∙ ap (λ xs. unless_fault (size_fault (length before + 1) (total before + length w.1) ws) (let r : List BoxWrite × List ℕ = (xs, []) in r)) (append_assoc before (w ∷ []) ws)
    ∙ rw room refl

writes_are : (s : Scale) (ws before : List BoxWrite) → All (IsSpelled s) ws
    → writes_at s (length ws) before (written ws) ≡ unless_fault (size_fault (length before) (total before) ws) (before ++ ws, [])
unfolding writes_at
writes_are s [] before each = ap (λ xs. (let r : Result (List BoxWrite × List ℕ) PlanFault = Ok (xs, []) in r)) (sym (append-nil before))
writes_are s (w ∷ ws) before each =
    one_more s w ws before (nat_lt (2 ^ 30) (total before + length w.1)) (each 0 w (omega arith)) refl
    (writes_are s ws (before ++ w ∷ []) (λ k d h. each (suc k) d (omega arith)))

-- the mark and the count
count_is : (n : ℕ) (rest : List ℕ) → n ≤ 65536 → count_at (magic ++ little_bytes 4 n ++ rest) ≡ Ok (n, rest)
unfolding count_at marked
count_is n rest few =
    let go : List ℕ → Result (ℕ × List ℕ) PlanFault = λ xs. front 4 (Truncated 0) xs >>= λ count. limited (from_le_bytes w32 count.0) count.1 in
    let mark : List ℕ × List ℕ → Result (List ℕ) PlanFault = λ head. if bytes_eq head.0 magic then Ok head.1 else Err BadMagic in
    let counted : List ℕ × List ℕ → Result (ℕ × List ℕ) PlanFault = λ count. limited (from_le_bytes w32 count.0) count.1 in
    let number : from_le_bytes w32 (little_bytes 4 n) ≡ n = from_le_bytes-to_le_bytes_4 n (omega arith) in
    let within : nat_lt 65536 n ≡ false = grind (arith, nat_tests) in
    let read : limited n rest ≡ Ok (n, rest) = rw within refl in
    ap (λ xs. front 4 BadMagic xs >>= mark >>= go) (append_assoc magic (little_bytes 4 n) rest)
    ∙ ap (λ r. r >>= mark >>= go) (front_of 4 BadMagic magic (little_bytes 4 n ++ rest) refl)
    ∙ ap (λ r. r >>= counted) (front_of 4 (Truncated 0) (little_bytes 4 n) rest refl)
    ∙ ap (λ k. limited k rest) number ∙ read

-- The stream of a list that is of a scale is read as the list, or refused at the first write with which the values have more than 2^30 bytes.
pub read_spelled : (s : Scale) (ws : List BoxWrite) → All (IsSpelled s) ws → length ws ≤ 65536 → writes_of (stream_of ws) s ≡ unless_large ws
unfolding writes_read
read_spelled s ws each few =
    let go : ℕ × List ℕ → Result (List BoxWrite) PlanFault = λ count. writes_at s count.0 [] count.1 >>= λ writes. ended writes.0 writes.1 in
    let all : List BoxWrite × List ℕ → Result (List BoxWrite) PlanFault = λ writes. ended writes.0 writes.1 in
    sym (summed (stream_of ws) s)
    ∙ ap (λ r. r >>= go) (count_is (length ws) (written ws) few)
    ∙ ap (λ r. r >>= all) (writes_are s ws [] each)
    ∙ by_fault (size_fault 0 0 ws)
  where
    by_fault : (o : Option PlanFault) → (unless_fault o (let r : List BoxWrite × List ℕ = (ws, []) in r) >>= λ writes. ended writes.0 writes.1) ≡ unless_fault o ws
    by_fault None = refl
    by_fault (Some fault) = refl

sum_first : (w : BoxWrite) (ws : List BoxWrite) → total (w ∷ ws) ≡ length w.1 + total ws
sum_first w ws = sum_by-cons (λ n. n) (length w.1) (map (λ (v : BoxWrite). length v.1) ws)

no_size_fault : (ws : List BoxWrite) (i before : ℕ) → before + total ws ≤ 2 ^ 30 → size_fault i before ws ≡ None
no_size_fault [] i before h = refl
no_size_fault (w ∷ ws) i before h =
    let parts : before + length w.1 + total ws ≤ 2 ^ 30 = omega (arith, sum_first w ws) in
    let small : nat_lt (2 ^ 30) (before + length w.1) ≡ false = tested (before + length w.1) (omega arith) in
    rw small (no_size_fault ws (i + 1) (before + length w.1) parts)
  where
    tested : (n : ℕ) → n ≤ 2 ^ 30 → nat_lt (2 ^ 30) n ≡ false
    tested n h = grind (arith, nat_tests)

-- under the limits it is the list
pub read_back : (s : Scale) (ws : List BoxWrite) → All (IsSpelled s) ws → length ws ≤ 65536 → total ws ≤ 2 ^ 30 → writes_of (stream_of ws) s ≡ Ok ws
read_back s ws each few small =
    read_spelled s ws each few ∙ ap (λ o. unless_fault o ws) (no_size_fault ws 0 0 (omega arith))
