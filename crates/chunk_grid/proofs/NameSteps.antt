-- Distinct cells have distinct names, and each is under its scale's folder.
use Rattle.std.proofs.Common.{◌≡◌, ◌≢◌, ℕ, suc, ◌+◌, ◌*◌, ◌/◌, ◌%◌, ◌^◌, ◌<◌, ◌≤◌, List, [], ◌∷◌, ◌++◌, true, false, ◌==◌, length, get_or, take, drop, None, refl, ap, ◌∙◌, sym, subst, arith, lit<, append_assoc, inl, inr}
use Rattle.std.specs.Prelude.{ℤ, pos, negsuc, neg_ℤ, ◌≤ℤ◌, ◌+ℤ◌, All, AllPairs, slice_index}
use Rattle.std.specs.FinMap as fin
use Rattle.std.specs.Int.Signed.{mag}
use Rattle.std.specs.Fmt.{decimal, signed_decimal}
use Rattle.std.specs.Str.{bytes_eq}
use Rattle.std.proofs.lemmas.Bool.{and_from, cases_lt}
use Rattle.std.proofs.lemmas.Fmt.{decimal_by_steps, decimal_nonempty, signed_decimal_injective}
use Rattle.std.proofs.lemmas.Int.{ints}
use Rattle.std.proofs.lemmas.List.{append_cancel_left, get_or_at, take_at}
use Rattle.std.proofs.lemmas.List.Elements.{All-nil, All-cons, All-head, All-tail, All-append, All-drop}
use Rattle.std.proofs.lemmas.Slice.Eq.{bytes_eq-Decides}
use Rattle.std.proofs.Math.Nat.{mul-div_cancel}
use Rattle.vol_base.specs.declared.boxes.Box3.{Box3}
use Rattle.vol_base.specs.Boxes.{at, end, size}
use Rattle.vol_base.specs.Outside.{Objects, any_under, is_under}
use Rattle.vol_spec.specs.CellNames.{joined, folder_of, span_text, box_name, cell_name}
use Rattle.vol_spec.specs.Grid.{IsCell, cell_box}
use Rattle.vol_spec.specs.StoredCells.{cell_number, AreInOrder, cell_of}
use Rattle.vol_spec.specs.declared.scale.Scale.{Scale}
use Rattle.vol_spec.proofs.PutSteps.{get-none_under}
use Rattle.chunk_grid.specs.Axes.{IsSmallOn}
use Rattle.chunk_grid.proofs.GridSteps.{three, cell_box-Inside, Inside-small}

-- digits up to a byte that is none are read in one way
abbrev IsDigit : ℕ → Type 0
IsDigit b = (48 ≤ b) × (b ≤ 57)

abbrev IsStop : ℕ → Type 0
IsStop b = IsDigit b → ⊥

same_digits : (xs ys r t : List ℕ) (c : ℕ) → All IsDigit xs → All IsDigit ys → IsStop c → xs ++ c ∷ r ≡ ys ++ c ∷ t → (xs ≡ ys) × (r ≡ t)
same_digits [] [] r t c hx hy stop e = (refl, ap (drop 1) e)
same_digits [] (y ∷ ys) r t c hx hy stop e = absurd (stop (subst IsDigit (sym (ap (λ l. get_or l 0 0) e)) (All-head IsDigit y ys hy)))
same_digits (x ∷ xs) [] r t c hx hy stop e = absurd (stop (subst IsDigit (ap (λ l. get_or l 0 0) e) (All-head IsDigit x xs hx)))
same_digits (x ∷ xs) (y ∷ ys) r t c hx hy stop e =
    let heads : x ≡ y = ap (λ l. get_or l 0 0) e in
    let rest = same_digits xs ys r t c (All-tail IsDigit x xs hx) (All-tail IsDigit y ys hy) stop (ap (drop 1) e) in
    (let tails = rest.0 in cc, rest.1)

-- and so are numbers with a sign: digits behind the first byte
record IsNumber (text : List ℕ) : Type 0 where
  some : 0 < length text
  digits : All IsDigit (drop 1 text)

same_numbers : (xs ys r t : List ℕ) (c : ℕ) → IsNumber xs → IsNumber ys → IsStop c → xs ++ c ∷ r ≡ ys ++ c ∷ t → (xs ≡ ys) × (r ≡ t)
same_numbers [] ys r t c hx hy stop e = let none = hx.some in absurd (omega arith)
same_numbers (x ∷ xs) [] r t c hx hy stop e = let none = hy.some in absurd (omega arith)
same_numbers (x ∷ xs) (y ∷ ys) r t c hx hy stop e =
    let heads : x ≡ y = ap (λ l. get_or l 0 0) e in
    let rest = same_digits xs ys r t c hx.digits hy.digits stop (ap (drop 1) e) in
    (let tails = rest.0 in cc, rest.1)

decimal_digits : (n : ℕ) → n < 2 ^ 64 → All IsDigit (decimal n)
decimal_digits n h =
    decimal_by_steps (λ n ds. All IsDigit ds)
    (λ n l. All-cons IsDigit (48 + n) [] (omega arith, omega arith) (All-nil IsDigit))
    (λ n ds l k. All-append IsDigit ds ((48 + n % 10) ∷ []) k (All-cons IsDigit (48 + n % 10) [] (omega arith, omega arith) (All-nil IsDigit)))
    n h

signed_number : (z : ℤ) → mag z < 2 ^ 63 → IsNumber (signed_decimal z)
signed_number (pos n) h = record { some = decimal_nonempty n (omega arith); digits = All-drop IsDigit 1 (decimal n) (decimal_digits n (omega arith)) }
signed_number (negsuc n) h = record { some = omega arith; digits = decimal_digits (suc n) (omega arith) }

read_signed : (y z : ℤ) (r t : List ℕ) (c : ℕ) → mag y < 2 ^ 63 → mag z < 2 ^ 63 → IsStop c → signed_decimal y ++ c ∷ r ≡ signed_decimal z ++ c ∷ t → (y ≡ z) × (r ≡ t)
read_signed y z r t c hy hz stop e =
    let parts = same_numbers (signed_decimal y) (signed_decimal z) r t c (signed_number y hy) (signed_number z hz) stop e in
    (signed_decimal_injective y z hy hz parts.0, parts.1)

-- the spans of a box's name tell where it begins
mag_short : (z : ℤ) → neg_ℤ (pos (2 ^ 42)) ≤ℤ z → z ≤ℤ pos (2 ^ 42) → mag z < 2 ^ 63
mag_short (pos n) low high = omega (arith, ints)
mag_short (negsuc n) low high = omega (arith, ints)

begin_short : (b : ℤ) → neg_ℤ (pos (2 ^ 40)) ≤ℤ b → b ≤ℤ pos (2 ^ 41) → mag b < 2 ^ 63
begin_short b low high = mag_short b (omega (arith, ints)) (omega (arith, ints))

end_short : (b : ℤ) (n : ℕ) → n ≤ 2 ^ 40 → neg_ℤ (pos (2 ^ 40)) ≤ℤ b → b ≤ℤ pos (2 ^ 41) → mag (b +ℤ pos n) < 2 ^ 63
end_short b n sized low high = mag_short (b +ℤ pos n) (omega (arith, ints)) (omega (arith, ints))

dash : IsStop 45
dash h = let low = h.0 in omega arith

line : IsStop 95
line h = let high = h.1 in omega arith

-- where an interval begins and ends tells its length
same_length : (a b : ℤ) (m n : ℕ) → a ≡ b → (a +ℤ pos m) ≡ (b +ℤ pos n) → m ≡ n
same_length a b m n begins ends = omega (arith, ints)

-- the span of an axis tells where a box begins there, and its size
record IsSameOn (a b : Box3) (axis : ℕ) : Type 0 where
  begins : at a.begin axis ≡ at b.begin axis
  sizes : size a axis ≡ size b axis

read_span : (a b : Box3) (axis : ℕ) (r t : List ℕ) → IsSmallOn a axis → IsSmallOn b axis → span_text a axis ++ 95 ∷ r ≡ span_text b axis ++ 95 ∷ t → IsSameOn a b axis × (r ≡ t)
read_span a b axis r t ha hb e =
    let apart : signed_decimal (at a.begin axis) ++ 45 ∷ (signed_decimal (end a axis) ++ 95 ∷ r) ≡ signed_decimal (at b.begin axis) ++ 45 ∷ (signed_decimal (end b axis) ++ 95 ∷ t) =
    sym (append_assoc (signed_decimal (at a.begin axis)) (45 ∷ signed_decimal (end a axis)) (95 ∷ r)) ∙ e ∙ append_assoc (signed_decimal (at b.begin axis)) (45 ∷ signed_decimal (end b axis)) (95 ∷ t) in
    let begins = read_signed (at a.begin axis) (at b.begin axis) (signed_decimal (end a axis) ++ 95 ∷ r) (signed_decimal (end b axis) ++ 95 ∷ t) 45 (begin_short (at a.begin axis) ha.low ha.high) (begin_short (at b.begin axis) hb.low hb.high) dash apart in
    let ends = read_signed (end a axis) (end b axis) r t 95 (end_short (at a.begin axis) (size a axis) ha.sized ha.low ha.high) (end_short (at b.begin axis) (size b axis) hb.sized hb.low hb.high) line begins.1 in
    (record { begins = begins.0; sizes = same_length (at a.begin axis) (at b.begin axis) (size a axis) (size b axis) begins.0 ends.0 }, ends.1)

abbrev IsSmall : Box3 → Type 0
IsSmall b = (axis : ℕ) → axis < 3 → IsSmallOn b axis

-- the name of a box tells all of it
same_box : (a b : Box3) → IsSmall a → IsSmall b → box_name a ≡ box_name b → IsSameOn a b 0 × IsSameOn a b 1 × IsSameOn a b 2
same_box a b ha hb e =
    let x = read_span a b 0 (span_text a 1 ++ 95 ∷ span_text a 2) (span_text b 1 ++ 95 ∷ span_text b 2) (ha 0 (lit< tt)) (hb 0 (lit< tt)) e in
    let y = read_span a b 1 (span_text a 2) (span_text b 2) (ha 1 (lit< tt)) (hb 1 (lit< tt)) x.1 in
    let z = read_span a b 2 [] [] (ha 2 (lit< tt)) (hb 2 (lit< tt)) (ap (λ l. l ++ 95 ∷ []) y.1) in
    (x.0, y.0, z.0)

cell_small : (s : Scale) (cell : List ℕ) → IsCell s cell → IsSmall (cell_box s cell)
cell_small s cell h = Inside-small s (cell_box s cell) (cell_box-Inside s cell h)

-- so cells of two scales in one folder whose objects have one name have one box
pub cell_name-box : (dataset : List ℕ) (u v : Scale) (a b : List ℕ) → u.key ≡ v.key → IsCell u a → IsCell v b → cell_name dataset u a ≡ cell_name dataset v b → cell_box u a ≡ cell_box v b
cell_name-box dataset u v a b keys ha hb e =
    let folders : folder_of dataset u ≡ folder_of dataset v = ap (λ key. dataset ++ 47 ∷ key) keys in
    let named : folder_of dataset v ++ 47 ∷ box_name (cell_box u a) ≡ folder_of dataset v ++ 47 ∷ box_name (cell_box v b) = sym (ap (λ folder. folder ++ 47 ∷ box_name (cell_box u a)) folders) ∙ e in
    let boxes : box_name (cell_box u a) ≡ box_name (cell_box v b) = ap (drop 1) (append_cancel_left (folder_of dataset v) (47 ∷ box_name (cell_box u a)) (47 ∷ box_name (cell_box v b)) named) in
    let on = same_box (cell_box u a) (cell_box v b) (cell_small u a ha) (cell_small v b hb) boxes in
    λ i. record {
      begin = on.0.begins i ∷ on.1.begins i ∷ on.2.begins i ∷ [];
      size = on.0.sizes i ∷ on.1.sizes i ∷ on.2.sizes i ∷ [];
    }

-- where cells begin tells which they are
same_places : (o : ℤ) (m n : ℕ) → (o +ℤ pos m) ≡ (o +ℤ pos n) → m ≡ n
same_places o m n e = omega (arith, ints)

same_on : (o : ℤ) (chunk j k : ℕ) → 1 ≤ chunk → (o +ℤ pos (j * chunk)) ≡ (o +ℤ pos (k * chunk)) → j ≡ k
same_on o chunk j k some e =
    let same : j * chunk ≡ k * chunk = same_places o (j * chunk) (k * chunk) e in
    sym (mul-div_cancel j some) ∙ ap (λ q. q / chunk) same ∙ mul-div_cancel k some

pub cell_name-injective : (dataset : List ℕ) (s : Scale) (a b : List ℕ) → IsCell s a → IsCell s b → cell_name dataset s a ≡ cell_name dataset s b → a ≡ b
cell_name-injective dataset s a b ha hb e =
    let boxes : cell_box s a ≡ cell_box s b = cell_name-box dataset s s a b refl ha hb e in
    let begins : (axis : ℕ) → at (cell_box s a).begin axis ≡ at (cell_box s b).begin axis = λ axis. ap (λ (box : Box3). at box.begin axis) boxes in
    let x : slice_index a 0 ≡ slice_index b 0 = same_on (at s.offset 0) (slice_index s.chunk 0) (slice_index a 0) (slice_index b 0) (s.chunk_ok 0 (lit< tt)).0 (begins 0) in
    let y : slice_index a 1 ≡ slice_index b 1 = same_on (at s.offset 1) (slice_index s.chunk 1) (slice_index a 1) (slice_index b 1) (s.chunk_ok 1 (lit< tt)).0 (begins 1) in
    let z : slice_index a 2 ≡ slice_index b 2 = same_on (at s.offset 2) (slice_index s.chunk 2) (slice_index a 2) (slice_index b 2) (s.chunk_ok 2 (lit< tt)).0 (begins 2) in
    three a (slice_index b 0) (slice_index b 1) (slice_index b 2) ha.axes x y z
    ∙ sym (three b (slice_index b 0) (slice_index b 1) (slice_index b 2) hb.axes refl refl refl)

-- the names of cells in order
pub names_apart : (dataset : List ℕ) (s : Scale) (cells : List (List ℕ)) → AreInOrder s cells → AllPairs (λ a b. cell_name dataset s a ≢ cell_name dataset s b) cells
names_apart dataset s cells order i j d l m e =
    let same : get_or cells i d ≡ get_or cells j d = cell_name-injective dataset s (get_or cells i d) (get_or cells j d) (order.each i d (omega arith)) (order.each j d m) e in
    let numbers : cell_number s (get_or cells i d) ≡ cell_number s (get_or cells j d) = ap (cell_number s) same in
    let rises : cell_number s (get_or cells i d) < cell_number s (get_or cells j d) = order.rising i j d l m in
    omega arith

pub names_differ : (dataset : List ℕ) (s : Scale) (cells : List (List ℕ)) (i j : ℕ) → AreInOrder s cells → i < length cells → j < length cells → i ≢ j
    → cell_name dataset s (cell_of cells i) ≢ cell_name dataset s (cell_of cells j)
names_differ dataset s cells i j order hi hj apart e =
    elim (cases_lt i j) [
      | inl below ↦ names_apart dataset s cells order i j [] below hj e
      | inr above ↦ names_apart dataset s cells order j i [] (omega arith) hi (sym e)
    ]

-- a cell's object is under the folder of its scale
pub is_under-joined : (folder back : List ℕ) → is_under folder (joined folder back) ≡ true
is_under-joined folder back =
    let front : take (length folder) (joined folder back) ≡ folder = take_at folder (47 ∷ back) (length folder) refl in
    let stop : slice_index (joined folder back) (length folder) ≡ 47 = get_or_at folder 47 back 0 (length folder) refl in
    and_from _ _ (ap (bytes_eq folder) front ∙ (bytes_eq-Decides folder folder).1 refl) (ap (λ b. b == 47) stop)

pub is_under-cell_name : (dataset : List ℕ) (s : Scale) (cell : List ℕ) → is_under (folder_of dataset s) (cell_name dataset s cell) ≡ true
is_under-cell_name dataset s cell = is_under-joined (folder_of dataset s) (box_name (cell_box s cell))

pub get-absent_cell : (m : Objects) (dataset : List ℕ) (s : Scale) (cell : List ℕ) → any_under m (folder_of dataset s) ≡ false → fin.get m (cell_name dataset s cell) ≡ None
get-absent_cell m dataset s cell none = get-none_under m (folder_of dataset s) (cell_name dataset s cell) none (is_under-cell_name dataset s cell)
