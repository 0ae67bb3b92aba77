-- A stream that is read from the front has the writes and the first fault that the sums over the writes before say.
use Rattle.std.proofs.Common.{◌≡◌, ℕ, zero, suc, ◌+◌, ◌^◌, ◌<◌, ◌≤◌, Bool, true, false, not, nat_lt, List, [], ◌∷◌, ◌++◌, length, map, sum, take, drop, length-take, length-drop, Option, Some, None, IfSome, Result, Ok, refl, ap, ◌∙◌, sym, subst, arith}
use Rattle.std.specs.Prelude.{◌==◌}
use Rattle.std.specs.List.{range_with_len}
use Rattle.std.specs.Str.{bytes_eq}
use Rattle.std.proofs.lemmas.Bool.Decides.{nat_tests}
use Rattle.std.proofs.lemmas.Grind.{common_steps}
use Rattle.std.proofs.lemmas.List.{map-append}
use Rattle.std.proofs.lemmas.Slice.Eq.{bytes_eq-Decides}
use Rattle.vol_base.specs.declared.boxes.Box3.{Box3}
use Rattle.vol_spec.specs.BoxValues.{first_some}
use Rattle.vol_spec.specs.Raw.{raw_len}
use Rattle.vol_spec.specs.declared.scale.Scale.{Scale}
use Rattle.vol_spec.proofs.PutSteps.{not_true_is}
use Rattle.write_plan.specs.Readers.{Answers}
use Rattle.write_plan.specs.Reading.{◌>>=◌, box_at, count_at, ended, judged, marked, write_at, writes_at, writes_read}
use Rattle.write_plan.specs.Stream.{box_behind, box_of, count_fault, count_in, fault_if, first_writes, is_empty, is_within, len_behind, magic, place, unless_fault, write_behind, write_fault, writes_of}
use Rattle.write_plan.specs.WriteLists.{BoxWrite, total}
use Rattle.write_plan.specs.declared.fault.PlanFault.{PlanFault}
use Rattle.write_plan.specs.declared.fault.PlanFault.TheVariants.{BadMagic, TooManyWrites, EmptyBox, OutsideBox, WritesTooLarge, Truncated, TrailingBytes}
use Rattle.write_plan.proofs.ListSteps.{sum_last}

-- what is left behind a place
short_behind : (bytes : List ℕ) (p n : ℕ) → nat_lt (length (drop p bytes)) (suc n) ≡ nat_lt (length bytes) (p + suc n)
short_behind bytes p n = let l = length-drop p bytes in grind (arith, nat_tests)

short_within : (bytes : List ℕ) (p n : ℕ) → p ≤ length bytes → nat_lt (length (drop p bytes)) n ≡ nat_lt (length bytes) (p + n)
short_within bytes p n h = let l = length-drop p bytes in grind (arith, nat_tests)

drop_more : (bytes : List ℕ) (m n : ℕ) → drop n (drop m bytes) ≡ drop (m + n) bytes
drop_more bytes m n = grind (arith, common_steps)

enough : (a b : ℕ) → nat_lt a b ≡ false → b ≤ a
enough a b e = grind (arith, nat_tests)

place_more : (before : List BoxWrite) (w : BoxWrite) → place (before ++ w ∷ []) ≡ place before + 48 + length w.1
place_more before w =
    let e : sum (map (λ (v : BoxWrite). 48 + length v.1) (before ++ w ∷ [])) ≡ sum (map (λ (v : BoxWrite). 48 + length v.1) before) + (48 + length w.1) =
    ap sum (map-append (λ (v : BoxWrite). 48 + length v.1) before (w ∷ [])) ∙ sum_last (map (λ (v : BoxWrite). 48 + length v.1) before) (48 + length w.1) in
    omega arith

-- one write, by its tests
write_tests : (s : Scale) (i t : ℕ) (rest : List ℕ) (a b c d e : Bool) → nat_lt (length rest) 48 ≡ a → is_empty (box_of (take 48 rest)) ≡ b → not (is_within s (box_of (take 48 rest))) ≡ c
    → nat_lt (2 ^ 30) (t + raw_len (box_of (take 48 rest)) s.channels s.width) ≡ d → nat_lt (length (drop 48 rest)) (raw_len (box_of (take 48 rest)) s.channels s.width) ≡ e
    → write_at s i t rest ≡ unless_fault (first_some (fault_if a (Truncated i) ∷ fault_if b (EmptyBox i) ∷ fault_if c (OutsideBox i) ∷ fault_if d (WritesTooLarge i) ∷ fault_if e (Truncated i) ∷ []))
    ((box_of (take 48 rest), take (raw_len (box_of (take 48 rest)) s.channels s.width) (drop 48 rest)), drop (raw_len (box_of (take 48 rest)) s.channels s.width) (drop 48 rest))
unfolding write_at box_at judged
write_tests s i t rest true b c d e ea eb ec ed ee = rw ea refl
write_tests s i t rest false true c d e ea eb ec ed ee = rw (ea, eb) refl
write_tests s i t rest false false true d e ea eb ec ed ee = rw (ea, eb, ec) refl
write_tests s i t rest false false false true e ea eb ec ed ee = rw (ea, eb, ec, ed) refl
write_tests s i t rest false false false false true ea eb ec ed ee = rw (ea, eb, ec, ed, ee) refl
write_tests s i t rest false false false false false ea eb ec ed ee = rw (ea, eb, ec, ed, ee) refl

-- what is left behind a write whose values are all there
left_behind : (bytes : List ℕ) (before : List BoxWrite) (b : Box3) (len : ℕ) → nat_lt (length bytes) (place before + 48 + len) ≡ false
    → drop len (drop 48 (drop (place before) bytes)) ≡ drop (place (before ++ (b, take len (drop (place before + 48) bytes)) ∷ [])) bytes
left_behind bytes before b len whole =
    let room = enough _ _ whole in
    let write : BoxWrite = (b, take len (drop (place before + 48) bytes)) in
    let values : length write.1 ≡ len = (let l = length-drop (place before + 48) bytes in omega (arith, l, room, length-take len (drop (place before + 48) bytes))) in
    ap (drop len) (drop_more bytes (place before) 48) ∙ drop_more bytes (place before + 48) len
    ∙ ap (λ k. drop k bytes) (ap (λ k. place before + 48 + k) (sym values) ∙ sym (place_more before write))

-- the same tests by places
abbrev faults_by : ℕ → Bool → Bool → Bool → Bool → Bool → Option PlanFault
faults_by i a b c d e = first_some (fault_if a (Truncated i) ∷ fault_if b (EmptyBox i) ∷ fault_if c (OutsideBox i) ∷ fault_if d (WritesTooLarge i) ∷ fault_if e (Truncated i) ∷ [])

-- a value counts only where no test holds
same_unless : {A : Type 0} (i : ℕ) (b c d e : Bool) (x y : A) → (e ≡ false → x ≡ y) → unless_fault (faults_by i false b c d e) x ≡ unless_fault (faults_by i false b c d e) y
same_unless i true c d e x y h = refl
same_unless i false true d e x y h = refl
same_unless i false false true e x y h = refl
same_unless i false false false true x y h = refl
same_unless i false false false false x y h = ap Ok (h refl)

one_write : (s : Scale) (bytes : List ℕ) (before : List BoxWrite) → write_at s (length before) (total before) (drop (place before) bytes)
    ≡ unless_fault (write_fault s bytes before) (write_behind s bytes before, drop (place (before ++ write_behind s bytes before ∷ [])) bytes)
one_write s bytes before = by (nat_lt (length bytes) (place before + 48)) refl
  where
    by : (a : Bool) → nat_lt (length bytes) (place before + 48) ≡ a → write_at s (length before) (total before) (drop (place before) bytes)
        ≡ unless_fault (faults_by (length before) a (is_empty (box_behind bytes before)) (not (is_within s (box_behind bytes before))) (nat_lt (2 ^ 30) (total before + len_behind s bytes before)) (nat_lt (length bytes) (place before + 48 + len_behind s bytes before)))
        (write_behind s bytes before, drop (place (before ++ write_behind s bytes before ∷ [])) bytes)
    by true ea =
        write_tests s (length before) (total before) (drop (place before) bytes) true _ _ _ _ (short_behind bytes (place before) 47 ∙ ea) refl refl refl refl
    by false ea =
        let len : ℕ = len_behind s bytes before in
        let twice = drop_more bytes (place before) 48 in
        let test : nat_lt (length (drop 48 (drop (place before) bytes))) len ≡ nat_lt (length bytes) (place before + 48 + len) = ap (λ xs. nat_lt (length xs) len) twice ∙ short_within bytes (place before + 48) len (enough _ _ ea) in
        write_tests s (length before) (total before) (drop (place before) bytes) false _ _ _ _ (short_behind bytes (place before) 47 ∙ ea) refl refl refl test
        ∙ same_unless (length before) (is_empty (box_behind bytes before)) (not (is_within s (box_behind bytes before))) (nat_lt (2 ^ 30) (total before + len)) (nat_lt (length bytes) (place before + 48 + len)) _ _
        (λ whole.
        let w : BoxWrite = write_behind s bytes before in
        let values : (box_behind bytes before, take len (drop 48 (drop (place before) bytes))) ≡ w = ap (λ xs. (let v : BoxWrite = (box_behind bytes before, take len xs) in v)) twice in
        ap (λ v. (let r : BoxWrite × List ℕ = (v, drop len (drop 48 (drop (place before) bytes))) in r)) values
        ∙ ap (λ xs. (let r : BoxWrite × List ℕ = (w, xs) in r)) (left_behind bytes before (box_behind bytes before) len whole))

-- n more writes behind some
abbrev behind : Scale → List ℕ → List BoxWrite → ℕ → List BoxWrite
behind s bytes before zero = before
behind s bytes before (suc n) = behind s bytes (before ++ write_behind s bytes before ∷ []) n

behind_more : (s : Scale) (bytes : List ℕ) (before : List BoxWrite) (n : ℕ) → behind s bytes before (suc n) ≡ behind s bytes before n ++ write_behind s bytes (behind s bytes before n) ∷ []
behind_more s bytes before zero = refl
behind_more s bytes before (suc n) = behind_more s bytes (before ++ write_behind s bytes before ∷ []) n

first_behind : (s : Scale) (bytes : List ℕ) (n : ℕ) → first_writes s bytes n ≡ behind s bytes [] n
first_behind s bytes zero = refl
first_behind s bytes (suc n) = ap (λ ws. ws ++ write_behind s bytes ws ∷ []) (first_behind s bytes n) ∙ sym (behind_more s bytes [] n)

shifted : {A : Type 0} (f : ℕ → A) (from n : ℕ) → map f (range_with_len (from + 1) n) ≡ map (λ k. f (suc k)) (range_with_len from n)
shifted f from zero = refl
shifted f from (suc n) =
    let e : from + 1 ≡ suc from = omega arith in
    ap (λ k. f k ∷ map f (range_with_len (from + 1 + 1) n)) e ∙ ap (λ xs. f (suc from) ∷ xs) (shifted f (from + 1) n)

abbrev faults_behind : Scale → List ℕ → List BoxWrite → ℕ → Option PlanFault
faults_behind s bytes before n = first_some (map (λ k. write_fault s bytes (behind s bytes before k)) (range_with_len 0 n))

abbrev or_else : Option PlanFault → Option PlanFault → Option PlanFault
or_else None b = b
or_else (Some fault) b = Some fault

first_cons : (a : Option PlanFault) (xs : List (Option PlanFault)) → first_some (a ∷ xs) ≡ or_else a (first_some xs)
first_cons None xs = refl
first_cons (Some fault) xs = refl

then_on : {A B : Type 0} (a b : Option PlanFault) (x : A) (k : A → Result B PlanFault) (y : B) → k x ≡ unless_fault b y → (unless_fault a x >>= k) ≡ unless_fault (or_else a b) y
then_on None b x k y e = e
then_on (Some fault) b x k y e = refl

all_writes : (s : Scale) (bytes : List ℕ) (n : ℕ) (before : List BoxWrite)
    → writes_at s n before (drop (place before) bytes) ≡ unless_fault (faults_behind s bytes before n) (behind s bytes before n, drop (place (behind s bytes before n)) bytes)
unfolding writes_at
all_writes s bytes zero before = refl
all_writes s bytes (suc n) before =
    let w : BoxWrite = write_behind s bytes before in
    let k : BoxWrite × List ℕ → Result (List BoxWrite × List ℕ) PlanFault = λ write. writes_at s n (before ++ write.0 ∷ []) write.1 in
    let zero_one : 0 + 1 ≡ 1 = omega arith in
    ap (λ r. r >>= k) (one_write s bytes before)
    ∙ then_on (write_fault s bytes before) (faults_behind s bytes (before ++ w ∷ []) n) (w, drop (place (before ++ w ∷ [])) bytes) k _ (all_writes s bytes n (before ++ w ∷ []))
    ∙ ap (λ o. unless_fault o (behind s bytes (before ++ w ∷ []) n, drop (place (behind s bytes (before ++ w ∷ []) n)) bytes))
    (ap (λ xs. or_else (write_fault s bytes before) (first_some xs)) (sym (shifted (λ j. write_fault s bytes (behind s bytes before j)) 0 n))
    ∙ sym (first_cons (write_fault s bytes before) (map (λ j. write_fault s bytes (behind s bytes before j)) (range_with_len (0 + 1) n))))

-- the mark and the count
no_mark : (bytes : List ℕ) → nat_lt (length bytes) 4 ≡ true → bytes_eq (take 4 bytes) magic ≡ false
no_mark bytes short = not_true_is (bytes_eq (take 4 bytes) magic) (λ e.
    let same : take 4 bytes ≡ magic = (bytes_eq-Decides (take 4 bytes) magic).0 e in
    let four : length (take 4 bytes) ≡ 4 = ap length same in
    let t = length-take 4 bytes in
    let l : length bytes < 4 = below_from (length bytes) short in
    omega (arith, four, t, l))
  where
    below_from : (n : ℕ) → nat_lt n 4 ≡ true → n < 4
    below_from n e = grind (arith, nat_tests)

count_tests : (bytes : List ℕ) (a m t l : Bool) → nat_lt (length bytes) 4 ≡ a → bytes_eq (take 4 bytes) magic ≡ m → nat_lt (length (drop 4 bytes)) 4 ≡ t → nat_lt 65536 (count_in bytes) ≡ l
    → (a ≡ true → m ≡ false) → count_at bytes ≡ unless_fault (first_some (fault_if (not m) BadMagic ∷ fault_if t (Truncated 0) ∷ fault_if l (TooManyWrites (count_in bytes)) ∷ [])) (count_in bytes, drop 4 (drop 4 bytes))
unfolding count_at marked
count_tests bytes true true t l ea em et el none = absurd (cc (none refl))
count_tests bytes true false t l ea em et el none = rw ea refl
count_tests bytes false false t l ea em et el none = rw (ea, em) refl
count_tests bytes false true true l ea em et el none = rw (ea, em, et) refl
count_tests bytes false true false true ea em et el none = rw (ea, em, et, el) refl
count_tests bytes false true false false ea em et el none = rw (ea, em, et, el) refl

one_count : (bytes : List ℕ) → count_at bytes ≡ unless_fault (count_fault bytes) (count_in bytes, drop 8 bytes)
one_count bytes =
    count_tests bytes (nat_lt (length bytes) 4) (bytes_eq (take 4 bytes) magic) (nat_lt (length bytes) 8) (nat_lt 65536 (count_in bytes)) refl refl (short_behind bytes 4 3) refl (no_mark bytes)
    ∙ ap (λ xs. unless_fault (count_fault bytes) (let r : ℕ × List ℕ = (count_in bytes, xs) in r)) (drop_more bytes 4 4)

-- the end
one_end : (ws : List BoxWrite) (bytes : List ℕ) (p : ℕ) → ended ws (drop p bytes) ≡ unless_fault (fault_if (nat_lt p (length bytes)) TrailingBytes) ws
one_end ws bytes p =
    by (length (drop p bytes) == 0) (nat_lt p (length bytes)) refl refl
  where
    by : (a b : Bool) → (length (drop p bytes) == 0) ≡ a → nat_lt p (length bytes) ≡ b → ended ws (drop p bytes) ≡ unless_fault (fault_if b TrailingBytes) ws
    by true true ea eb = let l = length-drop p bytes in absurd (grind (arith, nat_tests))
    by true false ea eb = rw ea refl
    by false true ea eb = rw ea refl
    by false false ea eb = let l = length-drop p bytes in absurd (grind (arith, nat_tests))

first_joined : (a c : Option PlanFault) (xs : List (Option PlanFault)) → first_some (a ∷ xs ++ c ∷ []) ≡ or_else a (or_else (first_some xs) c)
first_joined (Some fault) c xs = refl
first_joined None c [] = by c
  where
    by : (c : Option PlanFault) → first_some (c ∷ []) ≡ c
    by None = refl
    by (Some fault) = refl
first_joined None c (None ∷ xs) = first_joined None c xs
first_joined None c (Some fault ∷ xs) = refl

-- the whole
pub summed : (bytes : List ℕ) (s : Scale) → writes_read bytes s ≡ writes_of bytes s
unfolding writes_read writes_of
summed bytes s =
    let n : ℕ = count_in bytes in
    let ws : List BoxWrite = behind s bytes [] n in
    let last : Option PlanFault = fault_if (nat_lt (place ws) (length bytes)) TrailingBytes in
    let k : ℕ × List ℕ → Result (List BoxWrite) PlanFault = λ count. writes_at s count.0 [] count.1 >>= λ writes. ended writes.0 writes.1 in
    let e : List BoxWrite × List ℕ → Result (List BoxWrite) PlanFault = λ writes. ended writes.0 writes.1 in
    let faults : map (λ j. write_fault s bytes (first_writes s bytes j)) (range_with_len 0 n) ≡ map (λ j. write_fault s bytes (behind s bytes [] j)) (range_with_len 0 n) =
    map_same (λ j. write_fault s bytes (first_writes s bytes j)) (λ j. write_fault s bytes (behind s bytes [] j)) (λ j. ap (write_fault s bytes) (first_behind s bytes j)) (range_with_len 0 n) in
    ap (λ r. r >>= k) (one_count bytes)
    ∙ then_on (count_fault bytes) (or_else (faults_behind s bytes [] n) last) (n, drop 8 bytes) k ws
    (ap (λ r. r >>= e) (all_writes s bytes n []) ∙ then_on (faults_behind s bytes [] n) last (ws, drop (place ws) bytes) e ws (one_end ws bytes (place ws)))
    ∙ ap (λ o. unless_fault o ws) (sym (first_joined (count_fault bytes) last (map (λ j. write_fault s bytes (behind s bytes [] j)) (range_with_len 0 n))))
    ∙ ap (λ fs. unless_fault (first_some (count_fault bytes ∷ fs ++ last ∷ [])) ws) (sym faults)
    ∙ ap (λ vs. unless_fault (first_some (count_fault bytes ∷ map (λ j. write_fault s bytes (first_writes s bytes j)) (range_with_len 0 n) ++ fault_if (nat_lt (place vs) (length bytes)) TrailingBytes ∷ [])) vs) (sym (first_behind s bytes n))
  where
    map_same : {A : Type 0} (f g : ℕ → A) → ((k : ℕ) → f k ≡ g k) → (xs : List ℕ) → map f xs ≡ map g xs
    map_same f g h [] = refl
    map_same f g h (x ∷ xs) = ap (λ y. y ∷ map f xs) (h x) ∙ ap (λ ys. g x ∷ ys) (map_same f g h xs)

pub as_summed : (o : Option (List ℕ)) (r : Result (List BoxWrite) PlanFault) (s : Scale) → IfSome o (λ bytes. Answers r (writes_read bytes s)) → IfSome o (λ bytes. Answers r (writes_of bytes s))
as_summed None r s h = tt
as_summed (Some bytes) r s h = subst (Answers r) (summed bytes s) h
