-- Entries and their bytes.
use Rattle.std.proofs.Common.{◌≡◌, ℕ, zero, suc, ◌*◌, ◌/◌, ◌%◌, ◌<◌, ◌≤◌, ◌^◌, List, [], ◌∷◌, ◌++◌, length, take, drop, slice_index, arith, refl, ap, ◌∙◌, sym, length-take, length-drop}
use Rattle.std.specs.Int.{byte_at, bytes_low_first}
use Rattle.std.proofs.Math.Pow.{pow_mono}
use Rattle.std.proofs.Math.Nat.{div-div-eq-div-mul, div-one, pow-suc}
use Rattle.std.proofs.lemmas.List.{append-nil, drop_at, take-append-drop, take_all}
use Rattle.byteorder.specs.Endian.{little_bytes, little_number, little_from}
use Rattle.vol_spec.proofs.CutSteps.{bytes_part}
use Rattle.byteorder.specs.Numbers.{little_from-cons, little_number-reads_back, length-bytes_low_first}
use Rattle.vol_base.specs.Bytes.{AreBytes}
use Rattle.vol_spec.specs.Entries.{entry_bytes, entry_of}
use Rattle.vol_spec.specs.declared.entry.Entry.{Entry}

pub base_small : (bits : ℕ) → bits ≤ 24 → 16 * 2 ^ bits ≤ 2 ^ 28
base_small bits h = let a : 2 ^ bits ≤ 2 ^ 24 = pow_mono h in omega arith

-- what was written is read
pub entry_again : (entry : Entry) → entry.start < 2 ^ 64 → entry.end < 2 ^ 64 → entry_of (entry_bytes entry) ≡ entry
unfolding entry_bytes entry_of
entry_again entry hs he =
    let first : little_number 8 (little_bytes 8 entry.start ++ little_bytes 8 entry.end) ≡ entry.start = little_number-reads_back 8 entry.start (little_bytes 8 entry.end) hs in
    let second : little_number 8 (drop 8 (little_bytes 8 entry.start ++ little_bytes 8 entry.end)) ≡ entry.end =
    ap (little_number 8) (drop_at (little_bytes 8 entry.start) (little_bytes 8 entry.end) 8 (length-bytes_low_first 0 8 entry.start) ∙ sym (append-nil (little_bytes 8 entry.end))) ∙ little_number-reads_back 8 entry.end [] he in
    ap (λ n. let e : Entry = record { start = n; end = little_number 8 (drop 8 (little_bytes 8 entry.start ++ little_bytes 8 entry.end)) } in e) first
    ∙ ap (λ n. let e : Entry = record { start = entry.start; end = n } in e) second

-- the bytes of a number that was read
abbrev AreShort : List ℕ → Type 0
AreShort xs = (i : ℕ) → i < length xs → slice_index xs i < 256

digit_at : (j x : ℕ) → byte_at j x ≡ x / 256 ^ j % 256
digit_at zero x = ap (λ n. n % 256) (sym (div-one x))
digit_at (suc j) x = refl

digits_back : (xs : List ℕ) (n j x : ℕ) → length xs ≡ n → AreShort xs → x / 256 ^ j ≡ little_from 0 n xs → bytes_low_first j n x ≡ xs
digits_back [] zero j x len are e = refl
digits_back [] (suc n) j x len are e = absurd (omega arith)
digits_back (b ∷ xs) zero j x len are e = absurd (omega arith)
digits_back (b ∷ xs) (suc n) j x len are e =
    let moved = little_from-cons 0 n b xs in
    let byte : b < 256 = are 0 (omega arith) in
    let first : byte_at j x ≡ b = (let at = digit_at j x in omega arith) in
    let shift : x / 256 ^ suc j ≡ x / 256 ^ j / 256 = ap (λ p. x / p) (pow-suc 256 j) ∙ sym (div-div-eq-div-mul x (256 ^ j) 256) in
    let rest : x / 256 ^ suc j ≡ little_from 0 n xs = omega arith in
    let later = digits_back xs n (suc j) x (omega arith) (λ i h. are (suc i) (omega arith)) rest in
    ap (λ m. m ∷ bytes_low_first (suc j) n x) first ∙ ap (λ ms. b ∷ ms) later

short_part : (n k : ℕ) (xs : List ℕ) → AreBytes xs → AreShort (take n (drop k xs))
short_part n k xs are i h = bytes_part n k xs are i

-- what was read is written as it was
pub bytes_back : (xs : List ℕ) (start end : ℕ) → length xs ≡ 16 → AreBytes xs → start ≡ little_number 8 (take 8 xs) → end ≡ little_number 8 (take 8 (drop 8 xs))
    → (let entry : Entry = record { start = start; end = end } in entry_bytes entry) ≡ xs
unfolding entry_bytes
bytes_back xs start end long are es ee =
    let second : take 8 (drop 8 xs) ≡ drop 8 xs = take_all 8 (drop 8 xs) (omega (arith, length-drop 8 xs)) in
    let one : little_bytes 8 start ≡ take 8 xs = digits_back (take 8 xs) 8 0 start (omega (arith, length-take 8 xs)) (short_part 8 0 xs are) (div-one start ∙ es) in
    let two : little_bytes 8 end ≡ take 8 (drop 8 xs) = digits_back (take 8 (drop 8 xs)) 8 0 end (omega (arith, length-take 8 (drop 8 xs), length-drop 8 xs)) (short_part 8 8 xs are) (div-one end ∙ ee) in
    ap (λ ys. ys ++ little_bytes 8 end) one ∙ ap (λ ys. take 8 xs ++ ys) (two ∙ second) ∙ take-append-drop 8 xs
