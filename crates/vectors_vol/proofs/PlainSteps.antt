-- The steps of the plain program.
use Rattle.std.proofs.Common.{◌≡◌, ℕ, zero, suc, ◌+◌, ◌%◌, ◌≤◌, List, [], ◌∷◌, ◌++◌, length, take, sym, ap, ◌∙◌, arith}
use Rattle.std.specs.List.{flat_map, range_with_len}
use Rattle.std.proofs.lemmas.List.{append_assoc, append-nil}
use Rattle.std.proofs.lemmas.List.Concat.{flat_map-append}
use Rattle.std.proofs.lemmas.List.FromFn.{length-map-range_with_len, map-range_with_len_more}
use Rattle.byteorder.specs.Endian.{little_bytes}
use Rattle.byteorder.proofs.Bytes.{take-bytes_low_first}
use Rattle.vol_spec.specs.declared.scale.Scale.{Scale}
use Rattle.write_plan.specs.Stream.{magic}
use Rattle.vectors_vol.specs.Generated.{counting_bytes, generated, nth_write, writes_from}
use Rattle.vectors_vol.specs.WriteStreams.{stream_of, write_bytes, written}

-- the low bytes of a number are the front of all its bytes
pub front_bytes : (w n : ℕ) → w ≤ 8 → take w (little_bytes 8 n) ≡ little_bytes w n
front_bytes w n h = take-bytes_low_first 0 8 w n h

range_more : (a n j : ℕ) → a + n ≡ j → range_with_len a (n + 1) ≡ range_with_len a n ++ j ∷ []
range_more a zero j h = ap (λ k. k ∷ []) (omega arith)
range_more a (suc n) j h =
    let more : suc n + 1 ≡ suc (n + 1) = omega arith in
    ap (range_with_len a) more ∙ ap (λ xs. a ∷ xs) (range_more (a + 1) n j (omega arith))

-- one more value
pub counting_more : (w first n : ℕ) → counting_bytes w first (n + 1) ≡ counting_bytes w first n ++ little_bytes w ((first + n) % 256)
counting_more w first n =
    let value = λ (n : ℕ). little_bytes w ((first + n) % 256) in
    ap (flat_map value) (range_more 0 n n (omega arith)) ∙ flat_map-append value (range_with_len 0 n) (n ∷ [])
    ∙ ap (λ xs. counting_bytes w first n ++ xs) (append-nil (value n))

-- one more write
pub written_more : (s : Scale) (number i : ℕ)
    → written (writes_from s number 0 (i + 1)) ≡ written (writes_from s number 0 i) ++ write_bytes (nth_write s number i)
written_more s number i =
    ap written (map-range_with_len_more (nth_write s number) 0 i i (omega arith))
    ∙ flat_map-append write_bytes (writes_from s number 0 i) (nth_write s number i ∷ [])
    ∙ ap (λ xs. written (writes_from s number 0 i) ++ xs) (append-nil (write_bytes (nth_write s number i)))

-- a push behind what was pushed
pub pushed : (before now new items value more : List ℕ) → now ≡ before ++ items → new ≡ now ++ value → more ≡ items ++ value → new ≡ before ++ more
pushed before now new items value more hnow hnew hmore =
    hnew ∙ ap (λ xs. xs ++ value) hnow ∙ append_assoc before items value ∙ ap (λ xs. before ++ xs) (sym hmore)

-- all writes, behind the mark and the count
pub stream_is : (s : Scale) (number writes i : ℕ) → i ≡ writes
    → magic ++ little_bytes 4 writes ++ written (writes_from s number 0 i) ≡ stream_of (generated s number writes)
stream_is s number writes i h =
    let len : length (generated s number writes) ≡ writes = length-map-range_with_len (nth_write s number) 0 writes in
    ap (λ n. magic ++ little_bytes 4 writes ++ written (writes_from s number 0 n)) h
    ∙ ap (λ n. magic ++ little_bytes 4 n ++ written (generated s number writes)) (sym len)
