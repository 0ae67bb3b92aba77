-- The chunk of each row stands where the row says.
use Rattle.std.proofs.Common.{◌≡◌, ℕ, ◌+◌, ◌-◌, ◌*◌, ◌<◌, zero, suc, List, ◌∷◌, ◌++◌, length, length-append, take, drop, append_assoc, arith, refl, ap, ◌∙◌, sym, nat_lt}
use Rattle.std.specs.Prelude.{filter, flat_map}
use Rattle.std.specs.List.{range_with_len}
use Rattle.std.proofs.lemmas.Grind.{flat_map-append}
use Rattle.std.proofs.lemmas.List.{drop_at, length-map, take_at}
use Rattle.vol_spec.specs.IndexBytes.{index_bytes, stored}
use Rattle.vol_spec.specs.Shards.{Chunk, joint, of, body, bodies, row_of, rows_of, start_of, index_start}
use Rattle.chunk_laws.proofs.Next.{length_bodies, length_chunks, length_index}

pub flat_split : (g : ℕ → List ℕ) (a k n : ℕ) → k < n → flat_map g (range_with_len a n) ≡ flat_map g (range_with_len a k) ++ (g (a + k) ++ flat_map g (range_with_len (a + k + 1) (n - k - 1)))
flat_split g a k zero h = absurd (omega arith)
flat_split g a zero (suc n) h =
    let e : a + 0 ≡ a = omega arith in
    let f : suc n - 0 - 1 ≡ n = omega arith in
    ap (λ m. g a ++ flat_map g (range_with_len (a + 1) m)) (sym f) ∙ ap (λ m. g m ++ flat_map g (range_with_len (m + 1) (suc n - 0 - 1))) (sym e)
flat_split g a (suc k) (suc n) h =
    let rest = flat_split g (a + 1) k n (omega arith) in
    let e : a + 1 + k ≡ a + suc k = omega arith in
    let f : n - k - 1 ≡ suc n - suc k - 1 = omega arith in
    ap (λ xs. g a ++ xs) rest
    ∙ sym (append_assoc (g a) (flat_map g (range_with_len (a + 1) k)) (g (a + 1 + k) ++ flat_map g (range_with_len (a + 1 + k + 1) (n - k - 1))))
    ∙ ap (λ m. (g a ++ flat_map g (range_with_len (a + 1) k)) ++ (g m ++ flat_map g (range_with_len (m + 1) (n - k - 1)))) e
    ∙ ap (λ m. (g a ++ flat_map g (range_with_len (a + 1) k)) ++ (g (a + suc k) ++ flat_map g (range_with_len (a + suc k + 1) m))) f

regroup : (a x b y i r : List ℕ) → a ++ (((x ++ (b ++ y)) ++ i) ++ r) ≡ (a ++ x) ++ (b ++ (y ++ (i ++ r)))
regroup a x b y i r =
    ap (λ t. a ++ t) (append_assoc (x ++ (b ++ y)) i r ∙ append_assoc x (b ++ y) (i ++ r) ∙ ap (λ t. x ++ t) (append_assoc b y (i ++ r)))
    ∙ sym (append_assoc a x (b ++ (y ++ (i ++ r))))

abbrev all_bytes : List Chunk → List ℕ
all_bytes cs = flat_map (λ (c : Chunk). c.bytes) cs

pub chunk_at : (cs : List Chunk) (n : ℕ) (xs : List Chunk) (c : Chunk) (ys : List Chunk) → c.minishard < n → of cs c.minishard ≡ xs ++ c ∷ ys
    → joint (filter (λ (d : Chunk). nat_lt d.id c.id) (of cs c.minishard)) ≡ joint xs → take (length c.bytes) (drop (start_of cs c) (bodies cs n)) ≡ c.bytes
chunk_at cs n xs c ys within is low =
    let index : List ℕ = index_bytes (stored (rows_of cs c.minishard)) in
    let rest : List ℕ = flat_map (body cs) (range_with_len (0 + c.minishard + 1) (n - c.minishard - 1)) in
    let inner : body cs c.minishard ≡ (all_bytes xs ++ (c.bytes ++ all_bytes ys)) ++ index_bytes (stored (rows_of cs c.minishard)) =
    ap (λ ds. all_bytes ds ++ index_bytes (stored (rows_of cs c.minishard))) is ∙ ap (λ bs. bs ++ index_bytes (stored (rows_of cs c.minishard))) (flat_map-append (λ (d : Chunk). d.bytes) xs (c ∷ ys)) in
    let e : 0 + c.minishard ≡ c.minishard = omega arith in
    let split : bodies cs n ≡ bodies cs c.minishard ++ (body cs c.minishard ++ rest) =
    flat_split (body cs) 0 c.minishard n within ∙ ap (λ k. bodies cs c.minishard ++ (body cs k ++ rest)) e in
    let whole = split ∙ ap (λ b. bodies cs c.minishard ++ (b ++ rest)) inner ∙ regroup (bodies cs c.minishard) (all_bytes xs) c.bytes (all_bytes ys) index rest in
    let front : length (bodies cs c.minishard ++ all_bytes xs) ≡ start_of cs c = omega (arith, length-append (bodies cs c.minishard) (all_bytes xs), length_bodies cs c.minishard, length_chunks xs) in
    ap (λ bs. take (length c.bytes) (drop (start_of cs c) bs)) whole
    ∙ ap (take (length c.bytes)) (drop_at (bodies cs c.minishard ++ all_bytes xs) (c.bytes ++ (all_bytes ys ++ (index ++ rest))) (start_of cs c) front)
    ∙ take_at c.bytes (all_bytes ys ++ (index ++ rest)) (length c.bytes) refl

pub index_at : (cs : List Chunk) (n m : ℕ) → m < n → take (24 * length (of cs m)) (drop (index_start cs m) (bodies cs n)) ≡ index_bytes (stored (rows_of cs m))
index_at cs n m within =
    let index : List ℕ = index_bytes (stored (rows_of cs m)) in
    let rest : List ℕ = flat_map (body cs) (range_with_len (0 + m + 1) (n - m - 1)) in
    let e : 0 + m ≡ m = omega arith in
    let split : bodies cs n ≡ bodies cs m ++ (body cs m ++ rest) = flat_split (body cs) 0 m n within ∙ ap (λ k. bodies cs m ++ (body cs k ++ rest)) e in
    let whole : bodies cs n ≡ (bodies cs m ++ all_bytes (of cs m)) ++ (index ++ rest) =
    split ∙ ap (λ t. bodies cs m ++ t) (append_assoc (all_bytes (of cs m)) index rest) ∙ sym (append_assoc (bodies cs m) (all_bytes (of cs m)) (index ++ rest)) in
    let front : length (bodies cs m ++ all_bytes (of cs m)) ≡ index_start cs m = omega (arith, length-append (bodies cs m) (all_bytes (of cs m)), length_bodies cs m, length_chunks (of cs m)) in
    let len : length index ≡ 24 * length (of cs m) = omega (arith, length_index (rows_of cs m), length-map (of cs m) (row_of cs)) in
    ap (λ bs. take (24 * length (of cs m)) (drop (index_start cs m) bs)) whole
    ∙ ap (take (24 * length (of cs m))) (drop_at (bodies cs m ++ all_bytes (of cs m)) (index ++ rest) (index_start cs m) front)
    ∙ take_at index rest (24 * length (of cs m)) len
