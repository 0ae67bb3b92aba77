-- What is written of one block more.
use Rattle.std.proofs.Common.{◌≡◌, ℕ, zero, suc, ◌+◌, ◌*◌, ◌^◌, ◌<◌, ◌≤◌, List, [], ◌∷◌, ◌++◌, length, slice_index, set, take, drop, Bool, true, false, arith, refl, ap, ◌∙◌, sym, inl, append_assoc, append-nil, length-append, length-take}
use Rattle.std.specs.Prelude.{flat_map, if◌then◌else◌}
use Rattle.std.specs.List.{range_with_len}
use Rattle.std.proofs.lemmas.Grind.{flat_map-append}
use Rattle.std.proofs.lemmas.List.{drop_at, get_or-set_other, get_or-set_same, length-set, take_at, take_all}
use Rattle.vol_spec.specs.BoxValues.{bytes_of}
use Rattle.vol_spec.specs.SegSizes.{SegSizes, width_of}
use Rattle.vol_spec.specs.SegBlocks.{block_count}
use Rattle.vol_spec.specs.SegWritten.{block_bits, header, packed_bytes, packed_len, places, table, table_bytes, table_len, table_place, values_place}
use Rattle.segment_blocks.specs.Stored.{Candidate, HasBodies, HasHeaders, IsBegun, body}
use Rattle.segment_blocks.specs.declared.room.Room.{Room}
use Rattle.segment_blocks.proofs.Distincts.{next}
use Rattle.segment_blocks.proofs.Again.{length_bytes}
use Rattle.segment_blocks.proofs.Offsets.{headers_before}
use Rattle.segment_blocks.proofs.Settling.{entry_bytes, flat_map_more, part_front, take_front, up_to, values_more}

pub length_values : (w : ℕ) (xs : List ℕ) → length (flat_map (bytes_of w) xs) ≡ w * length xs
length_values w [] = omega arith
length_values w (x ∷ xs) = let rest = length_values w xs in omega (arith, length-append (bytes_of w x) (flat_map (bytes_of w) xs), length_bytes w x)

pub length_packed : (s : SegSizes) (raw : List ℕ) (c k : ℕ) → length (packed_bytes s raw c k) ≡ 4 * packed_len s raw c k
length_packed s raw c k = length_bytes (4 * packed_len s raw c k) _

-- the front is kept
pub front_kept : (a n : ℕ) (out out' ys : List ℕ) → a ≤ n → a ≤ length out → take n out' ≡ take a out ++ ys → take a out' ≡ take a out
front_kept a n out out' ys h l e = take_front a n out' h ∙ ap (take a) e ∙ take_at (take a out) ys a (omega (arith, length-take a out))

-- what was written last
pub last_part : (a n : ℕ) (out xs ys : List ℕ) → take (a + n) out ≡ xs ++ ys → length xs ≡ a → length ys ≡ n → take n (drop a out) ≡ ys
last_part a n out xs ys e lx ly = part_front a n (a + n) out (omega arith) ∙ ap (λ q. take n (drop a q)) e ∙ ap (take n) (drop_at xs ys a lx) ∙ take_all n ys (omega arith)

pub candidate_of : (s : SegSizes) (raw : List ℕ) (c : ℕ) (out out' : List ℕ) (k a n : ℕ) → a ≡ 4 * (values_place s raw c k + packed_len s raw c k) → n ≡ length (table s raw c k) → 4 * values_place s raw c k ≤ length out
    → a + width_of s.wide * n ≤ length out' → ((i : ℕ) → i < length (table s raw c k) → slice_index (table s raw c k) i < 256 ^ width_of s.wide)
    → take (a + width_of s.wide * n) out' ≡ take (4 * values_place s raw c k) out ++ packed_bytes s raw c k ++ flat_map (bytes_of (width_of s.wide)) (table s raw c k) → Candidate s raw c out' k a n
candidate_of s raw c out out' k a n ea en room fits narrow e = record {
  len = en;
  fits = fits;
  here = last_part a (width_of s.wide * n) out' (take (4 * values_place s raw c k) out ++ packed_bytes s raw c k) (flat_map (bytes_of (width_of s.wide)) (table s raw c k)) e
      (omega (arith, length-append (take (4 * values_place s raw c k) out) (packed_bytes s raw c k), length-take (4 * values_place s raw c k) out, length_packed s raw c k))
      (length_values (width_of s.wide) (table s raw c k) ∙ ap (λ q. width_of s.wide * q) (sym en));
  narrow = narrow;
}

pub drop_front : (n : ℕ) (xs ys : List ℕ) → n ≤ length xs → drop n (xs ++ ys) ≡ drop n xs ++ ys
drop_front zero xs ys h = refl
drop_front (suc n) [] ys h = absurd (omega arith)
drop_front (suc n) (x ∷ xs) ys h = drop_front n xs ys (omega arith)

-- how far the next block's front reaches
next_front : (s : SegSizes) (raw : List ℕ) (c : ℕ) (out out' : List ℕ) (k a n : ℕ) (t : Bool) → places s raw c k ≡ t → a ≡ 4 * (values_place s raw c k + packed_len s raw c k) → n ≡ length (table s raw c k) → 4 * values_place s raw c k ≤ length out
    → take (a + width_of s.wide * n) out' ≡ take (4 * values_place s raw c k) out ++ packed_bytes s raw c k ++ flat_map (bytes_of (width_of s.wide)) (table s raw c k)
    → take (4 * values_place s raw c (k + 1)) out' ≡ take (4 * values_place s raw c k) out ++ packed_bytes s raw c k ++ table_bytes s raw c k
next_front s raw c out out' k a n true et ea en room e =
    let l : table_len s raw c k ≡ (if s.wide then 2 else 1) * length (table s raw c k) = rw et refl in
    let b : table_bytes s raw c k ≡ flat_map (bytes_of (width_of s.wide)) (table s raw c k) = rw et refl in
    let w : width_of s.wide * n ≡ 4 * ((if s.wide then 2 else 1) * length (table s raw c k)) = entry_bytes s.wide n ∙ ap (λ q. 4 * ((if s.wide then 2 else 1) * q)) en in
    let end : 4 * values_place s raw c (k + 1) ≡ a + width_of s.wide * n = omega (arith, values_more s raw c k, l, w, ea) in
    ap (λ q. take q out') end ∙ e ∙ ap (λ q. take (4 * values_place s raw c k) out ++ packed_bytes s raw c k ++ q) (sym b)
next_front s raw c out out' k a n false et ea en room e =
    let l : table_len s raw c k ≡ 0 = rw et refl in
    let b : table_bytes s raw c k ≡ [] = rw et refl in
    let end : 4 * values_place s raw c (k + 1) ≡ a = omega (arith, values_more s raw c k, l, ea) in
    let front : List ℕ = take (4 * values_place s raw c k) out ++ packed_bytes s raw c k in
    let len : length front ≡ a = omega (arith, length-append (take (4 * values_place s raw c k) out) (packed_bytes s raw c k), length-take (4 * values_place s raw c k) out, length_packed s raw c k, ea) in
    ap (λ q. take q out') end ∙ take_front a (a + width_of s.wide * n) out' (omega arith) ∙ ap (take a) e ∙ take_at front _ a len ∙ sym (append-nil front) ∙ ap (λ q. front ++ q) (sym b)

pub bodies_more : (s : SegSizes) (raw : List ℕ) (c : ℕ) (out out' : List ℕ) (k a n : ℕ) → a ≡ 4 * (values_place s raw c k + packed_len s raw c k) → n ≡ length (table s raw c k) → 4 * values_place s raw c k ≤ length out
    → take (a + width_of s.wide * n) out' ≡ take (4 * values_place s raw c k) out ++ packed_bytes s raw c k ++ flat_map (bytes_of (width_of s.wide)) (table s raw c k)
    → HasBodies s raw c out k → HasBodies s raw c out' (k + 1)
bodies_more s raw c out out' k a n ea en room e was =
    let front : List ℕ = take (4 * values_place s raw c k) out in
    let enough : 8 * block_count s ≤ length front = omega (arith, length-take (4 * values_place s raw c k) out, headers_before s raw c k) in
    ap (drop (8 * block_count s)) (next_front s raw c out out' k a n (places s raw c k) refl ea en room e ∙ append_assoc front (packed_bytes s raw c k) (table_bytes s raw c k))
    ∙ drop_front (8 * block_count s) front (packed_bytes s raw c k ++ table_bytes s raw c k) enough ∙ ap (λ q. q ++ (packed_bytes s raw c k ++ table_bytes s raw c k)) was ∙ sym (flat_map_more (body s raw c) k)

-- one header more
pub headers_more : (s : SegSizes) (raw : List ℕ) (c : ℕ) (headers : List ℕ) (k f g : ℕ) → 2 * k + 1 < length headers → f ≡ table_place s raw c k + 2 ^ 24 * block_bits s raw c k → g ≡ values_place s raw c k
    → HasHeaders s raw c headers k → HasHeaders s raw c (set (set headers (2 * k) f) (2 * k + 1) g) (k + 1)
headers_more s raw c headers k f g l ef eg h =
    let one : List ℕ = set headers (2 * k) f in
    let len : 2 * k + 1 < length one = omega (arith, length-set headers (2 * k) f) in
    record {
      first = up_to (λ j. slice_index (set one (2 * k + 1) g) (2 * j) ≡ table_place s raw c j + 2 ^ 24 * block_bits s raw c j) k
          (λ j lj. get_or-set_other one (2 * k + 1) (2 * j) g 0 (λ e. omega arith) ∙ get_or-set_other headers (2 * k) (2 * j) f 0 (λ e. omega arith) ∙ h.first j lj)
          (get_or-set_other one (2 * k + 1) (2 * k) g 0 (λ e. omega arith) ∙ get_or-set_same headers (2 * k) f 0 (omega arith) ∙ ef);
      second = up_to (λ j. slice_index (set one (2 * k + 1) g) (2 * j + 1) ≡ values_place s raw c j) k
          (λ j lj. get_or-set_other one (2 * k + 1) (2 * j + 1) g 0 (λ e. omega arith) ∙ get_or-set_other headers (2 * k) (2 * j + 1) f 0 (λ e. omega arith) ∙ h.second j lj)
          (get_or-set_same one (2 * k + 1) g 0 len ∙ eg);
    }

values_first : (s : SegSizes) (raw : List ℕ) (c : ℕ) → values_place s raw c 0 ≡ 2 * block_count s
unfolding values_place
values_first s raw c = omega arith

pub first_at : (s : SegSizes) (raw : List ℕ) (c blocks : ℕ) → blocks ≡ block_count s → 8 * blocks ≡ 4 * values_place s raw c 0
first_at s raw c blocks e = let f = values_first s raw c in omega (arith, e, f)

drop_none : (n : ℕ) (xs : List ℕ) → length xs ≤ n → drop n xs ≡ []
drop_none zero [] h = refl
drop_none zero (x ∷ xs) h = absurd (omega arith)
drop_none (suc n) [] h = refl
drop_none (suc n) (x ∷ xs) h = drop_none n xs (omega arith)

-- before the first block
pub begun_none : (s : SegSizes) (raw : List ℕ) (c : ℕ) (out : List ℕ) (room : Room) → ((h : ℕ) → h < length room.heads.items → slice_index room.heads.items h ≡ 0) → IsBegun s raw c out room 0
begun_none s raw c out room zeros = record {
  tables = record {
    stored = record { len = λ j l. absurd (omega arith); fits = λ j l. absurd (omega arith); here = λ j l. absurd (omega arith); narrow = λ j l. absurd (omega arith) };
    low = λ j l. absurd (omega arith);
    spots = λ j l. absurd (omega arith);
    index = record { heads_lead = λ h l. inl (zeros h l); next_lead = λ i l. absurd (omega arith); heads_all = λ j l. absurd (omega arith); next_all = λ i j l. absurd (omega arith) };
  };
  headers = record { first = λ j l. absurd (omega arith); second = λ j l. absurd (omega arith) };
  bodies = drop_none (8 * block_count s) (take (4 * values_place s raw c 0) out) (omega (arith, length-take (4 * values_place s raw c 0) out, values_first s raw c));
}

two_more : (xs : List ℕ) (k : ℕ) → 2 * k + 1 < length xs → take (2 * (k + 1)) xs ≡ take (2 * k) xs ++ slice_index xs (2 * k) ∷ slice_index xs (2 * k + 1) ∷ []
two_more xs k h =
    let e : 2 * (k + 1) ≡ 2 * k + 1 + 1 = omega arith in
    ap (λ q. take q xs) e ∙ next xs (2 * k + 1) h ∙ ap (λ q. q ++ slice_index xs (2 * k + 1) ∷ []) (next xs (2 * k) (omega arith)) ∙ append_assoc (take (2 * k) xs) (slice_index xs (2 * k) ∷ []) (slice_index xs (2 * k + 1) ∷ [])

-- the headers as bytes
pub headers_bytes : (s : SegSizes) (raw : List ℕ) (c : ℕ) (headers : List ℕ) (b k : ℕ) → k ≤ b → 2 * b ≤ length headers → HasHeaders s raw c headers b → flat_map (bytes_of 4) (take (2 * k) headers) ≡ flat_map (header s raw c) (range_with_len 0 k)
headers_bytes s raw c headers b zero l h x = refl
headers_bytes s raw c headers b (suc k) l h x =
    let e : suc k ≡ k + 1 = omega arith in
    let f : ℕ = slice_index headers (2 * k) in
    let g : ℕ = slice_index headers (2 * k + 1) in
    let here : flat_map (bytes_of 4) (f ∷ g ∷ []) ≡ header s raw c k =
    ap (λ q. bytes_of 4 f ++ q) (append-nil (bytes_of 4 g)) ∙ ap (λ q. bytes_of 4 q ++ bytes_of 4 g) (x.first k (omega arith)) ∙ ap (λ q. bytes_of 4 (table_place s raw c k + 2 ^ 24 * block_bits s raw c k) ++ bytes_of 4 q) (x.second k (omega arith)) in
    ap (λ q. flat_map (bytes_of 4) (take (2 * q) headers)) e ∙ ap (flat_map (bytes_of 4)) (two_more headers k (omega arith)) ∙ flat_map-append (bytes_of 4) (take (2 * k) headers) (f ∷ g ∷ [])
    ∙ ap (λ q. q ++ flat_map (bytes_of 4) (f ∷ g ∷ [])) (headers_bytes s raw c headers b k (omega arith) h x) ∙ ap (λ q. flat_map (header s raw c) (range_with_len 0 k) ++ q) here
    ∙ sym (flat_map_more (header s raw c) k) ∙ ap (λ q. flat_map (header s raw c) (range_with_len 0 q)) (sym e)

drop_nil : (a : ℕ) → drop {A = ℕ} a [] ≡ []
drop_nil zero = refl
drop_nil (suc a) = refl

take_nil : (a : ℕ) → take {A = ℕ} a [] ≡ []
take_nil zero = refl
take_nil (suc a) = refl

-- a front written anew before what is kept
pub over_front : (a n : ℕ) (xs ys : List ℕ) → a ≤ n → length ys ≡ a → take n (ys ++ drop a xs) ≡ ys ++ drop a (take n xs)
over_front zero n xs [] h l = refl
over_front zero n xs (y ∷ ys) h l = absurd (omega arith)
over_front (suc a) n xs [] h l = absurd (omega arith)
over_front (suc a) zero xs (y ∷ ys) h l = absurd (omega arith)
over_front (suc a) (suc n) [] (y ∷ ys) h l = ap (λ q. y ∷ q) (ap (λ q. take n (ys ++ q)) (sym (drop_nil a)) ∙ over_front a n [] ys (omega arith) (omega arith) ∙ ap (λ q. ys ++ q) (ap (drop a) (take_nil n) ∙ drop_nil a))
over_front (suc a) (suc n) (x ∷ xs) (y ∷ ys) h l = ap (λ q. y ∷ q) (over_front a n xs ys (omega arith) (omega arith))
