-- What the server plans for the requests that are sent.
use Rattle.std.proofs.Common.{◌≡◌, ◌∙◌, ℕ, ◌+◌, ◌-◌, ◌<◌, ◌≤◌, ◌^◌, true, false, ◌==◌, nat_le, List, [], ◌∷◌, ◌++◌, length, reverse, take, drop, codes, Some, None, IsTrue, cond, position, ap, refl, arith, append_assoc}
use Rattle.std.specs.Fmt.{decimal}
use Rattle.std.proofs.lemmas.Bool.{le-leb}
use Rattle.std.proofs.lemmas.Fmt.{decimal_nonempty}
use Rattle.std.proofs.lemmas.List.{reverse-reverse}
use Rattle.httparse.specs.Grammar.{Field, is_ows, skip_ows, trim_ows}
use Rattle.vol_base.specs.Names.{is_name}
use Rattle.vol_base.specs.Outside.{Objects}
use Rattle.request_heads.specs.Words.{skip_blank, trimmed}
use Rattle.range_server.specs.Plans.{by_name, object_name, planned}
use Rattle.range_server.specs.Ranges.{between, by_dash, by_ends, by_numbers, by_unit, range_in}
use Rattle.remote_store.specs.Requests.{field, peer_value, range_value, request_of}
use Rattle.remote_store.specs.declared.wanted.Wanted.TheVariants.{Length, Part}
use Rattle.remote_store.proofs.TextNumbers.{all_digits, mark_behind, number_decimal}
use Rattle.remote_store.proofs.HeadParts.{last_is_digit, trimmed_number}
use Rattle.std.proofs.Math.Seq.{take-append_seam, drop-append-add}

-- blanks are skipped alike
same_skip : (l : List ℕ) → skip_blank l ≡ skip_ows l
same_skip [] = refl
same_skip (b ∷ l) = λ i. cond (is_ows b) (same_skip l i) (b ∷ l)

skipped_alike : (l : List ℕ) → reverse (skip_blank (reverse (skip_blank l))) ≡ trim_ows l
unfolding trim_ows
skipped_alike l = (λ i. reverse (skip_blank (reverse (same_skip l i)))) ∙ ap reverse (same_skip (reverse (skip_ows l)))

range_trims : (from count : ℕ) → from + count - 1 < 2 ^ 64 → trim_ows (32 ∷ range_value from count) ≡ range_value from count
range_trims from count h =
    trimmed_number (codes "bytes=" ++ decimal from ++ codes "-") (decimal (from + count - 1)) refl (decimal_nonempty _ h) (all_digits _ h)

range_is_trimmed : (from count : ℕ) → from + count - 1 < 2 ^ 64 → trimmed (range_value from count) ≡ range_value from count
unfolding trim_ows
range_is_trimmed from count h = skipped_alike (range_value from count) ∙ ap reverse (last_is_digit (codes "bytes=" ++ decimal from ++ codes "-") (decimal (from + count - 1)) (decimal_nonempty _ h) (all_digits _ h)) ∙ reverse-reverse (range_value from count)

ends_read : (len from last : ℕ) → from < 2 ^ 64 → last < 2 ^ 64 → by_ends len (decimal from) (decimal last) ≡ between len from last
ends_read len from last a b = λ i. by_numbers len (length (decimal from) == 0) (length (decimal last) == 0) (number_decimal from a i) (number_decimal last b i)

dash_read : (len from last : ℕ) (text : List ℕ) → from < 2 ^ 64 → last < 2 ^ 64 → text ≡ decimal from ++ 45 ∷ decimal last → by_dash len text (position (λ b. b == 45) text) ≡ between len from last
dash_read len from last text a b e =
    let whole = decimal from ++ 45 ∷ decimal last in
    let front : take (length (decimal from)) whole ≡ decimal from = take-append_seam (decimal from) (45 ∷ decimal last) in
    let behind : drop (length (decimal from) + 1) whole ≡ decimal last = drop-append-add (decimal from) (45 ∷ decimal last) 1 in
    (λ i. by_dash len (e i) (position (λ b. b == 45) (e i))) ∙ ap (by_dash len whole) (mark_behind 45 (decimal from) (decimal last) (omega arith) (all_digits from a))
    ∙ (λ i. by_ends len (front i) (behind i)) ∙ ends_read len from last a b

-- the range that is asked for is the one that is read
pub range_read : (len from count : ℕ) → from < 2 ^ 64 → from + count - 1 < 2 ^ 64 → range_in (range_value from count) len ≡ between len from (from + count - 1)
range_read len from count a b =
    let last = from + count - 1 in
    let e : decimal from ++ codes "-" ++ decimal last ≡ decimal from ++ 45 ∷ decimal last = append_assoc (decimal from) (codes "-") (decimal last) in
    ap (by_unit len) (range_is_trimmed from count b) ∙ dash_read len from last (decimal from ++ codes "-" ++ decimal last) a b e

-- ---- what the fields ask

module _ (host : List ℕ) (port : ℕ) where
  peer : Field
  peer = field (codes "Host") (peer_value host port)

  name_found : (dataset key : List ℕ) → IsTrue (is_name key) → length dataset + 1 + length key ≤ 512 → object_name dataset (47 ∷ key) ≡ Some (dataset ++ 47 ∷ key)
  name_found dataset key name short =
      let few : nat_le (length dataset + 1 + length key) 512 ≡ true = le-leb (length dataset + 1 + length key) 512 short in
      rw (name, few) refl

  pub plans_length : (m : Objects) (dataset key : List ℕ) → IsTrue (is_name key) → length dataset + 1 + length key ≤ 512
      → planned m dataset (request_of host port key Length) ≡ by_name m true None false (Some (dataset ++ 47 ∷ key))
  unfolding planned
  plans_length m dataset key name short = ap (by_name m true None false) (name_found dataset key name short)

  pub plans_part : (m : Objects) (dataset key : List ℕ) (from count : ℕ) → from + count - 1 < 2 ^ 64 → IsTrue (is_name key) → length dataset + 1 + length key ≤ 512
      → planned m dataset (request_of host port key (Part from count)) ≡ by_name m false (Some (range_value from count)) false (Some (dataset ++ 47 ∷ key))
  unfolding planned
  plans_part m dataset key from count h name short =
      (λ i. by_name m false (Some (range_trims from count h i)) false (name_found dataset key name short i))
