-- What the fields of a reply's head say.
use Rattle.std.proofs.Common.{◌≡◌, ◌∙◌, ℕ, suc, ◌<◌, ◌^◌, Bool, true, false, nat_lt, List, [], ◌∷◌, ◌++◌, length, codes, Some, None, if◌then◌else◌, ap, refl, arith, append_assoc}
use Rattle.std.specs.List.{list_all, list_any}
use Rattle.std.specs.Fmt.{decimal}
use Rattle.std.proofs.lemmas.Bool.{le-leb}
use Rattle.std.proofs.lemmas.Fmt.{decimal_nonempty}
use Rattle.httparse.specs.Grammar.{Field, trim_ows, skip_ows}
use Rattle.request_heads.specs.Asks.{values_of}
use Rattle.request_heads.specs.Words.{has_close}
use Rattle.range_server.specs.Ranges.{number}
use Rattle.remote_store.specs.Requests.{field}
use Rattle.remote_store.specs.Fits.{length_of, length_told, only, below, place_in, place_told, number_before, with_last, with_total}
use Rattle.std.specs.Char.{is_ascii_digit}
use Rattle.remote_store.proofs.TextNumbers.{all_digits, both, skip_at_digit, number_decimal, number_up_to}
use Rattle.remote_store.proofs.HeadParts.{close_fields, place_value, reply_fields, trimmed_number}

-- a head without a part, and one with it
abbrev pub plain_fields : ℕ → Bool → List Field
plain_fields count c = reply_fields count ([] ++ close_fields c)

abbrev pub placed_fields : ℕ → List ℕ → Bool → List Field
placed_fields count value c = reply_fields count (field (codes "Content-Range") value ∷ [] ++ close_fields c)

no_codings : (count : ℕ) (c : Bool) → values_of (codes "transfer-encoding") (plain_fields count c) ≡ []
no_codings count true = refl
no_codings count false = refl

no_codings_placed : (count : ℕ) (value : List ℕ) (c : Bool) → values_of (codes "transfer-encoding") (placed_fields count value c) ≡ []
no_codings_placed count value true = refl
no_codings_placed count value false = refl

plain_object : (count : ℕ) (c : Bool) → values_of (codes "content-encoding") (plain_fields count c) ≡ []
plain_object count true = refl
plain_object count false = refl

plain_object_placed : (count : ℕ) (value : List ℕ) (c : Bool) → values_of (codes "content-encoding") (placed_fields count value c) ≡ []
plain_object_placed count value true = refl
plain_object_placed count value false = refl

one_count : (count : ℕ) (c : Bool) → values_of (codes "content-length") (plain_fields count c) ≡ trim_ows (32 ∷ decimal count) ∷ []
one_count count true = refl
one_count count false = refl

one_count_placed : (count : ℕ) (value : List ℕ) (c : Bool) → values_of (codes "content-length") (placed_fields count value c) ≡ trim_ows (32 ∷ decimal count) ∷ []
one_count_placed count value true = refl
one_count_placed count value false = refl

one_place : (count : ℕ) (value : List ℕ) (c : Bool) → values_of (codes "content-range") (placed_fields count value c) ≡ trim_ows (32 ∷ value) ∷ []
one_place count value true = refl
one_place count value false = refl

trimmed_count : (count : ℕ) → count < 2 ^ 64 → trim_ows (32 ∷ decimal count) ≡ decimal count
trimmed_count count h =
    let begins : skip_ows ([] ++ decimal count) ≡ [] ++ decimal count = skip_end (decimal count) (decimal_nonempty count h) (all_digits count h) in
    trimmed_number [] (decimal count) begins (decimal_nonempty count h) (all_digits count h)
  where
    skip_end : (ds : List ℕ) → 0 < length ds → list_all is_ascii_digit ds ≡ true → skip_ows ds ≡ ds
    skip_end [] some all = absurd (omega arith)
    skip_end (d ∷ ds) some all = skip_at_digit d ds (both (is_ascii_digit d) (list_all is_ascii_digit ds) all).0

is_below : (count : ℕ) → count < 2 ^ 64 → below (2 ^ 64) (number (decimal count)) ≡ Some count
is_below count h =
    let small : nat_lt count (2 ^ 64) ≡ true = le-leb (suc count) (2 ^ 64) h in
    ap (below (2 ^ 64)) (number_decimal count h) ∙ (λ i. if small i then Some count else None)

pub tells_length : (count : ℕ) (c : Bool) → count < 2 ^ 64 → length_told (plain_fields count c) ≡ Some count
tells_length count c h =
    (λ i. length_of (plain_object count c i) (no_codings count c i) (one_count count c i)) ∙ (λ i. below (2 ^ 64) (number (trimmed_count count h i))) ∙ is_below count h

pub tells_length_placed : (count : ℕ) (value : List ℕ) (c : Bool) → count < 2 ^ 64 → length_told (placed_fields count value c) ≡ Some count
tells_length_placed count value c h =
    (λ i. length_of (plain_object_placed count value c i) (no_codings_placed count value c i) (one_count_placed count value c i)) ∙ (λ i. below (2 ^ 64) (number (trimmed_count count h i))) ∙ is_below count h

-- the part that is printed is the part that is read
place_is_read : (first last total : ℕ) → first < 2 ^ 64 → last < 2 ^ 64 → total < 2 ^ 64 → place_told (place_value first last total) ≡ Some (first, last, total)
unfolding place_told
place_is_read first last total a b c =
    let behind : decimal first ++ codes "-" ++ decimal last ++ codes "/" ++ decimal total ≡ decimal first ++ 45 ∷ (decimal last ++ 47 ∷ decimal total) = regroup (decimal first) (decimal last) (decimal total) in
    (λ i. with_last (number_before 45 (behind i))) ∙ ap with_last (number_up_to 45 first (decimal last ++ 47 ∷ decimal total) (omega arith) a)
    ∙ ap (with_total first) (number_up_to 47 last (decimal total) (omega arith) b) ∙ finish
  where
    regroup : (x y z : List ℕ) → x ++ codes "-" ++ y ++ codes "/" ++ z ≡ x ++ 45 ∷ (y ++ 47 ∷ z)
    regroup x y z = simp (append_assoc) refl

    finish : with_total first (Some (last, decimal total)) ≡ Some (first, last, total)
    finish = rw (number_decimal total c) refl

trimmed_place : (first last total : ℕ) → total < 2 ^ 64 → trim_ows (32 ∷ place_value first last total) ≡ place_value first last total
trimmed_place first last total c =
    trimmed_number (codes "bytes " ++ decimal first ++ codes "-" ++ decimal last ++ codes "/") (decimal total) refl (decimal_nonempty total c) (all_digits total c)

pub tells_place : (count first last total : ℕ) (c : Bool) → first < 2 ^ 64 → last < 2 ^ 64 → total < 2 ^ 64
    → place_in (only (values_of (codes "content-range") (placed_fields count (place_value first last total) c))) ≡ Some (first, last, total)
tells_place count first last total c x y z =
    (λ i. place_in (only (one_place count (place_value first last total) c i))) ∙ ap place_told (trimmed_place first last total z) ∙ place_is_read first last total x y z

-- and whether the connection ends
pub tells_close : (count : ℕ) (c : Bool) → list_any has_close (values_of (codes "connection") (plain_fields count c)) ≡ c
unfolding trim_ows
tells_close count true = refl
tells_close count false = refl

pub tells_close_placed : (count : ℕ) (value : List ℕ) (c : Bool) → list_any has_close (values_of (codes "connection") (placed_fields count value c)) ≡ c
unfolding trim_ows
tells_close_placed count value true = refl
tells_close_placed count value false = refl
