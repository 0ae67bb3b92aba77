-- The request that is sent is a head of the grammar.
use Rattle.std.proofs.Common.{◌≡◌, ◌∙◌, ℕ, ◌+◌, ◌-◌, ◌<◌, ◌^◌, Bool, true, false, ◌||◌, ◌==◌, nat_le, List, [], ◌∷◌, ◌++◌, length, codes, cond, All, IsTrue, sym, refl, arith}
use Rattle.std.specs.Fmt.{decimal}
use Rattle.std.specs.List.{list_all, slice_split, onto_first}
use Rattle.std.proofs.lemmas.Bool.{and_from, and_parts}
use Rattle.std.proofs.lemmas.Bool.Decides.{nat_tests}
use Rattle.std.proofs.lemmas.List.Elements.{All-cons, All-nil}
use Rattle.std.proofs.lemmas.List.Sums.{AllPass-from_list_all}
use Rattle.std.proofs.lemmas.Str.{IsUtf8-from_ascii}
use Rattle.std.proofs.lemmas.Str.Ascii.{IsAscii-from_all}
use Rattle.httparse.specs.Grammar.{IsField, IsRequestHead, is_token_byte, is_uri_byte, is_value_byte}
use Rattle.vol_base.specs.Names.{is_name, is_name_byte, is_segment}
use Rattle.remote_store.specs.Requests.{field, method_of, peer_value, range_fields, range_value, request_of}
use Rattle.remote_store.specs.Answers.{IsAsked}
use Rattle.remote_store.specs.declared.wanted.Wanted.{Wanted}
use Rattle.remote_store.specs.declared.wanted.Wanted.TheVariants.{Length, Part}
use Rattle.remote_store.proofs.HeadParts.{decimal_is_value, good_field, join_values}

-- ---- a name's bytes stand in a target as they are

abbrev plain_byte : ℕ → Bool
plain_byte b = is_name_byte b || b == 47

parts_plain : (parts : List (List ℕ)) → list_all is_segment parts ≡ true → list_all (list_all is_name_byte) parts ≡ true
parts_plain [] h = refl
parts_plain (p ∷ parts) h =
    let both = and_parts _ _ h in
    and_from _ _ (and_parts _ _ both.0).1 (parts_plain parts both.1)

joined_plain : (parts : List (List ℕ)) (x : ℕ) → list_all (list_all is_name_byte) (onto_first x parts) ≡ true → (is_name_byte x ≡ true) × (list_all (list_all is_name_byte) parts ≡ true)
joined_plain [] x h = ((and_parts _ _ (and_parts _ _ h).0).0, refl)
joined_plain (p ∷ parts) x h =
    let both = and_parts _ _ h in
    let first = and_parts _ _ both.0 in
    (first.0, and_from _ _ first.1 both.1)

or_left : (s t : Bool) → s ≡ true → (s || t) ≡ true
or_left true t e = refl
or_left false t e = absurd (cc e)

or_right : (s t : Bool) → t ≡ true → (s || t) ≡ true
or_right true t e = refl
or_right false t e = e

name_plain : (text : List ℕ) → list_all (list_all is_name_byte) (slice_split (λ b. b == 47) text) ≡ true → list_all plain_byte text ≡ true
name_plain [] h = refl
name_plain (x ∷ text) h = by_slash (x == 47) refl h (name_plain text)
  where
    by_slash : (t : Bool) → (x == 47) ≡ t → list_all (list_all is_name_byte) (cond (x == 47) ([] ∷ slice_split (λ b. b == 47) text) (onto_first x (slice_split (λ b. b == 47) text))) ≡ true
        → (list_all (list_all is_name_byte) (slice_split (λ b. b == 47) text) ≡ true → list_all plain_byte text ≡ true) → list_all plain_byte (x ∷ text) ≡ true
    by_slash true e h more =
        let rest : list_all (list_all is_name_byte) ([] ∷ slice_split (λ b. b == 47) text) ≡ true = (λ i. list_all (list_all is_name_byte) (cond (sym e i) ([] ∷ slice_split (λ b. b == 47) text) (onto_first x (slice_split (λ b. b == 47) text)))) ∙ h in
        and_from (plain_byte x) (list_all plain_byte text) (or_right (is_name_byte x) (x == 47) e) (more (and_parts true (list_all (list_all is_name_byte) (slice_split (λ b. b == 47) text)) rest).1)
    by_slash false e h more =
        let rest : list_all (list_all is_name_byte) (onto_first x (slice_split (λ b. b == 47) text)) ≡ true = (λ i. list_all (list_all is_name_byte) (cond (sym e i) ([] ∷ slice_split (λ b. b == 47) text) (onto_first x (slice_split (λ b. b == 47) text)))) ∙ h in
        let parts = joined_plain (slice_split (λ b. b == 47) text) x rest in
        and_from (plain_byte x) (list_all plain_byte text) (or_left (is_name_byte x) (x == 47) parts.0) (more parts.1)

byte_visible : (b : ℕ) → plain_byte b ≡ true → (is_uri_byte b ≡ true) × (b < 128)
byte_visible b h = (grind (arith, nat_tests), grind (arith, nat_tests))

all_visible : (text : List ℕ) → list_all plain_byte text ≡ true → (list_all is_uri_byte text ≡ true) × All (λ b. b < 128) text
all_visible [] h = (refl, All-nil (λ b. b < 128))
all_visible (x ∷ text) h =
    let both = and_parts _ _ h in
    let one = byte_visible x both.0 in
    let rest = all_visible text both.1 in
    (and_from _ _ one.0 rest.0, All-cons (λ b. b < 128) x text one.1 rest.1)

pub target_good : (key : List ℕ) → IsTrue (is_name key) → (list_all is_uri_byte (47 ∷ key) ≡ true) × All (λ b. b < 128) (47 ∷ key)
target_good key name =
    let parts = (and_parts (nat_le (length key) 512) _ name).1 in
    all_visible (47 ∷ key) (and_from _ _ refl (name_plain key (parts_plain (slice_split (λ b. b == 47) key) parts)))

-- ---- the head

method_good : (wanted : Wanted) → (0 < length (method_of wanted)) × (list_all is_token_byte (method_of wanted) ≡ true)
unfolding is_token_byte
method_good Length = (omega arith, refl)
method_good (Part from count) = (omega arith, refl)

ranges_good : (wanted : Wanted) → IsAsked wanted → All IsField (range_fields wanted)
unfolding is_token_byte
ranges_good Length asked = All-nil IsField
ranges_good (Part from count) asked =
    let last = from + count - 1 in
    let v1 = codes "bytes=" ++ decimal from in
    let v2 = v1 ++ codes "-" in
    let value : list_all is_value_byte (range_value from count) ≡ true =
    join_values v2 (decimal last) (join_values v1 (codes "-") (join_values (codes "bytes=") (decimal from) refl (decimal_is_value from (omega (arith, asked.1)))) refl) (decimal_is_value last (omega (arith, asked.1))) in
    All-cons IsField (field (codes "Range") (range_value from count)) [] (good_field (codes "Range") (range_value from count) (omega arith) refl value) (All-nil IsField)

pub asked_head : (host : List ℕ) (port : ℕ) (key : List ℕ) (wanted : Wanted) → IsAsked wanted → list_all is_value_byte host ≡ true → port < 2 ^ 16 → IsTrue (is_name key)
    → IsRequestHead (request_of host port key wanted)
unfolding is_token_byte
asked_head host port key wanted asked plain small name =
    let target = target_good key name in
    let method = method_good wanted in
    let peer : list_all is_value_byte (peer_value host port) ≡ true = join_values host (58 ∷ decimal port) plain (and_from _ _ refl (decimal_is_value port (omega (arith, small)))) in
    record {
      method = (method.0, AllPass-from_list_all is_token_byte (method_of wanted) method.1);
      target = (omega arith, AllPass-from_list_all is_uri_byte (47 ∷ key) target.0);
      target_text = IsUtf8-from_ascii (47 ∷ key) (IsAscii-from_all (47 ∷ key) target.1);
      minor = omega arith;
      fields = All-cons IsField (field (codes "Host") (peer_value host port)) (range_fields wanted) (good_field (codes "Host") (peer_value host port) (omega arith) refl peer) (ranges_good wanted asked);
    }
