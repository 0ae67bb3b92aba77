-- A reply's head as a head of the grammar, and what its fields say.
use Rattle.std.proofs.Common.{◌≡◌, ◌∙◌, ℕ, ◌<◌, ◌≤◌, ◌^◌, Bool, true, false, ◌&&◌, nat_le, List, [], ◌∷◌, ◌++◌, length, reverse, codes, Some, All, sym, refl, arith, append_assoc}
use Rattle.std.specs.List.{flat_map, list_all}
use Rattle.std.specs.Char.{is_ascii_digit}
use Rattle.std.specs.Fmt.{decimal}
use Rattle.std.proofs.lemmas.Bool.{leb-true, le-leb, ne_eqb}
use Rattle.std.proofs.lemmas.Grind.{flat_map-append}
use Rattle.std.proofs.lemmas.List.{append-nil, length-reverse, reverse-append}
use Rattle.std.proofs.lemmas.List.Elements.{All-cons, All-nil}
use Rattle.std.proofs.lemmas.List.Folds.{list_all-append}
use Rattle.std.proofs.lemmas.List.Sums.{AllPass-from_list_all}
use Rattle.httparse.specs.Grammar.{Field, IsField, IsResponseHead, ResponseHead, crlf, is_token_byte, is_value_byte, print_field, print_response, print_version, skip_ows, trim_ows}
use Rattle.httparse.proofs.TrimLemmas.{trim_ows_space}
use Rattle.range_server.specs.Texts.{allow_lines, close_lines, line, line_end, plain_lines, range_lines, reply_head, status_line}
use Rattle.range_server.specs.declared.reply.Reply.{Reply}
use Rattle.remote_store.specs.Requests.{field}
use Rattle.remote_store.proofs.TextNumbers.{all_digits, both, skip_at_digits}

abbrev pub close_fields : Bool → List Field
close_fields true = field (codes "Connection") (codes "close") ∷ []
close_fields false = []

abbrev pub reply_fields : ℕ → List Field → List Field
reply_fields count more =
    field (codes "Content-Length") (decimal count)
    ∷ field (codes "Content-Type") (codes "application/octet-stream")
    ∷ field (codes "Accept-Ranges") (codes "bytes")
    ∷ field (codes "Access-Control-Allow-Origin") (codes "*")
    ∷ more

abbrev pub place_value : ℕ → ℕ → ℕ → List ℕ
place_value first last total = codes "bytes " ++ decimal first ++ codes "-" ++ decimal last ++ codes "/" ++ decimal total

abbrev pub parsed : List ℕ → List ℕ → List Field → ResponseHead
parsed digits phrase fields = record {
  blank = [];
  minor = 1;
  digits = digits;
  reason = Some phrase;
  line_end = crlf;
  fields = fields;
  last = crlf;
}

close_is : (r : Reply) (c : Bool) → r.close ≡ c → flat_map print_field (close_fields c) ≡ close_lines r
close_is r true e = rw e refl
close_is r false e = rw e refl

regroup : (s p1 p2 p3 p4 r c e : List ℕ) → s ++ ((p1 ++ (p2 ++ (p3 ++ (p4 ++ (r ++ c))))) ++ e) ≡ ((((s ++ (((p1 ++ p2) ++ p3) ++ p4)) ++ r) ++ []) ++ c) ++ e
regroup s p1 p2 p3 p4 r c e = simp (append_assoc, append-nil) refl

-- the head is the text that is sent
pub prints : (digits phrase : List ℕ) (r : Reply) (rs : List Field)
    → print_version 1 ++ 32 ∷ digits ++ 32 ∷ phrase ++ line_end ≡ line (status_line r.status)
    → flat_map print_field rs ≡ range_lines r → allow_lines r ≡ []
    → print_response (parsed digits phrase (reply_fields r.count (rs ++ close_fields r.close))) ≡ reply_head r
unfolding print_response reply_head
prints digits phrase r rs first range allow =
    let close = close_is r r.close refl in
    let p1 = line (codes "Content-Length: " ++ decimal r.count) in
    let p2 = line (codes "Content-Type: application/octet-stream") in
    let p3 = line (codes "Accept-Ranges: bytes") in
    let p4 = line (codes "Access-Control-Allow-Origin: *") in
    let tail : flat_map print_field (rs ++ close_fields r.close) ≡ range_lines r ++ close_lines r =
    flat_map-append print_field rs (close_fields r.close) ∙ (λ i. range i ++ close i) in
    (λ i. first i ++ ((p1 ++ (p2 ++ (p3 ++ (p4 ++ tail i)))) ++ line_end))
    ∙ regroup (line (status_line r.status)) p1 p2 p3 p4 (range_lines r) (close_lines r) line_end
    ∙ (λ i. (((line (status_line r.status) ++ plain_lines r ++ range_lines r) ++ sym allow i) ++ close_lines r) ++ line_end)

-- ---- its parts are of their classes

digits_are_values : (ds : List ℕ) → list_all is_ascii_digit ds ≡ true → list_all is_value_byte ds ≡ true
digits_are_values [] all = refl
digits_are_values (c ∷ ds) all =
    let k = both (is_ascii_digit c) (list_all is_ascii_digit ds) all in
    let m = both (nat_le 48 c) (nat_le c 57) k.0 in
    let low : 48 ≤ c = leb-true 48 c m.0 in
    let high : c ≤ 57 = leb-true c 57 m.1 in
    let space : nat_le 32 c ≡ true = le-leb 32 c (omega arith) in
    rw (ne_eqb c 9 (omega arith), ne_eqb c 127 (omega arith), space, digits_are_values ds k.1) refl

pub decimal_is_value : (n : ℕ) → n < 2 ^ 64 → list_all is_value_byte (decimal n) ≡ true
decimal_is_value n h = digits_are_values (decimal n) (all_digits n h)

pub join_values : (x y : List ℕ) → list_all is_value_byte x ≡ true → list_all is_value_byte y ≡ true → list_all is_value_byte (x ++ y) ≡ true
join_values x y hx hy = list_all-append is_value_byte x y ∙ (λ i. hx i && hy i)

pub place_is_value : (first last total : ℕ) → first < 2 ^ 64 → last < 2 ^ 64 → total < 2 ^ 64 → list_all is_value_byte (place_value first last total) ≡ true
place_is_value first last total a b c =
    let v1 = codes "bytes " ++ decimal first in
    let v2 = v1 ++ codes "-" in
    let v3 = v2 ++ decimal last in
    let v4 = v3 ++ codes "/" in
    join_values v4 (decimal total)
    (join_values v3 (codes "/") (join_values v2 (decimal last) (join_values v1 (codes "-") (join_values (codes "bytes ") (decimal first) refl (decimal_is_value first a)) refl)
    (decimal_is_value last b)) refl) (decimal_is_value total c)

pub good_field : (name value : List ℕ) → 0 < length name → list_all is_token_byte name ≡ true → list_all is_value_byte value ≡ true → IsField (field name value)
good_field name value some token plain = record {
  name = (some, AllPass-from_list_all is_token_byte name token);
  raw = AllPass-from_list_all is_value_byte (32 ∷ value) plain;
}

pub close_fields_good : (c : Bool) → All IsField (close_fields c)
unfolding is_token_byte
close_fields_good true = All-cons IsField _ [] (good_field (codes "Connection") (codes "close") (omega arith) refl refl) (All-nil IsField)
close_fields_good false = All-nil IsField

pub parsed_good : (digits phrase : List ℕ) (count : ℕ) (more : List Field) → count < 2 ^ 64 → length digits ≡ 3 → list_all is_ascii_digit digits ≡ true
    → list_all is_value_byte phrase ≡ true → All IsField more → IsResponseHead (parsed digits phrase (reply_fields count more))
unfolding is_token_byte
parsed_good digits phrase count more h three all plain good =
    let f1 = field (codes "Content-Length") (decimal count) in
    let f2 = field (codes "Content-Type") (codes "application/octet-stream") in
    let f3 = field (codes "Accept-Ranges") (codes "bytes") in
    let f4 = field (codes "Access-Control-Allow-Origin") (codes "*") in
    let g1 : IsField f1 = good_field (codes "Content-Length") (decimal count) (omega arith) refl (decimal_is_value count h) in
    let g2 : IsField f2 = good_field (codes "Content-Type") (codes "application/octet-stream") (omega arith) refl refl in
    let g3 : IsField f3 = good_field (codes "Accept-Ranges") (codes "bytes") (omega arith) refl refl in
    let g4 : IsField f4 = good_field (codes "Access-Control-Allow-Origin") (codes "*") (omega arith) refl refl in
    let three_more = All-cons IsField f4 more g4 good in
    record {
      minor = omega arith;
      digits = (three, AllPass-from_list_all is_ascii_digit digits all);
      reason = AllPass-from_list_all is_value_byte phrase plain;
      fields = All-cons IsField f1 (f2 ∷ f3 ∷ f4 ∷ more) g1 (All-cons IsField f2 (f3 ∷ f4 ∷ more) g2 (All-cons IsField f3 (f4 ∷ more) g3 three_more));
    }

-- ---- what the fields say

pub last_is_digit : (front ds : List ℕ) → 0 < length ds → list_all is_ascii_digit ds ≡ true → skip_ows (reverse (front ++ ds)) ≡ reverse (front ++ ds)
last_is_digit front ds some all =
    rw (reverse-append front ds) (skip_at_digits (reverse ds) (reverse front) (omega (arith, length-reverse ds)) (all_reversed ds all))
  where
    all_reversed : (l : List ℕ) → list_all is_ascii_digit l ≡ true → list_all is_ascii_digit (reverse l) ≡ true
    all_reversed [] h = refl
    all_reversed (c ∷ l) h =
        let k = both (is_ascii_digit c) (list_all is_ascii_digit l) h in
        rw (reverse-append (c ∷ []) l) (list_all-append is_ascii_digit (reverse l) (c ∷ []) ∙ (λ i. all_reversed l k.1 i && (k.0 i && true)))

pub trimmed_number : (front ds : List ℕ) → skip_ows (front ++ ds) ≡ front ++ ds → 0 < length ds → list_all is_ascii_digit ds ≡ true → trim_ows (32 ∷ (front ++ ds)) ≡ front ++ ds
trimmed_number front ds begins some all = trim_ows_space (front ++ ds) begins (last_is_digit front ds some all)
