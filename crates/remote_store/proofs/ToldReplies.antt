-- The reply that the server's definition gives over told objects fits, and says what is there.
use Rattle.std.proofs.Common.{◌≡◌, ◌∙◌, ℕ, suc, ◌+◌, ◌-◌, ◌<◌, ◌≤◌, ◌^◌, min, Bool, true, false, ◌&&◌, ◌||◌, ◌==◌, nat_le, nat_lt, List, [], ◌∷◌, ◌++◌, length, take, drop, length-drop, codes, Option, Some, None, IfSome, option_map, IsTrue, if◌then◌else◌, sym, ap, refl, arith}
use Rattle.std.specs.FinMap as map
use Rattle.std.specs.Fmt.{decimal}
use Rattle.std.proofs.lemmas.Bool.{leb-true, le-leb, leb-false, eq-eqb, lt-leb}
use Rattle.std.proofs.lemmas.Int.{ints, clamps}
use Rattle.std.proofs.lemmas.List.{append-nil, nil_from_length, length-take, take_min}
use Rattle.std.proofs.lemmas.List.Elements.{All-cons}
use Rattle.httparse.specs.Grammar.{IsField, IsResponseHead, ResponseHead, is_token_byte, print_response}
use Rattle.vol_base.specs.Names.{is_name}
use Rattle.vol_base.specs.Outside.{Objects, part}
use Rattle.request_heads.specs.Asks.{values_of}
use Rattle.range_server.specs.Bodies.{body_in, held, object_in, reply_bytes}
use Rattle.range_server.specs.Plans.{by_range, by_size, part_of, planned, refused, whole}
use Rattle.range_server.specs.Ranges.{between}
use Rattle.range_server.specs.Replies.{numbered}
use Rattle.range_server.specs.Texts.{length_line, part_line, reply_head}
use Rattle.range_server.specs.declared.range.RangeAnswer.TheVariants as answer
use Rattle.range_server.specs.declared.reply.Reply.{Reply}
use Rattle.range_server.proofs.TextSteps.{head_short}
use Rattle.remote_store.specs.Requests.{field, range_value, request_of}
use Rattle.remote_store.specs.Fits.{ends_behind, following, is_place, judged, only, place_in, promised}
use Rattle.remote_store.specs.Answers.{Answers, AreShort, IsAsked, SaysOf}
use Rattle.remote_store.specs.declared.wanted.Kind.TheVariants as kind
use Rattle.remote_store.specs.declared.wanted.Promise.{Promise}
use Rattle.remote_store.specs.declared.wanted.Wanted.{Wanted}
use Rattle.remote_store.specs.declared.wanted.Wanted.TheVariants.{Length, Part}
use Rattle.remote_store.proofs.AskedPlans.{plans_length, plans_part, range_read}
use Rattle.remote_store.proofs.HeadParts.{close_fields, close_fields_good, decimal_is_value, good_field, join_values, parsed, parsed_good, place_is_value, place_value, prints}
use Rattle.remote_store.proofs.HeadValues.{placed_fields, plain_fields, tells_close, tells_close_placed, tells_length, tells_length_placed, tells_place}

-- the body of a reply
no_body : (m : Objects) (r : Reply) → r.body ≡ false → body_in m r ≡ []
unfolding body_in
no_body m r e = rw e refl

object_body : (m : Objects) (r : Reply) (name bytes : List ℕ) → r.body ≡ true → r.name ≡ Some name → map.get m name ≡ Some bytes → body_in m r ≡ part bytes r.from r.count
unfolding body_in
object_body m r name bytes e n g = (λ i. if e i then part (object_in m (n i)) r.from r.count else []) ∙ (λ i. part (held (g i)) r.from r.count)

nothing_behind : (bytes : List ℕ) (from count : ℕ) → length bytes ≤ from → part bytes from count ≡ []
nothing_behind bytes from count past = nil_from_length (part bytes from count) (omega (arith, ints, clamps, length-take count (drop from bytes), length-drop from bytes, past))

-- what its head says
missing_judged : (w : Wanted) (c : Bool) → judged w (parsed (codes "404") (codes "Not Found") (plain_fields 0 c)) ≡ Some (record { kind = kind.Missing; len = 0 })
unfolding judged
missing_judged Length c = λ i. promised Length (Some kind.Missing) (tells_length 0 c (omega arith) i) (place_in (only (values_of (codes "content-range") (plain_fields 0 c))))
missing_judged (Part from count) c = λ i. promised (Part from count) (Some kind.Missing) (tells_length 0 c (omega arith) i) (place_in (only (values_of (codes "content-range") (plain_fields 0 c))))

length_judged : (len : ℕ) → len < 2 ^ 64 → (c : Bool) → judged Length (parsed (codes "200") (codes "OK") (plain_fields len c)) ≡ Some (record { kind = kind.Whole; len = len })
unfolding judged
length_judged len h c =
    let place = place_in (only (values_of (codes "content-range") (plain_fields len c))) in
    λ i. promised Length (Some kind.Whole) (tells_length len c h i) place

beyond_judged : (from count : ℕ) (value : List ℕ) (c : Bool) → judged (Part from count) (parsed (codes "416") (codes "Range Not Satisfiable") (placed_fields 0 value c)) ≡ Some (record { kind = kind.Beyond; len = 0 })
unfolding judged
beyond_judged from count value c =
    λ i. promised (Part from count) (Some kind.Beyond) (tells_length_placed 0 value c (omega arith) i) (place_in (only (values_of (codes "content-range") (placed_fields 0 value c))))

-- a part, by its length and its last byte
part_judged : (from count len last total : ℕ) (c : Bool) → from < 2 ^ 64 → len < 2 ^ 64 → last < 2 ^ 64 → total < 2 ^ 64 → from ≤ last → last + 1 ≡ min (from + count) total → len + from ≡ last + 1
    → judged (Part from count) (parsed (codes "206") (codes "Partial Content") (placed_fields len (place_value from last total) c)) ≡ Some (record { kind = kind.Part; len = len })
unfolding judged
part_judged from count len last total c f h l t inside ends fits =
    let value = place_value from last total in
    let place = place_in (only (values_of (codes "content-range") (placed_fields len value c))) in
    let w = Part from count in
    let it_is : is_place from count len (Some (from, last, total)) ≡ true =
    λ i. eq-eqb from from refl i && le-leb from last inside i && eq-eqb (last + 1) (min (from + count) total) ends i && eq-eqb (len + from) (last + 1) fits i in
    (λ i. promised w (Some kind.Part) (tells_length_placed len value c h i) place) ∙ (λ i. promised w (Some kind.Part) (Some len) (tells_place len from last total c f l t i))
    ∙ (λ i. if it_is i then Some (record { kind = kind.Part; len = len }) else None)

-- what makes a reply an answer
module _ (m : Objects) (dataset host : List ℕ) (port : ℕ) (key : List ℕ) (wanted : Wanted) (n : ℕ) where
  assembled : (plan : Reply) → planned m dataset (request_of host port key wanted) ≡ plan → (head : ResponseHead) (promise : Promise) (body : List ℕ)
      → print_response head ≡ reply_head (numbered n plan) → body_in m (numbered n plan) ≡ body → IsResponseHead head → length (reply_head (numbered n plan)) ≤ 512
      → judged wanted head ≡ Some promise → length body ≡ following wanted promise.len → SaysOf wanted (map.get m (dataset ++ 47 ∷ key)) promise body
      → ends_behind head ≡ (plan.close || n == 65535) → Answers m dataset host port key wanted n
  assembled plan e head promise body text follows good short judge len says ends = record {
    head = head;
    promise = promise;
    body = body;
    fits = record {
      reads = (good, (λ i. reply_bytes m (numbered n (e i))) ∙ (λ i. sym text i ++ follows i));
      short = omega (arith, short, ap length text);
      judged = judge;
      whole = len;
    };
    says = says;
    ends = ends ∙ (λ i. (sym e i).close || n == 65535);
  }

  -- 404
  missing : planned m dataset (request_of host port key wanted) ≡ refused 404 false → map.get m (dataset ++ 47 ∷ key) ≡ None → Answers m dataset host port key wanted n
  missing e none =
      let c = false || n == 65535 in
      let plan = refused 404 false in
      let head = parsed (codes "404") (codes "Not Found") (plain_fields 0 c) in
      assembled plan e head (record { kind = kind.Missing; len = 0 }) []
      (prints (codes "404") (codes "Not Found") (numbered n plan) [] refl refl refl) (no_body m (numbered n plan) refl)
      (parsed_good (codes "404") (codes "Not Found") 0 ([] ++ close_fields c) (omega arith) refl refl refl (close_fields_good c))
      (head_short (numbered n plan) (omega arith) (omega arith)) (missing_judged wanted c) (empty wanted) (says wanted none) (tells_close 0 c)
    where
      empty : (w : Wanted) → 0 ≡ following w 0
      empty Length = refl
      empty (Part from count) = refl

      says : (w : Wanted) {object : Option (List ℕ)} → object ≡ None → SaysOf w object (record { kind = kind.Missing; len = 0 }) []
      says Length e = rw e refl
      says (Part from count) e = rw e refl

-- 200 of HEAD
module _ (m : Objects) (dataset host : List ℕ) (port : ℕ) (key : List ℕ) (n : ℕ) where
  length_found : (bytes : List ℕ) → length bytes < 2 ^ 64 → planned m dataset (request_of host port key Length) ≡ whole (dataset ++ 47 ∷ key) false (length bytes) false
      → map.get m (dataset ++ 47 ∷ key) ≡ Some bytes → Answers m dataset host port key Length n
  length_found bytes h e found =
      let c = false || n == 65535 in
      let plan = whole (dataset ++ 47 ∷ key) false (length bytes) false in
      let head = parsed (codes "200") (codes "OK") (plain_fields (length bytes) c) in
      assembled m dataset host port key Length n plan e head (record { kind = kind.Whole; len = length bytes }) []
      (prints (codes "200") (codes "OK") (numbered n plan) [] refl refl refl) (no_body m (numbered n plan) refl)
      (parsed_good (codes "200") (codes "OK") (length bytes) ([] ++ close_fields c) h refl refl refl (close_fields_good c))
      (head_short (numbered n plan) (omega (arith, h)) h) (length_judged (length bytes) h c) refl (sym (ap (option_map length) found)) (tells_close (length bytes) c)

  -- 416
  past_end : (from count : ℕ) (bytes : List ℕ) → length bytes < 2 ^ 64 → length bytes ≤ from
      → planned m dataset (request_of host port key (Part from count)) ≡ record (refused 416 false) { total = length bytes }
      → map.get m (dataset ++ 47 ∷ key) ≡ Some bytes → Answers m dataset host port key (Part from count) n
  unfolding is_token_byte
  past_end from count bytes h past e found =
      let c = false || n == 65535 in
      let plan = record (refused 416 false) { total = length bytes } in
      let value = codes "bytes */" ++ decimal (length bytes) in
      let place = field (codes "Content-Range") value in
      let head = parsed (codes "416") (codes "Range Not Satisfiable") (placed_fields 0 value c) in
      let good : IsField place = good_field (codes "Content-Range") value (omega arith) refl (join_values (codes "bytes */") (decimal (length bytes)) refl (decimal_is_value (length bytes) h)) in
      let none : part bytes from count ≡ [] = nothing_behind bytes from count past in
      assembled m dataset host port key (Part from count) n plan e head (record { kind = kind.Beyond; len = 0 }) []
      (prints (codes "416") (codes "Range Not Satisfiable") (numbered n plan) (place ∷ []) refl (append-nil (length_line plan)) refl) (no_body m (numbered n plan) refl)
      (parsed_good (codes "416") (codes "Range Not Satisfiable") 0 (place ∷ [] ++ close_fields c) (omega arith) refl refl refl (All-cons IsField place (close_fields c) good (close_fields_good c)))
      (head_short (numbered n plan) (omega arith) h) (beyond_judged from count value c) refl
      (ap (λ x. Some x) (sym none) ∙ sym (ap (option_map (λ b. part b from count)) found)) (tells_close_placed 0 value c)

  -- 206
  part_found : (from count : ℕ) (bytes : List ℕ) → 0 < count → from + count < 2 ^ 64 → length bytes < 2 ^ 64 → from < length bytes
      → planned m dataset (request_of host port key (Part from count)) ≡ part_of (dataset ++ 47 ∷ key) false (length bytes) from (min (from + count - 1) (length bytes - 1))
      → map.get m (dataset ++ 47 ∷ key) ≡ Some bytes → Answers m dataset host port key (Part from count) n
  unfolding is_token_byte
  part_found from count bytes some fits h inside e found =
      let c = false || n == 65535 in
      let stop = min (from + count - 1) (length bytes - 1) in
      let plan = part_of (dataset ++ 47 ∷ key) false (length bytes) from stop in
      let len = stop + 1 - from in
      let last = from + len - 1 in
      let total = length bytes in
      let value = place_value from last total in
      let place = field (codes "Content-Range") value in
      let head = parsed (codes "206") (codes "Partial Content") (placed_fields len value c) in
      let n1 : len < 2 ^ 64 = omega (arith, ints, clamps, some, fits, h, inside) in
      let n2 : last < 2 ^ 64 = omega (arith, ints, clamps, some, fits, h, inside) in
      let n3 : from < 2 ^ 64 = omega (arith, ints, clamps, some, fits, h, inside) in
      let ends : last + 1 ≡ min (from + count) total = omega (arith, ints, clamps, some, fits, h, inside) in
      let counts : len + from ≡ last + 1 = omega (arith, ints, clamps, some, fits, h, inside) in
      let n4 : from + len < 2 ^ 64 = omega (arith, ints, clamps, some, fits, h, inside) in
      let good : IsField place = good_field (codes "Content-Range") value (omega arith) refl (place_is_value from last total n3 n2 h) in
      let body = part bytes from len in
      let follows : body_in m (numbered n plan) ≡ body = object_body m (numbered n plan) (dataset ++ 47 ∷ key) bytes refl refl found in
      let all : min count (length (drop from bytes)) ≡ len = omega (arith, ints, clamps, length-drop from bytes, some, fits, h, inside) in
      let same : body ≡ part bytes from count = (λ i. take (sym all i) (drop from bytes)) ∙ take_min count (drop from bytes) in
      let long : length body ≡ len = length-take len (drop from bytes) ∙ omega (arith, ints, clamps, length-drop from bytes, some, fits, h, inside) in
      assembled m dataset host port key (Part from count) n plan e head (record { kind = kind.Part; len = len }) body
      (prints (codes "206") (codes "Partial Content") (numbered n plan) (place ∷ []) refl (append-nil (part_line plan)) refl) follows
      (parsed_good (codes "206") (codes "Partial Content") len (place ∷ [] ++ close_fields c) n1 refl refl refl (All-cons IsField place (close_fields c) good (close_fields_good c)))
      (head_short (numbered n plan) n4 h) (part_judged from count len last total c n3 n1 n2 h (omega (arith, ints, clamps, some, fits, h, inside)) ends counts) long
      (ap (λ x. Some x) same ∙ sym (ap (option_map (λ b. part b from count)) found)) (tells_close_placed len value c)

-- which of them it is, by the object
module _ (m : Objects) (dataset host : List ℕ) (port : ℕ) (key : List ℕ) (n : ℕ) (name : IsTrue (is_name key)) (short : length dataset + 1 + length key ≤ 512) where
  full : List ℕ
  full = dataset ++ 47 ∷ key

  by_length : (object : Option (List ℕ)) → map.get m (dataset ++ 47 ∷ key) ≡ object → IfSome object (λ bytes. length bytes < 2 ^ 64) → Answers m dataset host port key Length n
  by_length None e h =
      missing m dataset host port key Length n (plans_length host port m dataset key name short ∙ (λ i. by_size true None false (dataset ++ 47 ∷ key) (option_map length (e i)))) e
  by_length (Some bytes) e h =
      length_found m dataset host port key n bytes h (plans_length host port m dataset key name short ∙ (λ i. by_size true None false (dataset ++ 47 ∷ key) (option_map length (e i)))) e

  module _ (from count : ℕ) (some : 0 < count) (fits : from + count < 2 ^ 64) where
    plans_by : (object : Option (List ℕ)) → map.get m (dataset ++ 47 ∷ key) ≡ object
        → planned m dataset (request_of host port key (Part from count)) ≡ by_size false (Some (range_value from count)) false (dataset ++ 47 ∷ key) (option_map length object)
    plans_by object e =
        plans_part host port m dataset key from count (omega (arith, fits)) name short ∙ (λ i. by_size false (Some (range_value from count)) false (dataset ++ 47 ∷ key) (option_map length (e i)))

    plans_range : (bytes : List ℕ) → map.get m (dataset ++ 47 ∷ key) ≡ Some bytes
        → planned m dataset (request_of host port key (Part from count)) ≡ by_range (dataset ++ 47 ∷ key) false (length bytes) (between (length bytes) from (from + count - 1))
    plans_range bytes e = plans_by (Some bytes) e ∙ ap (by_range (dataset ++ 47 ∷ key) false (length bytes)) (range_read (length bytes) from count (omega (arith, fits)) (omega (arith, fits)))

    is_between : (len : ℕ) (past : Bool) → nat_le len from ≡ past → between len from (from + count - 1) ≡ (if past then answer.Unsatisfiable else answer.Part from (min (from + count - 1) (len - 1)))
    is_between len past e =
        let ordered : nat_lt (from + count - 1) from ≡ false = lt-leb (suc (from + count - 1)) from (omega (arith, some)) in
        rw (ordered, e) refl

    by_place : (bytes : List ℕ) → map.get m (dataset ++ 47 ∷ key) ≡ Some bytes → length bytes < 2 ^ 64 → (past : Bool) → nat_le (length bytes) from ≡ past → Answers m dataset host port key (Part from count) n
    by_place bytes e h true past =
        past_end m dataset host port key n from count bytes h (leb-true (length bytes) from past)
        (plans_range bytes e ∙ ap (by_range (dataset ++ 47 ∷ key) false (length bytes)) (is_between (length bytes) true past)) e
    by_place bytes e h false past =
        part_found m dataset host port key n from count bytes some fits h (leb-false (length bytes) from past)
        (plans_range bytes e ∙ ap (by_range (dataset ++ 47 ∷ key) false (length bytes)) (is_between (length bytes) false past)) e

    by_part : (object : Option (List ℕ)) → map.get m (dataset ++ 47 ∷ key) ≡ object → IfSome object (λ bytes. length bytes < 2 ^ 64) → Answers m dataset host port key (Part from count) n
    by_part None e h = missing m dataset host port key (Part from count) n (plans_by None e) e
    by_part (Some bytes) e h = by_place bytes e h (nat_le (length bytes) from) refl

pub answered : (wanted : Wanted) → IsAsked wanted → (m : Objects) (dataset host key : List ℕ) (port n : ℕ) → AreShort m → IsTrue (is_name key)
    → length dataset + 1 + length key ≤ 512 → Answers m dataset host port key wanted n
answered Length asked m dataset host key port n plain name short = by_length m dataset host port key n name short (map.get m (dataset ++ 47 ∷ key)) refl (plain (dataset ++ 47 ∷ key))
answered (Part from count) asked m dataset host key port n plain name short =
    by_part m dataset host port key n name short from count asked.0 asked.1 (map.get m (dataset ++ 47 ∷ key)) refl (plain (dataset ++ 47 ∷ key))
