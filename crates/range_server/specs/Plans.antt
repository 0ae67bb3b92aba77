-- What the head of a request is answered (RFC 9110, sections 9.3, 14.2 and 15). Steps are judged in the order
-- of their tests, which, with what isn't answered, is this project's profile.
use Rattle.std.specs.Prelude.{◌≡◌, ◌≢◌, ◌≤◌, IsSome, IsTrue, ℕ, ◌+◌, ◌-◌, Bool, true, false, ◌&&◌, ◌||◌, ◌==◌, nat_le, List, [], ◌∷◌, ◌++◌, length, Option, Some, None, option_map, if◌then◌else◌, bytes_eq, codes}
use Rattle.std.specs.FinMap as map
use Rattle.httparse.specs.Grammar.{ReadsRequest, RequestHead}
use Rattle.vol_base.specs.Names.{is_name}
use Rattle.vol_base.specs.Outside.{Objects}
use Rattle.request_heads.specs.Asks.{closes, has_body, range_asked}
use Rattle.range_server.specs.Ranges.{range_in}
use Rattle.range_server.specs.declared.range.RangeAnswer.{RangeAnswer}
use Rattle.range_server.specs.declared.range.RangeAnswer.TheVariants.{Whole, Part, Unsatisfiable}
use Rattle.range_server.specs.declared.reply.Reply.{Reply}

-- no object, and no body
abbrev pub refused : ℕ → Bool → Reply
refused status close = record {
  status = status;
  name = None;
  from = 0;
  count = 0;
  total = 0;
  close =
      close;
  body = false;
}

-- all of an object of len bytes, or its head alone
abbrev pub whole : List ℕ → Bool → ℕ → Bool → Reply
whole name close len body = record {
  status = 200;
  name = Some name;
  from = 0;
  count = len;
  total =
      len;
  close = close;
  body = body;
}

-- from its first byte to its last
abbrev pub part_of : List ℕ → Bool → ℕ → ℕ → ℕ → Reply
part_of name close len first last = record {
  status = 206;
  name = Some name;
  from = first;
  count =
      last + 1 - first;
  total = len;
  close = close;
  body = true;
}

abbrev pub by_range : List ℕ → Bool → ℕ → RangeAnswer → Reply
by_range name close len Whole = whole name close len true
by_range name close len (Part first last) = part_of name close len first last
by_range name close len Unsatisfiable = record (refused 416 close) { total = len }

-- by the value of its only range, where one is asked
abbrev pub by_value : List ℕ → Bool → ℕ → Option (List ℕ) → Reply
by_value name close len None = whole name close len true
by_value name close len (Some value) = by_range name close len (range_in value len)

-- by the object's length, where there is one
abbrev pub by_size : Bool → Option (List ℕ) → Bool → List ℕ → Option ℕ → Reply
by_size head_alone range close name None = refused 404 close
by_size head_alone range close name (Some len) = if head_alone then whole name close len false
    else by_value name close len range

-- by the object's name, where the target gives one
abbrev pub by_name : Objects → Bool → Option (List ℕ) → Bool → Option (List ℕ) → Reply
by_name objects head_alone range close None = refused 404 close
by_name objects head_alone range close (Some name) =
    by_size head_alone range close name (option_map length (map.get objects name))

-- the name that a target gives: the data set's, and behind a `/` that of the target
abbrev pub object_name : List ℕ → List ℕ → Option (List ℕ)
object_name dataset [] = None
object_name dataset (b ∷ rest) =
    if b == 47 && is_name rest && nat_le (length dataset + 1 + length rest) 512
    then Some (dataset ++ 47 ∷ rest) else None

abbrev pub asks_head : List ℕ → Bool
asks_head method = bytes_eq method (codes "HEAD")

abbrev pub asks_get : List ℕ → Bool
asks_get method = bytes_eq method (codes "GET")

abbrev pub by_method : Objects → List ℕ → List ℕ → List ℕ → Option (List ℕ) → Bool → Reply
by_method objects dataset method target range close =
    if asks_head method || asks_get method then by_name objects (asks_head method) range close
    (object_name dataset target) else refused 405 close

-- a body is never read
abbrev pub judged : Objects → List ℕ → Bool → List ℕ → List ℕ → Option (List ℕ) → Bool → Reply
judged objects dataset body method target range close =
    if body then refused 400 true else by_method objects dataset method target range close

-- the reply to a head, whichever request of its connection it is
unfoldable pub planned : Objects → List ℕ → RequestHead → Reply
planned objects dataset head =
    judged objects dataset (has_body head.fields) head.method head.target (range_asked head.fields)
    (closes head)

-- where no head comes
abbrev pub bad_reply : Reply
bad_reply = refused 400 true

-- where the store fails
abbrev pub failed_reply : Reply
failed_reply = refused 500 true

-- a reply that the store didn't fail at: what follows lies in the object, and has a name
pub record IsSound (r : Reply) : Type 0 where
  pub fits : r.from + r.count ≤ r.total
  pub status : r.status ≢ 500
  pub named : IsTrue r.body → IsSome r.name

-- a reply is that to the head at the front of some bytes
abbrev pub IsPlan : Objects → List ℕ → List ℕ → Reply → Type 0
IsPlan objects dataset bytes reply = (head : RequestHead) (rest : List ℕ) → ReadsRequest bytes head rest →
    reply ≡ planned objects dataset head
