-- What a call sent, where the peer is told (this project's).
use Rattle.std.specs.Prelude.{◌≡◌, ◌≤◌, ◌⊎◌, ℕ, Bool, IsTrue, All, List, ◌++◌, take, OnOk, Option, None, Some, Result}
use Rattle.std.specs.List.{flat_map}
use Rattle.std.specs.Option.{option_map}
use Rattle.httparse.specs.Grammar.{print_request}
use Rattle.vol_base.specs.Causes.{Rose}
use Rattle.vol_base.specs.Gains.{Gains, GainsFront}
use Rattle.vol_base.specs.Names.{is_name}
use Rattle.remote_store.specs.Dials.{Line, Peer}
use Rattle.remote_store.specs.Requests.{request_of}
use Rattle.remote_store.specs.declared.wanted.Wanted.{Wanted}

-- all that was sent on a connection
abbrev pub sent_on : Option Line → Option (List ℕ)
sent_on line = option_map (λ l. l.sent) line

-- some bytes were sent behind what was sent before on the connection that was kept, or alone on a new one
abbrev pub Sends : Bool → List ℕ → Option Peer → Option Line → Option Line → Type 0
Sends kept bytes peer old new =
    (IsTrue kept × (sent_on new ≡ option_map (λ sent. sent ++ bytes) (sent_on old))) ⊎ (sent_on new ≡ option_map (λ _. bytes) peer)

-- a text was sent once; or once more on a new connection, where the one that was kept had ended
abbrev pub OnceOrTwice : List ℕ → Option (List ℕ) → Option (List ℕ) → Type 0
OnceOrTwice text old new = Gains old new text ⊎ Gains old new (text ++ text)

-- it was sent once, or not at all
abbrev pub OnceAtMost : List ℕ → Option (List ℕ) → Option (List ℕ) → Type 0
OnceAtMost text old new = (new ≡ old) ⊎ Gains old new text

-- of all that was sent on whichever connection: whole requests where a call answers, and else no more than a front of them
pub record SendsRequest {T E : Type 0} (request : List ℕ) (old new : Option (List ℕ)) (result : Result T E) : Type 0 where
  pub whole : OnOk result (OnceOrTwice request old new)
  pub front : GainsFront old new (request ++ request)

-- the request for an object to a port of a host: `HEAD` for its length, `GET` with a `Range` for a part of it
abbrev pub request_bytes : List ℕ × ℕ → List ℕ → Wanted → List ℕ
request_bytes to key wanted = print_request (request_of to.0 to.1 key wanted)

-- a request for an object by its name below the data set, or where its call failed so many bytes of one; a name has no space and no end
-- of a line in it, so one piece is no two requests
pub record Piece : Type 0 where
  pub key : List ℕ
  pub named : IsTrue (is_name key)
  pub wanted : Wanted
  pub cut : Option ℕ

abbrev pub cut_by : Option ℕ → List ℕ → List ℕ
cut_by None bytes = bytes
cut_by (Some k) bytes = take k bytes

abbrev pub piece_bytes : List ℕ × ℕ → Piece → List ℕ
piece_bytes to piece = cut_by piece.cut (request_bytes to piece.key piece.wanted)

-- all that was sent is such requests to a port of a host, one behind the other; they are whole where no call failed, by a count of faults
pub record AsksOnly (to : List ℕ × ℕ) (count count_now : ℕ) (old new : Option (List ℕ)) : Type 0 where
  pub later : count ≤ count_now
  pub pieces : List Piece
  pub sent : Gains old new (flat_map (piece_bytes to) pieces)
  pub whole : (Rose count count_now → ⊥) → All (λ p. p.cut ≡ None) pieces

abbrev pub SentOnly : List ℕ × ℕ → ℕ → ℕ → Option (List ℕ) → Option (List ℕ) → Type 0
SentOnly to count count_now old new = ∥ AsksOnly to count count_now old new ∥₁

-- they are that request
abbrev pub Requests : List ℕ × ℕ → List ℕ → Wanted → Bool → Option Peer → Option Line → Option Line → Type 0
Requests to key wanted kept peer old new = Sends kept (request_bytes to key wanted) peer old new
