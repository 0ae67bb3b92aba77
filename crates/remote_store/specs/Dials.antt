-- What a dial means: a peer's connections, one after the other (this project's).
use Rattle.std.specs.Prelude.{◌≡◌, ℕ, ◌+◌, ◌-◌, ◌==◌, ◌⊎◌, List, [], ◌∷◌, ◌++◌, length, drop, replicate, Option, None, Some, if◌then◌else◌}
use Rattle.std.specs.Option.{option_map}
use Rattle.httparse.specs.Grammar.{RequestHead}
use Rattle.vol_base.specs.Causes.{counted}
use Rattle.vol_base.specs.Outside.{HaveBytes, Objects}
use Rattle.request_heads.specs.Heads.{BeginsWith}
use Rattle.range_server.specs.Replies.{AreReplies}
use Rattle.remote_store.specs.Answers.{AreShort}

-- a peer that is told: its objects, and the data set that it serves
pub record Peer : Type 0 where
  pub objects : Objects
  pub dataset : List ℕ

-- what was sent on a connection, and what was received on it
pub record Line : Type 0 where
  pub sent : List ℕ
  pub given : List ℕ

-- a connection on which nothing was sent or received
abbrev pub fresh : Line
fresh = record { sent = []; given = [] }

abbrev pub sent_more : List ℕ → Line → Line
sent_more bytes line = record line { sent = line.sent ++ bytes }

abbrev pub given_more : List ℕ → Line → Line
given_more bytes line = record line { given = line.given ++ bytes }

-- hosts and ports that were dialled
abbrev pub Dialled : Type 0
Dialled = List (List ℕ × ℕ)

-- a call dialled once more
abbrev pub DialsOnce : List ℕ × ℕ → Option Dialled → Option Dialled → Type 0
DialsOnce peer old new = new ≡ option_map (λ list. list ++ peer ∷ []) old

-- or it was refused before it did
abbrev pub Dials : List ℕ × ℕ → Option Dialled → Option Dialled → Type 0
Dials peer old new = DialsOnce peer old new ⊎ (new ≡ old)

-- how many more were dialled
abbrev pub more_dialled : Option Dialled → Option Dialled → ℕ
more_dialled (Some old) (Some new) = length new - length old
more_dialled (Some old) None = 0
more_dialled None new = 0

-- those that were dialled since are all this peer
abbrev pub DialsOnly : List ℕ × ℕ → Option Dialled → Option Dialled → Type 0
DialsOnly peer old new = new ≡ option_map (λ list. list ++ replicate (more_dialled old new) peer) old

-- how often the end came, where a call gave n bytes
abbrev pub ends_after : ℕ → ℕ → ℕ
ends_after n ends = if n == 0 then counted (ends + 1) else ends

-- the peer and what was dialled stay as they are, as far as they are told
pub record SamePeer (old_peer peer : Option Peer) (old_dialled dialled : Option Dialled) : Type 0 where
  pub same_peer : peer ≡ old_peer
  pub same_dialled : dialled ≡ old_dialled

-- the bytes are whole heads of requests, one behind the other
abbrev pub AreHeads : List RequestHead → List ℕ → Type 0
AreHeads [] bytes = bytes ≡ []
AreHeads (head ∷ heads) bytes = (behind : List ℕ) × BeginsWith bytes head behind × AreHeads heads behind

-- where whole heads were sent, what is left to receive is what was not yet received of the replies to them
abbrev pub LeavesReplies : Peer → Line → Option (List ℕ) → Type 0
LeavesReplies peer line left =
    (heads : List RequestHead) (replies : List ℕ) → AreHeads heads line.sent → AreReplies peer.objects peer.dataset line.sent replies
    → left ≡ Some (drop (length line.given) replies)

-- a call that only receives leaves also what was sent
pub record OnlyReceives (old_peer peer : Option Peer) (old_dialled dialled : Option Dialled) (old_sent sent : Option (List ℕ)) : Type 0 where
  pub same_peer : peer ≡ old_peer
  pub same_dialled : dialled ≡ old_dialled
  pub same_sent : sent ≡ old_sent

-- objects that are told hold bytes, as many as 64 bits can count
pub record IsPlain (peer : Peer) : Type 0 where
  pub bytes : HaveBytes peer.objects
  pub short : AreShort peer.objects
