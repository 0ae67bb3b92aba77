-- The replies to a stream of requests, whatever pieces it comes in (RFC 9112, sections 2.2 and 9.3). A stream is some
-- heads, one behind the other, since no body is ever read; and the last reply is nothing where the stream ends, the 400
-- where no head comes, or one that closes the connection.
use Rattle.std.specs.Prelude.{◌≡◌, ◌≢◌, ◌<◌, ◌⊎◌, ◌+◌, ◌==◌, ◌||◌, ℕ, Bool, true, false, List, [], ◌∷◌, ◌++◌, length, take, Option, None, Some}
use Rattle.httparse.specs.Grammar.{ReadsRequest, RequestHead}
use Rattle.vol_base.specs.Causes.{Rose}
use Rattle.vol_base.specs.Outside.{Objects}
use Rattle.request_heads.specs.Heads.{BeginsWith, HasNoHead}
use Rattle.vol_base.specs.Gains.{Gains}
use Rattle.range_server.specs.Bodies.{bad_bytes, body_in, failed_bytes, reply_bytes}
use Rattle.range_server.specs.Plans.{planned}
use Rattle.range_server.specs.Texts.{reply_head}
use Rattle.range_server.specs.declared.fault.ServeFault.{ServeFault}
use Rattle.range_server.specs.declared.fault.ServeFault.TheVariants.{LinkFault, OutOfMemory, StoreFault}
use Rattle.range_server.specs.declared.reply.Ending.{Ending}
use Rattle.range_server.specs.declared.reply.Ending.TheVariants as ending
use Rattle.range_server.specs.declared.reply.Reply.{Reply}

-- what a rest of the stream is answered, by how many requests came before it
abbrev pub Answers : Type 1
Answers = ℕ → List ℕ → List ℕ → Type 0

-- a front of such an answer
abbrev pub FrontOf : Answers → Answers
FrontOf Whole n rest out = (whole : List ℕ) × (k : ℕ) × Whole n rest whole × (out ≡ take k whole)

module _ (reply : ℕ → RequestHead → List ℕ) (closes : ℕ → RequestHead → Bool) where
  -- the stream is these heads, none of whose replies closes, and then the rest; out is their replies
  abbrev pub Reaches : List RequestHead → ℕ → List ℕ → List ℕ → List ℕ → Type 0
  Reaches [] n stream rest out = (rest ≡ stream) × (out ≡ [])
  Reaches (head ∷ heads) n stream rest out =
      (behind : List ℕ) × (more : List ℕ) × BeginsWith stream head behind × (closes n head ≡ false)
      × (out ≡ reply n head ++ more) × Reaches heads (n + 1) behind rest more

  -- some whole replies, none of which closes, and then an answer to the rest
  abbrev pub Behind : Answers → List ℕ → List ℕ → Type 0
  Behind Last stream out =
      (heads : List RequestHead) × (rest : List ℕ) × (front : List ℕ) × (last : List ℕ)
      × Reaches heads 0 stream rest front × Last (length heads) rest last × (out ≡ front ++ last)

  -- the last reply: none at the end, the 400 where no head comes, or one that closes
  abbrev pub EndsWith : Answers
  EndsWith n rest out =
      ((rest ≡ []) × (out ≡ []))
      ⊎ ((rest ≢ []) × HasNoHead rest × (out ≡ bad_bytes))
      ⊎ ((head : RequestHead) × (behind : List ℕ) × BeginsWith rest head behind × (closes n head ≡ true) ×
      (out ≡ reply n head))

  -- the reply that comes next, or none
  abbrev pub GoesOnWith : Answers
  GoesOnWith n rest out =
      (out ≡ [])
      ⊎ ((rest ≢ []) × HasNoHead rest × (out ≡ bad_bytes))
      ⊎ ((head : RequestHead) × (behind : List ℕ) × BeginsWith rest head behind × (out ≡ reply n head))

-- in place of the reply to the next head, that the store failed
abbrev pub FailsAt : Answers
FailsAt n rest out = (head : RequestHead) × (behind : List ℕ) × BeginsWith rest head behind ×
    (out ≡ failed_bytes)

-- the reply to the n-th request of a connection, from 0 on; the 65,536th closes it
abbrev pub numbered : ℕ → Reply → Reply
numbered n r = record r { close = r.close || n == 65535 }

module _ (objects : Objects) (dataset : List ℕ) where
  abbrev pub planned_at : ℕ → RequestHead → Reply
  planned_at n head = numbered n (planned objects dataset head)

  abbrev pub reply_to : ℕ → RequestHead → List ℕ
  reply_to n head = reply_bytes objects (planned_at n head)

  abbrev pub closes_at : ℕ → RequestHead → Bool
  closes_at n head = (planned_at n head).close

  -- out is the replies to the stream
  abbrev pub AreReplies : List ℕ → List ℕ → Type 0
  AreReplies = Behind reply_to closes_at (EndsWith reply_to closes_at)

  -- the whole head of the next reply, and not all of its body
  abbrev pub BreaksOff : Answers
  BreaksOff n rest out =
      (head : RequestHead) × (behind : List ℕ) × BeginsWith rest head behind
      × (k : ℕ) × (k < length (body_in objects (planned_at n head)))
      × (out ≡ reply_head (planned_at n head) ++ take k (body_in objects (planned_at n head)))

  -- how a connection ends that is served to its end: with the last reply, or with the one that says that the store failed
  abbrev pub EndsIn : Ending → Answers
  EndsIn ending.Whole = EndsWith reply_to closes_at
  EndsIn ending.Failed = FailsAt

  -- what was sent to a stream by a connection that ended so: its replies, or whole first ones and that the store failed
  abbrev pub ServedIn : Ending → List ℕ → List ℕ → Type 0
  ServedIn how = Behind reply_to closes_at (EndsIn how)

  -- a connection that was served to its end: with the last reply, or where the store's count of faults rose
  abbrev pub Ends : ℕ → ℕ → Answers
  Ends before now n rest out = EndsWith reply_to closes_at n rest out ⊎ (Rose before now × FailsAt n rest out)

  -- one that wasn't: amid a reply, or amid the one that says that the store failed
  abbrev pub StopsShort : ℕ → ℕ → Answers
  StopsShort before now n rest out =
      FrontOf (GoesOnWith reply_to closes_at) n rest out ⊎ (Rose before now × FrontOf FailsAt n rest out)

  -- where memory ran out, nothing of the reply that comes next
  abbrev pub Stops : ℕ → ℕ → ServeFault → Answers
  Stops before now LinkFault = StopsShort before now
  Stops before now OutOfMemory = λ n rest out. out ≡ []
  Stops before now StoreFault = BreaksOff

  -- what was sent of the replies to a stream
  abbrev pub Served : ℕ → ℕ → List ℕ → List ℕ → Type 0
  Served before now = Behind reply_to closes_at (Ends before now)

  abbrev pub Stopped : ℕ → ℕ → ServeFault → List ℕ → List ℕ → Type 0
  Stopped before now fault = Behind reply_to closes_at (Stops before now fault)

-- a reply is that to the head at the front of some bytes, by its number
abbrev pub IsPlanAt : ℕ → Objects → List ℕ → List ℕ → Reply → Type 0
IsPlanAt n objects dataset bytes reply = (head : RequestHead) (rest : List ℕ) → ReadsRequest bytes head rest →
    reply ≡ planned_at objects dataset n head

-- what answering a head sends, by how the connection ends there, or where it goes on
abbrev pub Answered : Objects → List ℕ → ℕ → RequestHead → Option (List ℕ) → Option (List ℕ) → Option Ending →
    Type 0
Answered objects dataset n head old new None = Gains old new (reply_to objects dataset n head) ×
    (closes_at objects dataset n head ≡ false)
Answered objects dataset n head old new (Some ending.Whole) = Gains old new (reply_to objects dataset n head) ×
    (closes_at objects dataset n head ≡ true)
Answered objects dataset n head old new (Some ending.Failed) = Gains old new failed_bytes

-- a link gained an answer
abbrev pub Gained : (List ℕ → Type 0) → Option (List ℕ) → Option (List ℕ) → Type 0
Gained Answer old new = (out : List ℕ) × Answer out × Gains old new out

-- one request was answered, and the connection goes on with what is then pending
abbrev pub GoesOn : Objects → List ℕ → ℕ → List ℕ → Option (List ℕ) → Option (List ℕ) → Option (List ℕ) →
    Type 0
GoesOn objects dataset n rest old new pending =
    (head : RequestHead) × (behind : List ℕ) × BeginsWith rest head behind ×
    (closes_at objects dataset n head ≡ false)
    × Gains old new (reply_to objects dataset n head) × (pending ≡ Some behind)

-- n requests of a stream were answered, and the connection goes on with what is pending
abbrev pub HasReached : Objects → List ℕ → ℕ → List ℕ → Option (List ℕ) → Option (List ℕ) → Option (List ℕ) →
    Type 0
HasReached objects dataset n stream pending old new =
    (heads : List RequestHead) × (rest : List ℕ) × (front : List ℕ) × (pending ≡ Some rest) ×
    Gains old new front
    × (length heads ≡ n) × Reaches (reply_to objects dataset)
    (closes_at objects dataset) heads 0 stream rest front
