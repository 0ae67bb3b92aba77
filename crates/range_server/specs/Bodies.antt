-- The bytes of a reply over the objects (RFC 9112, section 6), and what a link gains (this project's).
use Rattle.std.specs.Prelude.{◌≡◌, ◌≢◌, ◌⊎◌, ◌<◌, ◌≤◌, IsTrue, IsErrOf, Result, ℕ, Bool, true, false, List, [], ◌++◌, length, take, Option, Some, None, if◌then◌else◌}
use Rattle.std.specs.FinMap as map
use Rattle.vol_base.specs.Outside.{Objects, OnlyReads, part}
use Rattle.vol_base.specs.Causes.{Rose}
use Rattle.vol_base.specs.Gains.{Gains, GainsFront}
use Rattle.vol_base.specs.declared.outside.Failed.{Failed}
use Rattle.vol_base.specs.declared.outside.Link.{Ghosts as Links}
use Rattle.vol_base.specs.declared.outside.Source.{Ghosts}
use Rattle.range_server.specs.declared.fault.ServeFault.{ServeFault}
use Rattle.range_server.specs.declared.fault.ServeFault.TheVariants.{LinkFault, OutOfMemory, StoreFault}
use Rattle.range_server.specs.declared.reply.Sent.{Sent}
use Rattle.range_server.specs.declared.reply.Sent.TheVariants.{Whole, Broken}
use Rattle.range_server.specs.Plans.{bad_reply, failed_reply}
use Rattle.range_server.specs.Texts.{reply_head}
use Rattle.range_server.specs.declared.reply.Reply.{Reply}

-- the bytes of an object, or none
abbrev pub held : Option (List ℕ) → List ℕ
held None = []
held (Some bytes) = bytes

abbrev pub object_in : Objects → Option (List ℕ) → List ℕ
object_in objects None = []
object_in objects (Some name) = held (map.get objects name)

-- what follows a reply's head
unfoldable pub body_in : Objects → Reply → List ℕ
body_in objects r = if r.body then part (object_in objects r.name) r.from r.count else []

-- a reply, whole
abbrev pub reply_bytes : Objects → Reply → List ℕ
reply_bytes objects r = reply_head r ++ body_in objects r

-- as many bytes follow as the head says
abbrev pub HasBody : Objects → Reply → Type 0
HasBody objects r = IsTrue r.body → length (body_in objects r) ≡ r.count

-- the reply where no head comes, and the reply where the store fails
abbrev pub bad_bytes : List ℕ
bad_bytes = reply_head bad_reply

abbrev pub failed_bytes : List ℕ
failed_bytes = reply_head failed_reply

-- of what may be told, where it is
abbrev pub WhereTold : {A : Type 0} → Option A → (A → Type 0) → Type 0
WhereTold {A} o P = (x : A) → o ≡ Some x → P x

-- a piece has the bytes of an object from a place on, where they reach so far
abbrev pub IsPiece : List ℕ → ℕ → List ℕ → List ℕ → Type 0
IsPiece object at old new = length (part object at (length old)) ≡ length old →
    new ≡ part object at (length old)

-- n bytes of an object from a place on were sent, where it reaches so far
abbrev pub SendsPart : List ℕ → ℕ → ℕ → Option (List ℕ) → Option (List ℕ) → Type 0
SendsPart object from n old new = length (part object from n) ≡ n → Gains old new (part object from n)

-- a front of them was, and not all where the store failed
abbrev pub CutsPart : List ℕ → ℕ → ℕ → Option (List ℕ) → Option (List ℕ) → ServeFault → Type 0
CutsPart object from n old new fault =
    length (part object from n) ≡ n → (k : ℕ) × (k ≤ n) × (fault ≡ StoreFault → k < n) ×
    Gains old new (take k (part object from n))

-- how often the store failed, as far as that was told: once or never
abbrev pub failures : Bool → ℕ
failures false = 0
failures true = 1

-- why a call of a store failed: the one value there is
abbrev pub failure : Failed
failure = record {}

-- the counts of faults of a link and a store don't fall, and a fault comes only where its count rose; the link's stands unless it failed
pub record HasServeCause {T : Type 0} (link link_now store store_now : ℕ)
    (result : Result T ServeFault) : Type 0 where
  pub link_later : link ≤ link_now
  pub store_later : store ≤ store_now
  pub link_rose : IsErrOf result LinkFault → Rose link link_now
  pub link_stands : ¬ (IsErrOf result LinkFault) → link_now ≡ link
  pub store_rose : IsErrOf result StoreFault → Rose store store_now

-- what serving from a source to a link leaves of both, beside what is sent: the link's stream, the objects, the object being written and the
-- record of moments stay, and a fault comes only where a count rose
pub record ServesFrom {K T A : Type 0} (link : Links K) (source : Ghosts T) (peer peer_now : K) (before after : T)
    (result : Result A ServeFault) : Type 0 where
  pub stream : link.stream peer_now ≡ link.stream peer
  pub kept : OnlyReads (source.objects before) (source.objects after) (source.draft before) (source.draft after)
  pub history : source.history after ≡ source.history before
  pub cause : HasServeCause (link.faults peer) (link.faults peer_now) (source.faults before)
      (source.faults after) result

-- how much of a reply was sent before a fault: a front of it, the whole head and a proper front of the body, or nothing
abbrev pub CutsReply : List ℕ → List ℕ → Option (List ℕ) → Option (List ℕ) → ServeFault → Type 0
CutsReply head body old new LinkFault = GainsFront old new (head ++ body)
CutsReply head body old new StoreFault = (k : ℕ) × (k < length body) × Gains old new (head ++ take k body)
CutsReply head body old new OutOfMemory = new ≡ old

-- a piece is some bytes, and then a front of a reply's body
abbrev pub IsLead : List ℕ → List ℕ → ℕ → List ℕ → Type 0
IsLead head body taken lead = lead ≡ head ++ take taken body

-- the reply was sent whole; or in its place the one that says that the store failed
abbrev pub Sends : Objects → Reply → Option (List ℕ) → Option (List ℕ) → Sent → Type 0
Sends objects r old new Whole = Gains old new (reply_bytes objects r)
Sends objects r old new Broken = Gains old new failed_bytes

-- a fault came amid the reply, or amid the one that says that the store failed
abbrev pub Cuts : Objects → Reply → ℕ → ℕ → Option (List ℕ) → Option (List ℕ) → ServeFault → Type 0
Cuts objects r before now old new fault =
    CutsReply (reply_head r) (body_in objects r) old new fault
    ⊎ (Rose before now × (fault ≢ StoreFault) × CutsReply failed_bytes [] old new fault)
