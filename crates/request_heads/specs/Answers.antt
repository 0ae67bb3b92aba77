-- What judging a front, and waiting for a head, answer (this project's).
use Rattle.std.specs.Prelude.{◌≡◌, ◌≢◌, ◌<◌, ℕ, List, [], length, ⊤}
use Rattle.httparse.specs.Grammar.{RequestHead, HasNoRequest, NeverHasRequest}
use Rattle.httparse.specs.Spans.{IsRequestOf, IsRequestWithin}
use Rattle.httparse.specs.declared.spans.HeaderSpan.{HeaderSpan}
use Rattle.request_heads.specs.Heads.{BeginsWith, HasNoHead}
use Rattle.request_heads.specs.declared.kinds.Front.{Front}
use Rattle.request_heads.specs.declared.kinds.Front.TheVariants as front
use Rattle.request_heads.specs.declared.kinds.Next.{Next}
use Rattle.request_heads.specs.declared.kinds.Next.TheVariants as next

-- the front of what comes is a whole head, not yet one, or none whatever follows
abbrev pub IsFront : List ℕ → List HeaderSpan → Front → Type 0
IsFront received spans (front.Head parts) = IsRequestWithin received spans parts ×
    IsRequestOf received spans parts
IsFront received spans front.Partial = HasNoRequest received
IsFront received spans front.Never = (0 < length received) × NeverHasRequest received

-- the stream begins with a head, is empty, or has no head
abbrev pub IsNext : List ℕ → Next → Type 0
IsNext stream (next.Head parts) = (head : RequestHead) × (rest : List ℕ) × BeginsWith stream head rest
IsNext stream next.End = stream ≡ []
IsNext stream next.Bad = (stream ≢ []) × HasNoHead stream

-- the parts are those of the head at the front of what was received
abbrev pub HasParts : List ℕ → List HeaderSpan → Next → Type 0
HasParts received spans (next.Head parts) = IsRequestWithin received spans parts ×
    IsRequestOf received spans parts
HasParts received spans next.End = ⊤
HasParts received spans next.Bad = ⊤
