-- The bytes that calls receive, piece by piece (this project's).
use Rattle.std.specs.Prelude.{◌≡◌, ◌≤◌, ◌<◌, ℕ, ◌-◌, min, ⊤, ◌==◌, Bool, true, false, not, List, ◌++◌, length, take, drop, Option, Some, None, IfSome, IfOk, Result}
use Rattle.std.specs.Option.{option_map}
use Rattle.vol_base.specs.Causes.{Rose}
use Rattle.vol_base.specs.declared.outside.Got.{Got}
use Rattle.vol_base.specs.declared.outside.Got.TheVariants.{Absent, Bytes}
use Rattle.vol_base.specs.Gains.{Gains}
use Rattle.vol_base.specs.Outside.{part}
use Rattle.httparse.specs.Grammar.{ReadsResponse, ResponseHead, print_response}
use Rattle.remote_store.specs.Placed.{placed}
use Rattle.remote_store.specs.Fits.{Fits, bytes_said, ends_behind, following, judged}
use Rattle.remote_store.specs.Talks.{IsUnfit}
use Rattle.remote_store.specs.declared.wanted.Wanted.TheVariants.{Part}
use Rattle.remote_store.specs.declared.wanted.Begun.{Begun}
use Rattle.remote_store.specs.declared.wanted.Promise.{Promise}
use Rattle.remote_store.specs.declared.wanted.Wanted.{Wanted}
use Rattle.remote_store.specs.declared.wanted.Kind.{Kind}
use Rattle.remote_store.specs.declared.wanted.Kind.TheVariants as kind
use Rattle.remote_store.specs.Dials.{Line, given_more}

-- some bytes came of those that were left
pub record Came (gained : List ℕ) (old_left new_left : Option (List ℕ)) (old_line new_line : Option Line) : Type 0 where
  pub left : option_map (λ bytes. gained ++ bytes) new_left ≡ old_left
  pub line : new_line ≡ option_map (given_more gained) old_line

-- the end came behind them
pub record Ended (gained : List ℕ) (old_left : Option (List ℕ)) (old_ends ends : ℕ) : Type 0 where
  pub rose : Rose old_ends ends
  pub all : IfSome old_left (λ stream. stream ≡ gained)

-- what a call received that was to receive n bytes: so many, or fewer and the end, where it didn't fail
pub record Passed {T E : Type 0} (n : ℕ) (gained : List ℕ) (old_received new_received old_left new_left : Option (List ℕ)) (old_line new_line : Option Line) (old_ends ends : ℕ) (result : Result T E) : Type 0 where
  pub within : length gained ≤ n
  pub received : Gains old_received new_received gained
  pub came : IfOk result (λ _. Came gained old_left new_left old_line new_line)
  pub ended : IfOk result (λ _. length gained < n → Ended gained old_left old_ends ends)
  pub later : old_ends ≤ ends

-- of a body of n bytes so many came, all of them exactly where the answer is true, and then these stand in a buffer from there on
pub record Taken {E : Type 0} (n at got : ℕ) (body old new : List ℕ) (result : Result Bool E) : Type 0 where
  pub long : length body ≡ got
  pub whole : IfOk result (λ whole. whole ≡ (got == n))
  pub bytes : IfOk result (λ whole. whole ≡ true → new ≡ part body at (length old))

-- where in a body of len bytes those stand that are asked for, and how many
abbrev pub stretch_at : Kind → ℕ → ℕ → ℕ
stretch_at kind.Missing len from = 0
stretch_at kind.Beyond len from = 0
stretch_at kind.Whole len from = min from len
stretch_at kind.Part len from = 0

abbrev pub stretch_count : Kind → ℕ → ℕ → ℕ → ℕ
stretch_count kind.Missing len from count = 0
stretch_count kind.Beyond len from count = 0
stretch_count kind.Whole len from count = min (len - min from len) count
stretch_count kind.Part len from count = len

-- a part is no longer than what was asked for
abbrev pub HasRoom : Kind → ℕ → ℕ → Type 0
HasRoom kind.Missing len count = ⊤
HasRoom kind.Beyond len count = ⊤
HasRoom kind.Whole len count = ⊤
HasRoom kind.Part len count = len ≤ count

-- of a body of n bytes so many came, all of them exactly where the answer is true, and then what they say stands in a buffer
pub record Said {E : Type 0} (k : Kind) (n from got : ℕ) (body old new : List ℕ) (result : Result Bool E) : Type 0 where
  pub long : length body ≡ got
  pub whole : IfOk result (λ whole. whole ≡ (got == n))
  pub bytes : IfOk result (λ whole. whole ≡ true → new ≡ placed (bytes_said k from (length old) body) old)

-- a head stands at the front and says this, and no more bytes came behind it than follow it
pub record IsHeard (wanted : Wanted) (received : List ℕ) (b : Begun) : Type 0 where
  pub head : ResponseHead
  pub reads : ReadsResponse received head (drop b.head received)
  pub says : judged wanted head ≡ Some b.promise
  pub ends : b.closes ≡ ends_behind head
  pub within : b.head ≤ length received
  pub few : length (print_response head) ≤ 8192
  pub most : length (drop b.head received) ≤ following wanted b.promise.len

-- the same, and all that follows it came, or 8,192 bytes did
pub record IsBegun (wanted : Wanted) (received : List ℕ) (b : Begun) : Type 0 where
  pub heard : IsHeard wanted received b
  pub full : length (drop b.head received) < following wanted b.promise.len → length received ≡ 8192

-- a head of at most 8,192 bytes stands at the front, and then this
abbrev pub HasHead : List ℕ → ResponseHead → List ℕ → Type 0
HasHead gained head rest = ReadsResponse gained head rest × (length (print_response head) ≤ 8192)

-- an end is kept exactly where the reply whose head came doesn't close
abbrev pub IsKeptBehind : List ℕ → Bool → Type 0
IsKeptBehind gained kept = (head : ResponseHead) (rest : List ℕ) → HasHead gained head rest → kept ≡ not (ends_behind head)

-- so many of the bytes that came stand behind the head, none where there is no head; and more than 8,192 came only of a reply that
-- says so
pub record IsCounted (wanted : Wanted) (gained : List ℕ) (body : ℕ) : Type 0 where
  pub behind : (head : ResponseHead) (rest : List ℕ) → HasHead gained head rest → body ≡ length rest
  pub none : ((head : ResponseHead) (rest : List ℕ) → ¬ (HasHead gained head rest)) → body ≡ 0
  pub most : 8192 < length gained → (head : ResponseHead) × (promise : Promise) × (rest : List ℕ) × HasHead gained head rest × (judged wanted head ≡ Some promise) × (length rest ≤ following wanted promise.len)

-- the rest of the reply to a request for a part, behind its first bytes: it came whole exactly where the answer is true, and then what it
-- says stands in a buffer; else the end came
pub record Finished {E : Type 0} (from count : ℕ) (first more : List ℕ) (b : Begun) (old new : List ℕ) (body : ℕ) (old_received new_received old_left new_left : Option (List ℕ)) (old_line new_line : Option Line) (old_ends new_ends : ℕ) (result : Result Bool E) : Type 0 where
  pub front : first ≡ take 8192 (first ++ more)
  pub received : Gains old_received new_received more
  pub came : IfOk result (λ _. Came more old_left new_left old_line new_line)
  pub heard : IsHeard (Part from count) (first ++ more) b
  pub long : length (drop b.head (first ++ more)) ≡ body
  pub fits : IfOk result (λ whole. whole ≡ true → (length (drop b.head (first ++ more)) ≡ b.promise.len)
      × (new ≡ placed (bytes_said b.promise.kind from count (drop b.head (first ++ more))) old))
  pub cut : IfOk result (λ whole. whole ≡ false → (length (drop b.head (first ++ more)) < b.promise.len) × Ended more old_left old_ends new_ends)
  pub later : old_ends ≤ new_ends

-- the reply to a request for a part, by all that came: it fits, and what it says stands in a buffer; or it doesn't fit
pub record Replied {E : Type 0} (from count : ℕ) (gained last old new : List ℕ) (body : ℕ) (old_received new_received : Option (List ℕ)) (old_ends new_ends : ℕ) (result : Result (Option Promise) E) : Type 0 where
  pub front : last ≡ take 8192 gained
  pub received : Gains old_received new_received gained
  pub fits : IfOk result (λ o. IfSome o (λ promise. (body : List ℕ) × Fits (Part from count) gained promise body × (new ≡ placed (bytes_said promise.kind from count body) old)))
  pub unfit : IfOk result (λ o. o ≡ None → IsUnfit (Part from count) gained old_ends new_ends)
  pub counted : IsCounted (Part from count) gained body

-- the answer of a read, by kind and by how many bytes are said
abbrev pub got_of_kind : Kind → ℕ → Got
got_of_kind kind.Missing n = Absent
got_of_kind kind.Beyond n = Bytes n
got_of_kind kind.Whole n = Bytes n
got_of_kind kind.Part n = Bytes n

-- the answer of a read of no bytes
abbrev pub empty_got : Kind → Got
empty_got kind.Missing = Absent
empty_got kind.Beyond = Bytes 0
empty_got kind.Whole = Bytes 0
empty_got kind.Part = Bytes 0
