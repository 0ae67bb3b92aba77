-- What readers of a feed do (this project's). What is left before and after a call is an option: it is there
-- where the feed tells it.
use Rattle.std.specs.Prelude.{◌≡◌, ℕ, ◌+◌, ◌-◌, ◌^◌, ◌≤◌, IsTrue, Bool, true, false, List, length, take, drop, Option, IfSome, Result, Ok, Err}
use Rattle.std.specs.List.{All}
use Rattle.std.specs.Option.{option_map}
use Rattle.vol_base.specs.Bytes.{AreBytes}
use Rattle.vol_base.specs.Causes.{HasCauseOf}
use Rattle.vol_base.specs.declared.boxes.Box3.{Box3}
use Rattle.vol_spec.specs.Grid.{Inside}
use Rattle.vol_spec.specs.Raw.{raw_len}
use Rattle.vol_spec.specs.declared.scale.Scale.{Scale}
use Rattle.write_plan.specs.Reading.{judged}
use Rattle.write_plan.specs.WriteLists.{BoxWrite, IsWriteOf, total}
use Rattle.write_plan.specs.declared.writes.Write.{Write}
use Rattle.write_plan.specs.declared.fault.PlanFault.{PlanFault}
use Rattle.write_plan.specs.declared.fault.PlanFault.TheVariants.{FeedFault, BadMagic, TooManyWrites, EmptyBox, OutsideBox, WritesTooLarge, Truncated, TrailingBytes, OutOfMemory}

-- a fault of the stream, neither of the feed nor want of memory
abbrev pub of_stream : PlanFault → Bool
of_stream FeedFault = false
of_stream BadMagic = true
of_stream (TooManyWrites _) = true
of_stream (EmptyBox _) = true
of_stream (OutsideBox _) = true
of_stream (WritesTooLarge _) = true
of_stream (Truncated _) = true
of_stream TrailingBytes = true
of_stream OutOfMemory = false

-- the first n bytes of what was left stand in front of a buffer
pub record IsFront (n : ℕ) (buffer bytes : List ℕ) : Type 0 where
  pub same : take n buffer ≡ take n bytes
  pub within : n ≤ length bytes

-- at most so many bytes were taken
pub record Took (most : ℕ) (before now : Option (List ℕ)) : Type 0 where
  pub count : ℕ
  pub small : count ≤ most
  pub left : now ≡ option_map (drop count) before

abbrev pub gives : {A : Type 0} → A → List ℕ → Result (A × List ℕ) PlanFault
gives value rest = Ok (value, rest)

-- reading gives this value, and leaves what is left
abbrev pub Gave : {A : Type 0} → (List ℕ → Result (A × List ℕ) PlanFault) → Option (List ℕ) →
    Option (List ℕ) → A → Type 0
Gave read before now value = option_map read before ≡ option_map (gives value) now

-- reading gives this fault, if it is one of the stream
abbrev pub Refused : {A : Type 0} → (List ℕ → Result A PlanFault) → Option (List ℕ) → PlanFault → Type 0
Refused read before fault = IsTrue (of_stream fault) → IfSome before (λ bytes. read bytes ≡ Err fault)

-- a call gives the value that is seen of its answer, or refuses
abbrev pub Reading : {A B : Type 0} → (List ℕ → Result (B × List ℕ) PlanFault) → (A → B) → Option (List ℕ) →
    Option (List ℕ) → Result A PlanFault → Type 0
Reading read see before now (Ok value) = Gave read before now (see value)
Reading read see before now (Err fault) = Refused read before fault

-- the same value, whatever the answer
abbrev pub always : {A B : Type 0} → B → A → B
always value _ = value

-- what a call does with a feed, of which is told what is left and how often it failed: it reads, takes at most so
-- many bytes, and answers `FeedFault` only where the feed failed
pub record Reads {F A B : Type 0} (left : F → Option (List ℕ)) (faults : F → ℕ) (old new : F) (most : ℕ)
    (read : List ℕ → Result (B × List ℕ) PlanFault) (see : A → B) (result : Result A PlanFault) : Type 0 where
  pub answer : Reading read see (left old) (left new) result
  pub took : Took most (left old) (left new)
  pub cause : HasCauseOf FeedFault (faults old) (faults new) result

-- what was answered is what reading gives, but for faults of the feed and want of memory
abbrev pub Answers : {A : Type 0} → Result A PlanFault → Result A PlanFault → Type 0
Answers (Ok value) read = read ≡ Ok value
Answers (Err fault) read = IsTrue (of_stream fault) → read ≡ Err fault

-- the box lies inside the scale, its values have so many bytes, and those before leave room for them
pub record IsSized (s : Scale) (before : ℕ) (b : Box3) (len : ℕ) : Type 0 where
  pub inside : Inside s b
  pub bytes : len ≡ raw_len b s.channels s.width
  pub room : before + len ≤ 2 ^ 30

-- the box has no fault, and its values have so many bytes
pub record IsJudged (s : Scale) (i before : ℕ) (b : Box3) (len : ℕ) : Type 0 where
  pub sound : judged s i before b ≡ Ok b
  pub sized : IsSized s before b len

-- the length of a box's values, or its fault
abbrev pub JudgesBox : Scale → ℕ → ℕ → Box3 → Result ℕ PlanFault → Type 0
JudgesBox s i before b (Ok len) = IsJudged s i before b len
JudgesBox s i before b (Err fault) = IsTrue (of_stream fault) × (judged s i before b ≡ Err fault)

-- of a write that was read behind so many bytes of values: it is a write of the scale, of bytes, within the room
pub record IsReadWrite (s : Scale) (before : ℕ) (w : BoxWrite) : Type 0 where
  pub fits : IsWriteOf s w
  pub bytes : AreBytes w.1
  pub room : before + length w.1 ≤ 2 ^ 30

-- of writes that were read: each is a write of the scale, of bytes; together they fit, and they are so many
pub record AreReadWrites (s : Scale) (count : ℕ) (ws : List BoxWrite) : Type 0 where
  pub fit : All (IsWriteOf s) ws
  pub bytes : All (λ w. AreBytes w.1) ws
  pub small : total ws ≤ 2 ^ 30
  pub len : length ws ≡ count

-- how many bytes reading a write behind so many bytes of values takes at most: its head and its values, or all for which there is room
abbrev pub most_of : ℕ → Result Write PlanFault → ℕ
most_of before (Ok write) = 48 + length write.bytes.items
most_of before (Err fault) = 48 + (2 ^ 30 - before)
