-- What a source and a store mean, and a feed (this project's).
use Rattle.std.specs.Prelude.{◌≡◌, ◌<◌, ◌≤◌, IsSome, IfSome, ℕ, ◌+◌, ◌-◌, ◌^◌, min, Bool, List, [], ◌∷◌, ◌++◌, length, take, drop, Option, Some, None, nat_eq, ◌&&◌, ◌==◌, slice_index}
use Rattle.std.specs.Option.{is_some, option_map}
use Rattle.std.specs.List.{list_any, starts_with, AllByRecursion}
use Rattle.std.specs.FinMap as map
use Rattle.std.specs.Ordering.{nat_cmp}
use Rattle.std.specs.Cmp.Lexicographic.{slice_cmp}
use Rattle.vol_base.specs.Bytes.{AreBytes}
use Rattle.vol_base.specs.declared.outside.Got.{Got}
use Rattle.vol_base.specs.declared.outside.Got.TheVariants.{Absent, Bytes}

-- a finite map from names to bytes
abbrev pub Objects : Type 0
Objects = map.FinMap (slice_cmp nat_cmp) (List ℕ)

-- what each object holds is bytes
abbrev pub HaveBytes : Objects → Type 0
HaveBytes objects = (name : List ℕ) → IfSome (map.get objects name) AreBytes

-- the n bytes from a place on, or what is left
abbrev pub part : List ℕ → ℕ → ℕ → List ℕ
part bytes at n = take n (drop at bytes)

abbrev pub got_of : Option (List ℕ) → ℕ → ℕ → Got
got_of None at n = Absent
got_of (Some bytes) at n = Bytes (length (part bytes at n))

abbrev pub read_of : Option (List ℕ) → ℕ → List ℕ → List ℕ
read_of None at out = out
read_of (Some bytes) at out = part bytes at (length out) ++ drop (length (part bytes at (length out))) out

-- what a read leaves behind the bytes that it gave, which are at most as many as there is room for
abbrev pub KeepsRest : List ℕ → List ℕ → Got → Type 0
KeepsRest old new Absent = new ≡ old
KeepsRest old new (Bytes n) = (n ≤ length old) × (drop n new ≡ drop n old)

-- what stands behind some bytes
abbrev pub IsEndOf : List ℕ → List ℕ → Type 0
IsEndOf whole end = (n : ℕ) × (end ≡ drop n whole)

-- the front of what was left, n bytes of it: none only at the end
pub record Gives (n : ℕ) (out bytes : List ℕ) : Type 0 where
  pub front : take n out ≡ take n bytes
  pub within : n ≤ length bytes
  pub some : 0 < length bytes → 0 < n

-- of a connection the stream that comes in, what is left of it and what was sent: all told, or none, and what is left is
-- what stands behind some bytes of the stream
pub record IsCourse (stream left sent : Option (List ℕ)) : Type 0 where
  pub left_told : is_some left ≡ is_some stream
  pub sent_told : is_some sent ≡ is_some stream
  pub end : IfSome stream (λ whole. IfSome left (IsEndOf whole))

-- an end that was closed: its stream, what was sent, and its count of faults
abbrev pub Ended : Type 0
Ended = List ℕ × List ℕ × ℕ

-- a door that gave more ends than it has noted notes an end that is told
abbrev pub Notes : Option (List Ended) → ℕ → Option (List ℕ) → Option (List ℕ) → ℕ → Option (List Ended) →
    Type 0
Notes served accepted stream sent faults noted =
    IfSome served (λ list. length list < accepted →
    IfSome stream (λ s. IfSome sent (λ o. noted ≡ Some (list ++ (s, o, faults) ∷ []))))

-- a read from a place of an object, into these bytes
pub record Reads (object : Option (List ℕ)) (at : ℕ) (old new : List ℕ) (answer : Got) : Type 0 where
  pub got : answer ≡ got_of object at (length old)
  pub bytes : new ≡ read_of object at old

-- the count of bytes asked for, which stands still at its end
abbrev pub asked_after : ℕ → ℕ → ℕ
asked_after asked n = min (asked + n) (2 ^ 64 - 1)

-- the name begins with the folder, and `/` comes next
abbrev pub is_under : List ℕ → List ℕ → Bool
is_under folder name = starts_with nat_eq name folder && (slice_index name (length folder) == 47)

-- some object's name does
abbrev pub any_under : Objects → List ℕ → Bool
any_under objects folder = list_any (is_under folder) (map.keys objects)

-- an object being written: its length, and its name and bytes where they are told
pub record Draft : Type 0 where
  pub len : ℕ
  pub told : Option (List ℕ × List ℕ)

-- a name and bytes are told with objects that are told, and the bytes have the length that is told
pub record IsTold (objects : Option Objects) (draft : Draft) : Type 0 where
  pub told : IsSome objects → IsSome draft.told
  pub len : IfSome draft.told (λ d. length d.1 ≡ draft.len)

-- the objects and the object being written stay as they are, as far as they are told
pub record OnlyReads (old_objects objects : Option Objects) (old_draft draft : Option Draft) : Type 0 where
  pub same_objects : objects ≡ old_objects
  pub same_draft : draft ≡ old_draft

abbrev pub begun : Option Objects → List ℕ → Draft
begun objects name = record { len = 0; told = option_map (λ _. (name, [])) objects }

abbrev pub appended : Draft → List ℕ → Draft
appended draft piece = record {
  len = draft.len + length piece;
  told =
      option_map (λ d. (d.0, d.1 ++ piece)) draft.told;
}

abbrev pub overwritten : List ℕ → ℕ → List ℕ → List ℕ
overwritten bytes at piece = take at bytes ++ piece ++ drop (at + length piece) bytes

abbrev pub patched : Draft → ℕ → List ℕ → Draft
patched draft at piece = record draft { told = option_map (λ d. (d.0, overwritten d.1 at piece)) draft.told }

-- the objects with a told draft put in
abbrev pub finished : Option (List ℕ × List ℕ) → Objects → Objects
finished None objects = objects
finished (Some d) objects = map.insert objects d.0 d.1

-- what a record of moments gained, in order: each passes this
pub record Passes {X : Type 0} (P : X → Type 0) (old new : List X) : Type 0 where
  pub gained : List X
  pub is : new ≡ old ++ gained
  pub each : AllByRecursion P gained

-- At each moment the objects were those from before the call, and from some moment on those after it
pub record Turns (before after : Option Objects) (old new : List Objects) : Type 0 where
  pub turn : List Objects
  pub steady : Passes (λ m. before ≡ Some m) old turn
  pub turned : Passes (λ m. after ≡ Some m) turn new
