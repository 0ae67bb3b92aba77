-- What serving the ends of a door, one after the other, leaves in the door's list (this project's).
use Rattle.std.specs.Prelude.{◌≡◌, ◌<◌, ◌≤◌, ◌⊎◌, ◌+◌, ℕ, List, [], ◌∷◌, ◌++◌, length, Option, Some}
use Rattle.vol_base.specs.Causes.{Rose}
use Rattle.vol_base.specs.Outside.{Ended, Objects}
use Rattle.range_server.specs.Bodies.{WhereTold}
use Rattle.range_server.specs.Replies.{AreReplies, Served, Stopped}
use Rattle.range_server.specs.declared.fault.DoorRefusal.{DoorRefusal}
use Rattle.range_server.specs.declared.fault.DoorRefusal.TheVariants as refusal
use Rattle.range_server.specs.declared.fault.ServeFault.TheVariants.{LinkFault, OutOfMemory, StoreFault}

module _ (objects : Objects) (dataset : List ℕ) where
  -- what was sent is the replies to what came in
  abbrev pub IsWhole : Ended → Type 0
  IsWhole end = AreReplies objects dataset end.0 end.1

  -- an end that was served, while the store's count of faults went from one number to another: to its end, or until its
  -- link failed, or the store
  abbrev pub EndServed : ℕ → ℕ → Ended → Type 0
  EndServed before now end =
      Served objects dataset before now end.0 end.1
      ⊎ ((0 < end.2) × Stopped objects dataset before now LinkFault end.0 end.1)
      ⊎ (Rose before now × Stopped objects dataset before now StoreFault end.0 end.1)

  -- ends that were served one after the other
  abbrev pub EndsServed : ℕ → ℕ → List Ended → Type 0
  EndsServed before now [] = before ≤ now
  EndsServed before now (end ∷ ends) =
      (start : ℕ) × (mid : ℕ) × (before ≤ start) × (start ≤ mid) × EndServed start mid end ×
      EndsServed mid now ends

  -- the same, where memory ran out amid the last of them
  abbrev pub EndsCutShort : ℕ → ℕ → List Ended → Type 0
  EndsCutShort before now ends =
      (mid : ℕ) × (first : List Ended) × (last : Ended) × (ends ≡ first ++ last ∷ []) ×
      EndsServed before mid first × (mid ≤ now)
      × Stopped objects dataset mid now OutOfMemory last.0 last.1

  -- at most so many ends whose link didn't fail are not whole
  abbrev pub AtMostBroken : List Ended → ℕ → Type 0
  AtMostBroken [] k = Unit {0}
  AtMostBroken (end ∷ ends) k = ((IsWhole end ⊎ (0 < end.2)) × AtMostBroken ends k) ⊎
      ((j : ℕ) × (j + 1 ≡ k) × AtMostBroken ends j)

-- a door noted one end more
abbrev pub AddsEnd : List Ended → Option (List Ended) → (Ended → Type 0) → Type 0
AddsEnd list served Is = (end : Ended) × (served ≡ Some (list ++ end ∷ [])) × Is end

-- a door noted as many ends as it gave
abbrev pub NotesGiven : Option (List Ended) → Option (List Ended) → ℕ → ℕ → Type 0
NotesGiven served now given given_now = WhereTold served (λ list. (ends : List Ended) ×
    (now ≡ Some (list ++ ends)) × (given_now ≡ given + length ends))

-- how many ends a door gave in a call that ended with a refusal, which at OutOfMemory came amid the last of them
abbrev pub GaveBefore : DoorRefusal → ℕ → ℕ → ℕ → Type 0
GaveBefore refusal.DoorFault most before now = (before ≤ now) × (now < before + most)
GaveBefore refusal.OutOfMemory most before now = (before < now) × (now ≤ before + most)

module _ (objects : Objects) (dataset : List ℕ) where
  -- so many ends more were noted, which were served one after the other
  abbrev pub AddsServed : ℕ → ℕ → ℕ → List Ended → Option (List Ended) → Type 0
  AddsServed n before now list served =
      (ends : List Ended) × (served ≡ Some (list ++ ends)) × (length ends ≡ n) ×
      EndsServed objects dataset before now ends

  -- no end was noted; or one amid which memory ran out
  abbrev pub AddsBy : DoorRefusal → ℕ → ℕ → List Ended → Option (List Ended) → Type 0
  AddsBy refusal.DoorFault before now list served = (served ≡ Some list) × (before ≤ now)
  AddsBy refusal.OutOfMemory before now list served =
      AddsEnd list served (λ end. Stopped objects dataset before now OutOfMemory end.0 end.1)

  -- the ends that were served before a refusal: fewer than all, or the last of them not whole
  abbrev pub EndsBy : DoorRefusal → ℕ → ℕ → ℕ → List Ended → Type 0
  EndsBy refusal.DoorFault most before now ends = (length ends < most) ×
      EndsServed objects dataset before now ends
  EndsBy refusal.OutOfMemory most before now ends = (length ends ≤ most) ×
      EndsCutShort objects dataset before now ends
