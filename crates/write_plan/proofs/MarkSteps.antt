-- The mark of a stream, and what is read behind it.
use Rattle.std.proofs.Common.{◌≡◌, ℕ, Bool, true, false, List, Option, Result, Ok, Err, refl, arith}
use Rattle.std.specs.Prelude.{if◌then◌else◌}
use Rattle.std.specs.Int.{w32, from_le_bytes}
use Rattle.std.specs.Str.{bytes_eq}
use Rattle.write_plan.specs.Reading.{◌>>=◌, count_at, front, limited, marked}
use Rattle.write_plan.specs.Readers.{Reads}
use Rattle.write_plan.specs.Stream.{magic}
use Rattle.write_plan.specs.declared.fault.PlanFault.{PlanFault}
use Rattle.write_plan.specs.declared.fault.PlanFault.TheVariants.{BadMagic, Truncated}
use Rattle.write_plan.proofs.FeedSteps.{read_alike, read_first, read_stopped, read_then}

-- behind the mark
abbrev pub counted : List ℕ → Result (ℕ × List ℕ) PlanFault
counted rest = front 4 (Truncated 0) rest >>= λ count. limited (from_le_bytes w32 count.0) count.1

abbrev if_marked : List ℕ × List ℕ → Result (ℕ × List ℕ) PlanFault
if_marked head = if bytes_eq head.0 magic then counted head.1 else Err BadMagic

in_turn : (bytes : List ℕ) → count_at bytes ≡ (front 4 BadMagic bytes >>= if_marked)
unfolding count_at marked
in_turn bytes = by (front 4 BadMagic bytes)
  where
    choose : (b : Bool) (rest : List ℕ) → ((if b then Ok rest else Err BadMagic) >>= counted) ≡ (if b then counted rest else Err BadMagic)
    choose true rest = refl
    choose false rest = refl

    by : (r : Result (List ℕ × List ℕ) PlanFault) → ((r >>= λ head. if bytes_eq head.0 magic then Ok head.1 else Err BadMagic) >>= counted) ≡ (r >>= if_marked)
    by (Ok head) = choose (bytes_eq head.0 magic) head.1
    by (Err e) = refl

pub read_short : {F C D : Type 0} (left : F → Option (List ℕ)) (faults : F → ℕ) (old new : F) (see : C → List ℕ) (all : D → ℕ) (e : PlanFault) → Reads left faults old new 4 (front 4 BadMagic) see (Err e) → Reads left faults old new 8 count_at all (Err e)
read_short left faults old new see all e h =
    read_alike left faults old new 8 count_at (λ bytes. front 4 BadMagic bytes >>= if_marked) all (Err e) in_turn (read_first left faults old new 4 8 (front 4 BadMagic) if_marked see all e h (omega arith))

pub read_unmarked : {F C D : Type 0} (left : F → Option (List ℕ)) (faults : F → ℕ) (old mid : F) (see : C → List ℕ) (all : D → ℕ) (c : C) → Reads left faults old mid 4 (front 4 BadMagic) see (Ok c) → bytes_eq (see c) magic ≡ false → Reads left faults old mid 8 count_at all (Err BadMagic)
read_unmarked left faults old mid see all c h other =
    read_alike left faults old mid 8 count_at (λ bytes. front 4 BadMagic bytes >>= if_marked) all (Err BadMagic) in_turn
    (read_then left faults old mid mid 4 0 8 (front 4 BadMagic) if_marked see all c (Err BadMagic) h
    (read_stopped left faults mid 0 (λ rest. if_marked (see c, rest)) all BadMagic (λ is. cc is) (λ t rest. rw other refl)) (omega arith))

pub read_marked : {F C D : Type 0} (left : F → Option (List ℕ)) (faults : F → ℕ) (old mid new : F) (see : C → List ℕ) (all : D → ℕ) (c : C) (result : Result D PlanFault) → Reads left faults old mid 4 (front 4 BadMagic) see (Ok c) → bytes_eq (see c) magic ≡ true → Reads left faults mid new 4 counted all result
    → Reads left faults old new 8 count_at all result
read_marked left faults old mid new see all c result h same next =
    read_alike left faults old new 8 count_at (λ bytes. front 4 BadMagic bytes >>= if_marked) all result in_turn
    (read_then left faults old mid new 4 4 8 (front 4 BadMagic) if_marked see all c result h
    (read_alike left faults mid new 4 (λ rest. if_marked (see c, rest)) counted all result (λ rest. rw same refl) next) (omega arith))
