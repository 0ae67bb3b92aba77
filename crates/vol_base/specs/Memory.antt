-- What the stand-ins in memory are, seen from outside (this project's).
use Rattle.std.specs.Prelude.{ℕ, IsTrue, ◌+◌, ◌-◌, ◌^◌, min, Bool, ◌||◌, nat_le, List, Option, Some, None, IfSome, length, nat_eq}
use Rattle.std.specs.Option.{option_map}
use Rattle.std.specs.List.{list_any}
use Rattle.std.specs.Prelude.{refl}
use Rattle.std.specs.Coded.{Coded, code_by, coded×, coded_ℕ, coded_list}
use Rattle.vol_base.specs.declared.memory.MemoryStore.{MemoryStore}
use Rattle.vol_base.specs.declared.outside.StoreRefusal.{StoreRefusal}
use Rattle.vol_base.specs.declared.outside.StoreRefusal.TheVariants.{Failed, OutOfMemory}
use Rattle.vol_base.specs.Outside.{Objects, Draft, IsTold}
use Rattle.vol_base.specs.Stored.{objects_of, writing_of}

-- a store in memory
pub record Memory : Type 0 where
  pub objects : Objects
  pub writing : Option (List ℕ × List ℕ)
  pub asked : ℕ
  pub faults : ℕ
  pub calls : ℕ
  pub failing : List ℕ

-- a store as it is seen
abbrev pub seen : MemoryStore → Memory
seen s = record {
  objects = objects_of s.objects.items;
  writing = writing_of s.writing;
  asked = s.asked;
  faults = s.faults;
  calls = s.calls;
  failing = s.failing.items;
}

abbrev pub draft_of : Memory → Option Draft
draft_of m = option_map (λ d. record { len = length d.1; told = Some d }) m.writing

-- its objects, and the one that is being written
abbrev pub stored : MemoryStore → Option Objects
stored s = Some (seen s).objects

abbrev pub drafted : MemoryStore → Option Draft
drafted s = draft_of (seen s)

-- whether the next call fails
abbrev pub fails : Memory → Bool
fails m = list_any (λ n. nat_eq n m.calls) m.failing

-- a refusal for another cause than memory comes only where the call fails by its number
abbrev pub FailsAs : StoreRefusal → Bool → Type 0
FailsAs Failed fails = IsTrue fails
FailsAs OutOfMemory fails = Unit {0}

-- a count one higher, up to its end
abbrev pub one_more : ℕ → ℕ
one_more n = min (n + 1) (2 ^ 64 - 1)

-- the store after a call that doesn't fail by its number, but for what the call changes
abbrev pub called : Memory → Memory
called m = record m { calls = one_more m.calls }

-- the store after a call that fails by its number
abbrev pub failed : Memory → Memory
failed m = record m { calls = one_more m.calls; faults = one_more m.faults }

-- the store after a call that is refused, but for what the call changes
abbrev pub refused : StoreRefusal → Memory → Memory
refused Failed m = failed m
refused OutOfMemory m = called m

abbrev pub bytes_code : Coded (List ℕ)
bytes_code = coded_list coded_ℕ

-- what an outlet in memory is, seen from outside
pub record Written : Type 0 where
  pub bytes : List ℕ
  pub room : ℕ
  pub piece : ℕ
  pub faults : ℕ
  pub calls : ℕ
  pub failing : List ℕ

abbrev pub written_code : Coded Written
written_code =
    code_by (List ℕ × (ℕ × (ℕ × (ℕ × (ℕ × List ℕ)))))
    (coded× bytes_code (coded× coded_ℕ (coded× coded_ℕ (coded× coded_ℕ (coded× coded_ℕ bytes_code)))))
    (λ w. (w.bytes, (w.room, (w.piece, (w.faults, (w.calls, w.failing))))))
    (λ p. record {
      bytes = p.0;
      room = p.1.0;
      piece = p.1.1.0;
      faults = p.1.1.1.0;
      calls =
          p.1.1.1.1.0;
      failing = p.1.1.1.1.1;
    })
    (λ _. refl)

-- the next write fails by its number, or there is no room left
abbrev pub refuses_bytes : Written → Bool
refuses_bytes w = list_any (λ n. nat_eq n w.calls) w.failing || nat_le w.room (length w.bytes)

-- a store in memory tells the object being written
told_by : (objects : Objects) (writing : Option (List ℕ × List ℕ)) →
    IfSome (option_map (λ d. record { len = length d.1; told = Some d }) writing) (IsTold (Some objects))
told_by objects None = tt
told_by objects (Some d) = record { told = λ _. refl; len = refl }

pub memory_tells : (m : Memory) → IfSome (draft_of m) (IsTold (Some m.objects))
memory_tells m = told_by m.objects m.writing

-- what a feed in memory is, seen from outside
pub record Incoming : Type 0 where
  pub left : List ℕ
  pub piece : ℕ
  pub faults : ℕ
  pub calls : ℕ
  pub failing : List ℕ

abbrev pub incoming_code : Coded Incoming
incoming_code =
    code_by (List ℕ × (ℕ × (ℕ × (ℕ × List ℕ))))
    (coded× bytes_code (coded× coded_ℕ (coded× coded_ℕ (coded× coded_ℕ bytes_code))))
    (λ f. (f.left, (f.piece, (f.faults, (f.calls, f.failing)))))
    (λ p. record { left = p.0; piece = p.1.0; faults = p.1.1.0; calls = p.1.1.1.0; failing = p.1.1.1.1 })
    (λ _. refl)
