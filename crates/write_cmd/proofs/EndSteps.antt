-- A write that can be done is refused for nothing but faults and want of memory.
use Rattle.std.proofs.Common.{◌≡◌, ℕ, false, true, Option, Some, None, Result, Ok, Err, refl}
use Rattle.std.specs.Prelude.{All, IsOkAnd}
use Rattle.vol_base.specs.Outside.{Objects, any_under}
use Rattle.vol_spec.specs.CellNames.{folder_of}
use Rattle.vol_spec.specs.Types.{Name, Writes}
use Rattle.vol_spec.specs.Writable.{IsWritable, padded}
use Rattle.vol_spec.specs.declared.scale.Scale.{Scale}
use Rattle.size_laws.specs.Further.{all_views}
use Rattle.view_writer.proofs.PairSteps.{each_few}
use Rattle.view_writer.specs.Views.{first_many, first_wide}
use Rattle.write_plan.specs.declared.fault.PlanFault.{PlanFault}
use Rattle.command_base.specs.declared.refusal.NoScale.{NoScale as NoScaleType}
use Rattle.write_cmd.specs.Storing.{AreReady, JudgesWrite, Listing, WritesAll}
use Rattle.write_cmd.specs.declared.refusal.WriteRefusal.{WriteRefusal}
use Rattle.write_cmd.specs.declared.refusal.WriteRefusal.TheVariants.{NoScale, TooManyVoxels, NotEmpty, Stream, TooManyCells, StoreFault, FeedFault, NoMemory}

-- no view passes the writing limit where each keeps it
pub none_wide : (s : Scale) (voxels : ℕ) {A : Type 0} → All IsWritable (all_views s) → first_wide (all_views s) ≡ Some voxels → A
none_wide s voxels can wide = let none : first_wide (all_views s) ≡ None = each_few padded (all_views s) can in cc (none, wide)

-- nor is a folder both empty and not
pub none_full : (m : Objects) (dataset : Name) (s : Scale) {A : Type 0} → any_under m (folder_of dataset s) ≡ false → any_under m (folder_of dataset s) ≡ true → A
none_full m dataset s empty full = cc (empty, full)

-- no list that can be written has a fault, or too many pairs
pub none_faulty : (list : Result Writes PlanFault) (fault : PlanFault) (P : Writes → Type 0) {A : Type 0} → IsOkAnd list P → list ≡ Err fault → A
none_faulty (Ok writes) fault P can is = cc is
none_faulty (Err other) fault P can is = absurd can

pub none_many : (list : Result Writes PlanFault) (s : Scale) (cells : ℕ) {A : Type 0} → IsOkAnd list (λ writes. first_many (all_views s) writes ≡ None)
    → IsOkAnd list (λ writes. first_many (all_views s) writes ≡ Some cells) → A
none_many (Ok writes) s cells few many = cc (few, many)
none_many (Err fault) s cells few many = absurd few

-- so it wants memory
pub memory_alone : (refusal : WriteRefusal) (told : Result Scale NoScaleType) (m : Objects) (now : Option Objects) (list : Listing) (dataset key : Name)
    → IsOkAnd told (λ s. AreReady m dataset s × IsOkAnd (list s) (λ writes. first_many (all_views s) writes ≡ None)) → (refusal ≡ StoreFault → ⊥) → (refusal ≡ FeedFault → ⊥)
    → JudgesWrite (Err refusal) told m dataset → WritesAll (Err refusal) told m now list dataset key → refusal ≡ NoMemory
memory_alone refusal (Err why) m now list dataset key can store fed judges writes = absurd can
memory_alone (NoScale why) (Ok s) m now list dataset key can store fed judges writes = cc judges
memory_alone (TooManyVoxels voxels) (Ok s) m now list dataset key can store fed judges writes = none_wide s voxels can.0.0 judges
memory_alone NotEmpty (Ok s) m now list dataset key can store fed judges writes = none_full m dataset s can.0.1 judges.1
memory_alone (Stream fault) (Ok s) m now list dataset key can store fed judges writes = none_faulty (list s) fault _ can.1 writes
memory_alone (TooManyCells cells) (Ok s) m now list dataset key can store fed judges writes = none_many (list s) s cells can.1 writes
memory_alone StoreFault (Ok s) m now list dataset key can store fed judges writes = absurd (store refl)
memory_alone FeedFault (Ok s) m now list dataset key can store fed judges writes = absurd (fed refl)
memory_alone NoMemory (Ok s) m now list dataset key can store fed judges writes = refl
