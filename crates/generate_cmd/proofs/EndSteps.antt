-- A list that can be written and summed is refused for nothing but faults and want of memory.
use Rattle.std.proofs.Common.{◌≡◌, ◌^◌, ◌<◌, ◌≤◌, Option, Result, Ok, Err, refl, arith}
use Rattle.std.specs.Prelude.{None, IsOkAnd}
use Rattle.vol_base.specs.Outside.{Objects}
use Rattle.vol_spec.specs.Types.{Name}
use Rattle.vol_spec.specs.declared.scale.Scale.{Scale}
use Rattle.size_laws.specs.Further.{all_views}
use Rattle.view_writer.specs.Views.{first_many}
use Rattle.command_base.specs.declared.refusal.NoScale.{NoScale as NoScaleType}
use Rattle.command_base.specs.declared.status.Status.TheVariants.{NoMemory as MemoryStatus, StoreFault as StoreStatus}
use Rattle.cutout_cmd.specs.declared.refusal.CutoutRefusal.TheVariants as uncut
use Rattle.write_cmd.proofs.EndSteps.{none_faulty, none_full, none_many, none_wide}
use Rattle.write_cmd.specs.Storing.{AreReady, Listing}
use Rattle.write_cmd.specs.declared.refusal.WriteRefusal.TheVariants as unwritten
use Rattle.generate_cmd.specs.Generating.{Generates, IsSmall, whole_len}
use Rattle.generate_cmd.specs.Refusals.{generate_status}
use Rattle.generate_cmd.specs.declared.refusal.GenerateRefusal.{GenerateRefusal}
use Rattle.generate_cmd.specs.declared.refusal.GenerateRefusal.TheVariants.{Write, Cutout}

pub memory_alone : (refusal : GenerateRefusal) (told : Result Scale NoScaleType) (m : Objects) (now : Option Objects) (list : Listing) (dataset key : Name)
    → IsOkAnd told (λ s. AreReady m dataset s × IsSmall s × IsOkAnd (list s) (λ writes. first_many (all_views s) writes ≡ None)) → (generate_status refusal ≡ StoreStatus → ⊥)
    → Generates (Err refusal) told m now list dataset key → generate_status refusal ≡ MemoryStatus
memory_alone refusal (Err why) m now list dataset key can store generates = absurd can
memory_alone (Write (unwritten.NoScale why)) (Ok s) m now list dataset key can store generates = cc generates
memory_alone (Write (unwritten.TooManyVoxels voxels)) (Ok s) m now list dataset key can store generates = none_wide s voxels can.0.0 generates
memory_alone (Write unwritten.NotEmpty) (Ok s) m now list dataset key can store generates = none_full m dataset s can.0.1 generates.1
memory_alone (Write (unwritten.Stream fault)) (Ok s) m now list dataset key can store generates = none_faulty (list s) fault _ can.2 generates.2
memory_alone (Write (unwritten.TooManyCells cells)) (Ok s) m now list dataset key can store generates = none_many (list s) s cells can.2 generates.2
memory_alone (Write unwritten.StoreFault) (Ok s) m now list dataset key can store generates = absurd (store refl)
memory_alone (Write unwritten.FeedFault) (Ok s) m now list dataset key can store generates = absurd generates
memory_alone (Write unwritten.NoMemory) (Ok s) m now list dataset key can store generates = refl
memory_alone (Cutout (uncut.TooLarge bytes)) (Ok s) m now list dataset key can store generates =
    let small : whole_len s ≤ 2 ^ 30 = can.1 in let large : 2 ^ 30 < whole_len s = generates.1.1 in absurd (omega (arith, small, large))
memory_alone (Cutout (uncut.NoScale why)) (Ok s) m now list dataset key can store generates = absurd generates
memory_alone (Cutout (uncut.Outside told all)) (Ok s) m now list dataset key can store generates = absurd generates
memory_alone (Cutout (uncut.Damaged cell fault)) (Ok s) m now list dataset key can store generates = absurd generates
memory_alone (Cutout uncut.StoreFault) (Ok s) m now list dataset key can store generates = absurd (store refl)
memory_alone (Cutout uncut.OutFault) (Ok s) m now list dataset key can store generates = absurd generates
memory_alone (Cutout uncut.NoMemory) (Ok s) m now list dataset key can store generates = refl
