-- A cutout of a box that is refused.
use Rattle.std.proofs.Common.{◌≡◌, true, Result, Ok, Err}
use Rattle.std.specs.Prelude.{IfErr, ⊤}
use Rattle.command_base.specs.Statuses.{refuses}
use Rattle.cutout_cmd.specs.Cutouts.{IsBroken}
use Rattle.cutout_cmd.specs.Refusals.{cutout_status}
use Rattle.cutout_cmd.specs.declared.refusal.CutoutRefusal.{CutoutRefusal}
use Rattle.cutout_cmd.specs.declared.refusal.CutoutRefusal.TheVariants.{NoScale, Outside, TooLarge, Damaged, StoreFault, OutFault, NoMemory}

-- a box that isn't written whole isn't refused
broken_only : (refusal : CutoutRefusal) (P : Type 0) → IsBroken refusal → refuses (cutout_status refusal) ≡ true → P
broken_only (NoScale why) P broken is = absurd broken
broken_only (Outside part all) P broken is = absurd broken
broken_only (TooLarge bytes) P broken is = absurd broken
broken_only (Damaged cell fault) P broken is = cc is
broken_only StoreFault P broken is = cc is
broken_only OutFault P broken is = cc is
broken_only NoMemory P broken is = cc is

pub never_refused : (r : Result ⊤ CutoutRefusal) (P : Type 0) → IfErr r IsBroken → IfErr r (λ refusal. refuses (cutout_status refusal) ≡ true → P)
never_refused (Ok done) P broken = tt
never_refused (Err refusal) P broken = broken_only refusal P broken
