-- What the headline says hangs on the objects before and after a call, and on what is left of the feed before it, alone.
use Rattle.std.proofs.Common.{◌≡◌, List, Option, Some, None, IfSome, subst, sym}
use Rattle.command_line.specs.declared.commands.Command.{Command}
use Rattle.command_line.specs.declared.commands.Command.TheVariants.{Cutout, Downsample, Generate, Reshard, Serve, Update, Verify, Write}
use Rattle.command_base.specs.declared.status.Status.{Status}
use Rattle.downsample_cmd.specs.Answering.{PassesDownsample, ReducedBack}
use Rattle.generate_cmd.specs.Generating.{drawn}
use Rattle.reshard_cmd.specs.Copying.{CopiedBack, PassesReshard}
use Rattle.update_cmd.specs.Answering.{PassesUpdate, UpdatedBack}
use Rattle.vol_base.specs.Outside.{Objects}
use Rattle.vol_spec.specs.Types.{Bytes}
use Rattle.write_cmd.specs.Storing.{PassesList, WrittenBack}
use Rattle.write_plan.specs.Stream.{writes_of}
use Rattle.vol_tool.specs.Runs.{Headline, Killed}
use Rattle.vol_tool.specs.Seen.{Seen}

-- of the same objects before and after
seen_same : (P : Objects → Option Objects → Type 0) (old now new next : Option Objects) → now ≡ old → next ≡ new → IfSome old (λ m. P m new) → IfSome now (λ m. P m next)
seen_same P old now new next e f h = subst (λ o. IfSome now (λ m. P m o)) (sym f) (subst (λ o. IfSome o (λ m. P m new)) (sym e) h)

-- and of the same feed
fed_same : (P : Bytes → Objects → Option Objects → Type 0) (old now new next : Option Objects) (was is : Option Bytes) → now ≡ old → next ≡ new → is ≡ was
    → IfSome old (λ m. IfSome was (λ bytes. P bytes m new)) → IfSome now (λ m. IfSome is (λ bytes. P bytes m next))
fed_same P old now new next was is e f l h =
    seen_same (λ m o. IfSome is (λ bytes. P bytes m o)) old now new next e f (subst (λ x. IfSome old (λ m. IfSome x (λ bytes. P bytes m new))) (sym l) h)

pub same_headline : (command : Option Command) (status : Status) (before after other later : Seen) → other.objects ≡ before.objects → later.objects ≡ after.objects → other.left ≡ before.left
    → Headline command status before after → Headline command status other later
same_headline None status before after other later e f l h = h
same_headline (Some (Cutout dataset key part)) status before after other later e f l h = h
same_headline (Some (Write dataset key workers)) status before after other later e f l h =
    λ ok. fed_same (λ bytes m o. WrittenBack m o (writes_of bytes) dataset key) before.objects other.objects after.objects later.objects before.left other.left e f l (h ok)
same_headline (Some (Update dataset key workers)) status before after other later e f l h =
    λ ok. fed_same (λ bytes m o. UpdatedBack m o (writes_of bytes) dataset key) before.objects other.objects after.objects later.objects before.left other.left e f l (h ok)
same_headline (Some (Generate dataset key number count workers)) status before after other later e f l h =
    λ ok. seen_same (λ m o. WrittenBack m o (drawn number count) dataset key) before.objects other.objects after.objects later.objects e f (h ok)
same_headline (Some (Verify dataset key part)) status before after other later e f l h = h
same_headline (Some (Reshard dataset key to_dataset to_key workers)) status before after other later e f l h =
    λ ok. seen_same (λ m o. CopiedBack m o dataset key to_dataset to_key) before.objects other.objects after.objects later.objects e f (h ok)
same_headline (Some (Downsample dataset key to_key method workers)) status before after other later e f l h =
    λ ok. seen_same (λ m o. ReducedBack method m o dataset key to_key) before.objects other.objects after.objects later.objects e f (h ok)
same_headline (Some (Serve dataset port connections)) status before after other later e f l h = h

-- and so does what a kill leaves
pub same_killed : (command : Option Command) (before other : Seen) (was now old new : List Objects) → other.objects ≡ before.objects → other.left ≡ before.left → old ≡ was → new ≡ now
    → Killed command before was now → Killed command other old new
same_killed command before other was now old new e l f h killed = by command (subst (λ x. Killed command before x new) (sym f) (subst (λ x. Killed command before was x) (sym h) killed))
  where
    fed : (P : Bytes → Option Objects → Type 0) → IfSome before.left (λ bytes. P bytes before.objects) → IfSome other.left (λ bytes. P bytes other.objects)
    fed P passed = subst (λ x. IfSome other.left (λ bytes. P bytes x)) (sym e) (subst (λ x. IfSome x (λ bytes. P bytes before.objects)) (sym l) passed)

    by : (command : Option Command) → Killed command before old new → Killed command other old new
    by None same = same
    by (Some (Cutout dataset key part)) same = same
    by (Some (Write dataset key workers)) passed = fed (λ bytes o. PassesList (writes_of bytes) dataset key o old new) passed
    by (Some (Update dataset key workers)) passed = fed (λ bytes o. PassesUpdate (writes_of bytes) dataset key o old new) passed
    by (Some (Generate dataset key number count workers)) passed = subst (λ o. PassesList (drawn number count) dataset key o old new) (sym e) passed
    by (Some (Verify dataset key part)) same = same
    by (Some (Reshard dataset key to_dataset to_key workers)) passed = subst (λ o. PassesReshard dataset key to_dataset to_key o old new) (sym e) passed
    by (Some (Downsample dataset key to_key method workers)) passed = subst (λ o. PassesDownsample method dataset key to_key o old new) (sym e) passed
    by (Some (Serve dataset port connections)) same = same
