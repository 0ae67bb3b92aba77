-- What a copy leaves of scales, and how its boxes read.
use Rattle.std.proofs.Common.{◌≡◌, ◌∙◌, Bool, true, false, Option, Some, None, Ok, refl, ap, subst, sym}
use Rattle.std.specs.FinMap as fin
use Rattle.vol_base.specs.Outside.{Objects, any_under, is_under}
use Rattle.vol_spec.proofs.PutSteps.{get-none_under}
use Rattle.vol_spec.specs.CellNames.{folder_of}
use Rattle.vol_spec.specs.StoredCells.{put_in}
use Rattle.vol_spec.specs.StoredLists.{stored_list}
use Rattle.vol_spec.specs.Types.{Bytes, Chunks, Name}
use Rattle.vol_spec.specs.declared.scale.Scale.{Scale}
use Rattle.chunk_laws.proofs.Law.{stored_outside}
use Rattle.copy_laws.proofs.BackSteps.{reads_as_source}
use Rattle.make_scale.proofs.AnswerSteps.{few_cells}
use Rattle.reshard_cmd.proofs.CopyingSteps.{few_copied}
use Rattle.reshard_cmd.specs.Copying.{AllReadAsSource, HasCopied, KeepsScales}
use Rattle.command_base.specs.Scales.{info_name, scale_from, stored_scale}

-- an object that is there isn't under a folder that has none
there_outside : (m : Objects) (folder name : Name) (bytes : Bytes) → any_under m folder ≡ false → fin.get m name ≡ Some bytes → is_under folder name ≡ false
there_outside m folder name bytes none there = by (is_under folder name) refl
  where
    by : (b : Bool) → is_under folder name ≡ b → is_under folder name ≡ false
    by false e = e
    by true e = let absent = get-none_under m folder name none e in absurd (cc (there, absent))

-- so what is stored in such a folder leaves each scale that was there
pub scales_kept : (m : Objects) (dataset : Name) (s : Scale) (chunks : Chunks) → any_under m (folder_of dataset s) ≡ false → KeepsScales m (put_in m (stored_list dataset s chunks))
unfolding stored_scale
scales_kept m dataset s chunks none other key t is = by (fin.get m (info_name other)) refl
  where
    by : (o : Option Bytes) → fin.get m (info_name other) ≡ o → scale_from (fin.get (put_in m (stored_list dataset s chunks)) (info_name other)) key ≡ Ok t
    by None e = let missing = ap (λ o. scale_from o key) (sym e) ∙ is in absurd (cc missing)
    by (Some bytes) e =
        ap (λ o. scale_from o key) (stored_outside m dataset s chunks (info_name other) (there_outside m (folder_of dataset s) (info_name other) bytes none e)) ∙ is

-- each box of a target reads as the source
pub all_read : (m : Objects) (now : Option Objects) (from_dataset to_dataset : Name) (from to : Scale) → HasCopied m now from_dataset from to_dataset to → AllReadAsSource m now from_dataset from to_dataset to
all_read m now from_dataset to_dataset from to h =
    let few = few_copied m from_dataset from to (few_cells from to h.ready.1) in
    subst (λ o. AllReadAsSource m o from_dataset from to_dataset to) (sym h.put)
    (λ b inside. reads_as_source m from_dataset to_dataset from to h.ready.0 few h.ready.2.0 h.ready.2.1 h.target b h.values inside)
