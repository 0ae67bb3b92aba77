-- The moments of a write.
use Rattle.std.proofs.Common.{◌≡◌, List, Option, Some, None, IfSome, Result, Ok, false, subst}
use Rattle.std.specs.Prelude.{All, IsOkAnd}
use Rattle.vol_base.proofs.Moments.{passes_none, passes_weaker}
use Rattle.vol_base.specs.Outside.{Objects, Passes, any_under}
use Rattle.vol_spec.proofs.Told.{from_told, in_told}
use Rattle.vol_spec.specs.CellNames.{folder_of}
use Rattle.vol_spec.specs.Types.{Bytes, Name, Writes}
use Rattle.vol_spec.specs.Writable.{IsWritable}
use Rattle.vol_spec.specs.declared.scale.Scale.{Scale}
use Rattle.write_plan.specs.Stream.{writes_of}
use Rattle.shard_writer.specs.Writing.{PutsFront}
use Rattle.size_laws.specs.Further.{all_views}
use Rattle.size_laws.specs.Sizes.{stored_all}
use Rattle.view_writer.specs.Views.{IsFront, PassesViews, first_many}
use Rattle.command_base.proofs.Choices.{ok_is}
use Rattle.command_base.specs.Scales.{stored_scale}
use Rattle.write_cmd.specs.Storing.{FrontPut, Listing, PassesList, PassesPut}

-- none of them
pub none_passed : (fed : Option Bytes) (P : Bytes → Objects → Type 0) (was now : List Objects) → now ≡ was → IfSome fed (λ bytes. Passes (P bytes) was now)
none_passed fed P was now same = in_told fed (λ bytes. Passes (P bytes) was now) (λ bytes is. passes_none (P bytes) was now same)

-- of a scale that is ready
pub list_passed : (told : Option Objects) (fed : Option Bytes) (dataset : Name) (s : Scale) (writes : Writes) (was now : List Objects) → All IsWritable (all_views s) → IfSome told (λ m. any_under m (folder_of dataset s) ≡ false)
    → IfSome fed (λ bytes. writes_of bytes s ≡ Ok writes) → PassesViews dataset s writes told was now → IfSome fed (λ bytes. PassesPut (writes_of bytes s) dataset s told was now)
list_passed told fed dataset s writes was now limit empty read passed =
    in_told fed (λ bytes. PassesPut (writes_of bytes s) dataset s told was now)
    (λ bytes fed_is.
    passes_weaker (λ x. (first_many (all_views s) writes ≡ None) × IsFront told (Some x) (stored_all dataset (all_views s) writes)) (λ x. IfSome told (λ m. FrontPut m (Some x) (writes_of bytes s) dataset s))
    (λ x h.
    in_told told (λ m. FrontPut m (Some x) (writes_of bytes s) dataset s)
    (λ m is. (
      (limit, from_told told (λ m. any_under m (folder_of dataset s) ≡ false) m is empty),
      ok_is (writes_of bytes s) writes (λ ws. (first_many (all_views s) ws ≡ None) × PutsFront (stored_all dataset (all_views s) ws) m (Some x)) (from_told fed (λ b. writes_of b s ≡ Ok writes) bytes fed_is read)
          (h.0, from_told told (λ m. PutsFront (stored_all dataset (all_views s) writes) m (Some x)) m is h.1),
    ))) was now passed)

-- of a key that has this scale
pub put_passed : (list : Listing) (o same : Option Objects) (dataset key : Name) (s : Scale) (was before now : List Objects) → same ≡ o → before ≡ was → IfSome o (λ m. stored_scale m dataset key ≡ Ok s)
    → PassesPut (list s) dataset s same before now → PassesList list dataset key o was now
put_passed list o same dataset key s was before now objects history read passed =
    passes_weaker (λ x. IfSome o (λ m. FrontPut m (Some x) (list s) dataset s)) (λ x. IfSome o (λ m. IsOkAnd (stored_scale m dataset key) (λ s. FrontPut m (Some x) (list s) dataset s)))
    (λ x h.
    in_told o (λ m. IsOkAnd (stored_scale m dataset key) (λ s. FrontPut m (Some x) (list s) dataset s))
    (λ m is. ok_is (stored_scale m dataset key) s (λ s. FrontPut m (Some x) (list s) dataset s) (from_told o (λ m. stored_scale m dataset key ≡ Ok s) m is read) (from_told o (λ m. FrontPut m (Some x) (list s) dataset s) m is h))) was now
    (subst (λ h. PassesPut (list s) dataset s o h now) history (subst (λ x. PassesPut (list s) dataset s x before now) objects passed))

pub key_passed : (o same : Option Objects) (fed : Option Bytes) (dataset key : Name) (s : Scale) (was before now : List Objects) → same ≡ o → before ≡ was → IfSome o (λ m. stored_scale m dataset key ≡ Ok s)
    → IfSome fed (λ bytes. PassesPut (writes_of bytes s) dataset s same before now) → IfSome fed (λ bytes. PassesList (writes_of bytes) dataset key o was now)
key_passed o same fed dataset key s was before now objects history read passed =
    in_told fed (λ bytes. PassesList (writes_of bytes) dataset key o was now)
    (λ bytes is. put_passed (writes_of bytes) o same dataset key s was before now objects history read (from_told fed (λ bytes. PassesPut (writes_of bytes s) dataset s same before now) bytes is passed))
