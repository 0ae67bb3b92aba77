-- What writing a stream answers.
use Rattle.std.proofs.Common.{◌≡◌, ℕ, zero, suc, List, [], ◌∷◌, ◌++◌, length, Option, Some, None, IfSome, Result, Ok, Err, refl, subst, ap, inl, inr, ◌∙◌, ◌≤◌, ◌^◌, arith, sym}
use Rattle.std.specs.Prelude.{◌&&◌, ◌==◌, All, Bool, true, false, IfErr, codes, slice_index}
use Rattle.std.specs.FinMap as fin
use Rattle.std.proofs.lemmas.List.Elements.{All-weaker}
use Rattle.vol_base.specs.Outside.{any_under, Draft, is_under, Objects}
use Rattle.vol_base.specs.Bytes.{AreBytes}
use Rattle.vol_spec.specs.CellNames.{folder_of}
use Rattle.vol_base.specs.declared.boxes.Box3.{Box3}
use Rattle.vol_spec.specs.Grid.{Inside}
use Rattle.vol_spec.specs.StoredCells.{met_cells}
use Rattle.vol_spec.specs.Types.{Bytes, Name, Writes}
use Rattle.vol_spec.specs.declared.scale.Scale.{Scale}
use Rattle.chunk_laws.specs.Told.{HasLastWrites, ReadsBack}
use Rattle.size_laws.specs.Further.{CanStore, all_views, further, written_views}
use Rattle.size_laws.specs.Sizes.{AllSound}
use Rattle.view_writer.proofs.PairSteps.{few_each}
use Rattle.view_writer.proofs.PlanSteps.{few_cells}
use Rattle.view_writer.specs.Views.{first_many}
use Rattle.shard_writer.specs.declared.written.Written.{Written}
use Rattle.write_plan.specs.Plans.{pairs}
use Rattle.write_plan.specs.Stream.{writes_of}
use Rattle.write_plan.specs.declared.fault.PlanFault.{PlanFault}
use Rattle.command_base.proofs.Choices.{ok_is}
use Rattle.vol_spec.specs.Writable.{IsWritable}
use Rattle.command_base.specs.Scales.{info_name, scale_from, stored_scale}
use Rattle.write_cmd.specs.Storing.{AllReadBack, Counts, FrontPut, HasStored, KeepsPlan, Listing, PutsWrites, WritesAll, WritesScale}
use Rattle.command_base.specs.declared.refusal.NoScale.{NoScale as NoScaleType}
use Rattle.write_cmd.specs.declared.refusal.WriteRefusal.{WriteRefusal}
use Rattle.write_cmd.specs.declared.refusal.WriteRefusal.TheVariants.{NoScale, TooManyVoxels, NotEmpty, Stream, TooManyCells, StoreFault, FeedFault, NoMemory}

-- the info document isn't under the folder of a scale
behind : (xs ys zs : List ℕ) → slice_index (xs ++ 47 ∷ ys) (length (xs ++ 47 ∷ zs)) ≡ slice_index ys (length zs)
behind [] ys zs = refl
behind (x ∷ xs) ys zs = behind xs ys zs

no_slash : (n : ℕ) → (slice_index (codes "info") n == 47) ≡ false
no_slash zero = refl
no_slash (suc zero) = refl
no_slash (suc (suc zero)) = refl
no_slash (suc (suc (suc zero))) = refl
no_slash (suc (suc (suc (suc n)))) = refl

and_false : (a b : Bool) → b ≡ false → (a && b) ≡ false
and_false true b e = e
and_false false b e = refl

pub info_apart : (dataset : Name) (s : Scale) → is_under (folder_of dataset s) (info_name dataset) ≡ false
info_apart dataset s = and_false _ _ (ap (λ c. c == 47) (behind dataset (codes "info") s.key) ∙ no_slash (length s.key))

-- the laws of what is stored once for each view: what is outside a scale's folder stays, writes read back, and all is sound
pub record Laws (dataset : Name) (s : Scale) : Type 0 where
  pub outside : (m : Objects) (writes : Writes) (name : List ℕ) → is_under (folder_of dataset s) name ≡ false → fin.get (written_views m dataset s writes) name ≡ fin.get m name
  pub last : (m : Objects) (writes : Writes) → CanStore m dataset s writes → HasLastWrites (written_views m dataset s writes) dataset s writes
  pub back : (m : Objects) (writes : Writes) (b : Box3) → CanStore m dataset s writes → Inside s b → ReadsBack (written_views m dataset s writes) dataset s writes b
  pub sound : (m : Objects) (writes : Writes) (b : Box3) → CanStore m dataset s writes → Inside s b → AllSound (written_views m dataset s writes) dataset s (further s) b

scale_kept : (m : Objects) (dataset key : Name) (s : Scale) (writes : Writes) → Laws dataset s → stored_scale (written_views m dataset s writes) dataset key ≡ stored_scale m dataset key
unfolding stored_scale
scale_kept m dataset key s writes laws = ap (λ o. scale_from o key) (laws.outside m writes (info_name dataset) (info_apart dataset s))

few_met : (s : Scale) (writes : Writes) → first_many (all_views s) writes ≡ None → All (λ v. length (met_cells v writes) ≤ 2 ^ 22) (all_views s)
few_met s writes none =
    All-weaker (λ v. pairs v writes ≤ 2 ^ 22) (λ v. length (met_cells v writes) ≤ 2 ^ 22) (λ v h. let few = few_cells v writes in omega (arith, few, h))
    (all_views s) (few_each (λ v. pairs v writes) (all_views s) none)

-- writes that were put read back
all_back : (m : Objects) (now : Option Objects) (dataset : Name) (s : Scale) (writes : Writes) → Laws dataset s → All IsWritable (all_views s) → All (λ w. AreBytes w.1) writes → any_under m (folder_of dataset s) ≡ false
    → first_many (all_views s) writes ≡ None → now ≡ Some (written_views m dataset s writes) → AllReadBack now dataset s writes
all_back m now dataset s writes laws limit small empty few put =
    let can : CanStore m dataset s writes = record { few = few_met s writes few; writable = limit; bytes = small; empty = empty } in
    subst (λ o. AllReadBack o dataset s writes) (sym put) (laws.last m writes can, λ b inside. (laws.back m writes b can inside, laws.sound m writes b can inside))

-- writes that were listed and written
list_written : (result : Result Written WriteRefusal) (m : Objects) (now before after : Option Objects) (draft left_draft : Option Draft) (list : Result Writes PlanFault) (dataset key : Name) (s : Scale) (writes : Writes)
    → Laws dataset s → All IsWritable (all_views s) → All (λ w. AreBytes w.1) writes → any_under m (folder_of dataset s) ≡ false → list ≡ Ok writes
    → IfErr result (λ r. KeepsPlan r before after draft left_draft) → PutsWrites result m now dataset s writes → WritesScale result m now list dataset key s
list_written (Ok written) m now before after draft left_draft list dataset key s writes laws limit small empty read kept put =
    ok_is list writes (λ ws. HasStored m now dataset key s ws × AllReadBack now dataset s ws × Counts written dataset s ws) read (
      record { writable = limit; empty = empty; bytes = small; few = put.1; put = put.0; same = scale_kept m dataset key s writes laws },
      all_back m now dataset s writes laws limit small empty put.1 put.0,
      put.2,
    )
list_written (Err (TooManyCells cells)) m now before after draft left_draft list dataset key s writes laws limit small empty read kept put = ok_is list writes _ read put
list_written (Err StoreFault) m now before after draft left_draft list dataset key s writes laws limit small empty read kept put = inr ((limit, empty), ok_is list writes _ read put)
list_written (Err NoMemory) m now before after draft left_draft list dataset key s writes laws limit small empty read kept put = inr ((limit, empty), ok_is list writes _ read put)
list_written (Err (TooManyVoxels voxels)) m now before after draft left_draft list dataset key s writes laws limit small empty read kept put = tt
list_written (Err NotEmpty) m now before after draft left_draft list dataset key s writes laws limit small empty read kept put = tt
list_written (Err (Stream fault)) m now before after draft left_draft list dataset key s writes laws limit small empty read kept put = absurd put
list_written (Err FeedFault) m now before after draft left_draft list dataset key s writes laws limit small empty read kept put = tt
list_written (Err (NoScale why)) m now before after draft left_draft list dataset key s writes laws limit small empty read kept put = absurd put

-- the same where objects and the feed may be untold
pub list_told : (result : Result Written WriteRefusal) (told now : Option Objects) (draft left_draft : Option Draft) (fed : Option Bytes) (dataset key : Name) (s : Scale) (writes : Writes)
    → Laws dataset s → All IsWritable (all_views s) → All (λ w. AreBytes w.1) writes → IfSome told (λ m. any_under m (folder_of dataset s) ≡ false)
    → IfSome fed (λ bytes. writes_of bytes s ≡ Ok writes) → IfErr result (λ r. KeepsPlan r told now draft left_draft) → IfSome told (λ m. PutsWrites result m now dataset s writes)
    → IfSome told (λ m. IfSome fed (λ bytes. WritesScale result m now (writes_of bytes s) dataset key s))
list_told result None now draft left_draft fed dataset key s writes laws limit small empty read keeps put = tt
list_told result (Some m) now draft left_draft None dataset key s writes laws limit small empty read keeps put = tt
list_told result (Some m) now draft left_draft (Some bytes) dataset key s writes laws limit small empty read keeps put =
    list_written result m now (Some m) now draft left_draft (writes_of bytes s) dataset key s writes laws limit small empty read keeps put

-- the folder of a scale, as it was found
pub folder_found : (told : Option Objects) (folder dataset : Name) (s : Scale) (found wanted : Bool) → folder ≡ folder_of dataset s → found ≡ wanted → IfSome told (λ m. found ≡ any_under m folder)
    → IfSome told (λ m. any_under m (folder_of dataset s) ≡ wanted)
folder_found None folder dataset s found wanted named is h = tt
folder_found (Some m) folder dataset s found wanted named is h = ap (any_under m) (sym named) ∙ sym h ∙ is

-- what writing a scale answers is what writing a key answers, where the key has the scale
key_writes : (result : Result Written WriteRefusal) (told : Result Scale NoScaleType) (m : Objects) (now : Option Objects) (list : Listing) (dataset key : Name) (s : Scale)
    → told ≡ Ok s → WritesScale result m now (list s) dataset key s → WritesAll result told m now list dataset key
key_writes (Ok written) told m now list dataset key s is writes = ok_is told s (λ s. WritesScale (Ok written) m now (list s) dataset key s) is writes
key_writes (Err (TooManyVoxels voxels)) told m now list dataset key s is writes = ok_is told s (λ s. WritesScale (Err (TooManyVoxels voxels)) m now (list s) dataset key s) is writes
key_writes (Err NotEmpty) told m now list dataset key s is writes = ok_is told s (λ s. WritesScale (Err NotEmpty) m now (list s) dataset key s) is writes
key_writes (Err (Stream fault)) told m now list dataset key s is writes = ok_is told s (λ s. WritesScale (Err (Stream fault)) m now (list s) dataset key s) is writes
key_writes (Err (TooManyCells cells)) told m now list dataset key s is writes = ok_is told s (λ s. WritesScale (Err (TooManyCells cells)) m now (list s) dataset key s) is writes
key_writes (Err FeedFault) told m now list dataset key s is writes = ok_is told s (λ s. WritesScale (Err FeedFault) m now (list s) dataset key s) is writes
key_writes (Err StoreFault) told m now list dataset key s is (inl same) = inl same
key_writes (Err StoreFault) told m now list dataset key s is (inr put) = inr (ok_is told s (λ s. FrontPut m now (list s) dataset s) is put)
key_writes (Err NoMemory) told m now list dataset key s is (inl same) = inl same
key_writes (Err NoMemory) told m now list dataset key s is (inr put) = inr (ok_is told s (λ s. FrontPut m now (list s) dataset s) is put)
key_writes (Err (NoScale why)) told m now list dataset key s is writes = tt

pub key_told : (result : Result Written WriteRefusal) (o same now : Option Objects) (fed : Option Bytes) (dataset key : Name) (s : Scale) → same ≡ o → IfSome o (λ m. stored_scale m dataset key ≡ Ok s)
    → IfSome same (λ m. IfSome fed (λ bytes. WritesScale result m now (writes_of bytes s) dataset key s)) → IfSome o (λ m. IfSome fed (λ bytes. WritesAll result (stored_scale m dataset key) m now (writes_of bytes) dataset key))
key_told result None same now fed dataset key s e is writes = tt
key_told result (Some m) same now None dataset key s e is writes = tt
key_told result (Some m) same now (Some bytes) dataset key s e is writes =
    key_writes result (stored_scale m dataset key) m now (writes_of bytes) dataset key s is (subst (λ o. IfSome o (λ m. WritesScale result m now (writes_of bytes s) dataset key s)) e writes)
