-- The scales of one document have one width and one number of channels, so half a scale is the next one.
use Rattle.std.proofs.Common.{◌≡◌, ◌∙◌, ◌^◌, ℕ, List, Bool, true, false, cond, Option, Some, None, Result, Ok, Err, IfOk, length, nat_lt, refl, subst, sym}
use Rattle.std.specs.Prelude.{IsSomeAnd}
use Rattle.std.specs.FinMap as fin
use Rattle.serde_json.specs.Data.{Data}
use Rattle.vol_base.specs.Outside.{Objects}
use Rattle.vol_spec.specs.Grid.{whole}
use Rattle.vol_spec.specs.Types.{Bytes, Name}
use Rattle.vol_spec.specs.declared.scale.Scale.{Scale}
use Rattle.chunk_laws.specs.Told.{HasNoFault}
use Rattle.info_doc.specs.Faults.{first, unless}
use Rattle.info_doc.specs.Groups.{volume_in}
use Rattle.info_doc.specs.Info.{judged_tree, judged_volume, scale_from as scale_of, scale_in, steps}
use Rattle.info_doc.specs.Json.{tree}
use Rattle.info_doc.specs.declared.fault.InfoFault.{InfoFault}
use Rattle.info_doc.specs.declared.fault.InfoFault.TheVariants.{TooLong}
use Rattle.command_base.specs.Scales.{HasOneSize, IsReady, info_name, judged_info, scale_from, stored_scale}
use Rattle.command_base.specs.declared.refusal.NoScale.{NoScale}
use Rattle.reduce_laws.specs.Halves.{IsHalf}
use Rattle.make_scale.specs.Stored.{OfBoth}
use Rattle.make_scale.specs.Judging.{too_many}
use Rattle.downsample_cmd.specs.Answering.{CanDownsample, IsReadyReduction}

-- the width and the channels of a document's volume
abbrev IsOf : Option Data → Scale → Type 0
IsOf document s = IsSomeAnd document (λ volume. (s.width ≡ (volume_in volume).width) × (s.channels ≡ (volume_in volume).channels))

unless_of : {A : Type 0} (P : A → Type 0) (fault : Option InfoFault) (value : fault ≡ None → A) → ((none : fault ≡ None) → P (value none)) → IfOk (unless fault value) P
unless_of P None value h = h refl
unless_of P (Some fault) value h = tt

of_volume : (key : List ℕ) (volume : Data) → IfOk (judged_volume key volume) (IsOf (Some volume))
unfolding judged_volume scale_of
of_volume key volume = unless_of (IsOf (Some volume)) (first (steps key volume)) (scale_of key volume) (λ none. (refl, refl))

of_tree : (key : List ℕ) (document : Option Data) → IfOk (judged_tree key document) (IsOf document)
of_tree key None = tt
of_tree key (Some volume) = of_volume key volume

of_length : (long : Bool) (judged : Result Scale InfoFault) (document : Option Data) → IfOk judged (IsOf document) → IfOk (cond long (Err TooLong) judged) (IsOf document)
of_length true judged document h = tt
of_length false judged document h = h

of_bytes : (bytes key : List ℕ) → IfOk (scale_in bytes key) (IsOf (tree bytes))
unfolding scale_in
of_bytes bytes key = of_length (nat_lt (2 ^ 20) (length bytes)) (judged_tree key (tree bytes)) (tree bytes) (of_tree key (tree bytes))

told_scale : (told : Result Scale InfoFault) (s : Scale) (document : Option Data) → judged_info told ≡ Ok s → IfOk told (IsOf document) → IsOf document s
told_scale (Ok t) s document e h = let same : t ≡ s = cc e in subst (IsOf document) same h
told_scale (Err fault) s document e h = absurd (cc e)

same_of : (document : Option Data) (s t : Scale) → IsOf document s → IsOf document t → (s.width ≡ t.width) × (s.channels ≡ t.channels)
same_of None s t a b = absurd a
same_of (Some volume) s t a b = (a.0 ∙ sym b.0, a.1 ∙ sym b.1)

by_object : (object : Option Bytes) (key other : Name) (s t : Scale) → scale_from object key ≡ Ok s → scale_from object other ≡ Ok t → (s.width ≡ t.width) × (s.channels ≡ t.channels)
by_object None key other s t a b = absurd (cc a)
by_object (Some bytes) key other s t a b =
    same_of (tree bytes) s t (told_scale (scale_in bytes key) s (tree bytes) a (of_bytes bytes key)) (told_scale (scale_in bytes other) t (tree bytes) b (of_bytes bytes other))

same_values : (m : Objects) (dataset key other : Name) (s t : Scale) → stored_scale m dataset key ≡ Ok s → stored_scale m dataset other ≡ Ok t → (s.width ≡ t.width) × (s.channels ≡ t.channels)
unfolding stored_scale
same_values m dataset key other s t a b = by_object (fin.get m (info_name dataset)) key other s t a b

both_with : (source target : Result Scale NoScale) (P Q : Scale → Scale → Type 0) → OfBoth source target P → ((from to : Scale) → source ≡ Ok from → target ≡ Ok to → P from to → Q from to) → OfBoth source target Q
both_with (Ok from) (Ok to) P Q h f = f from to refl refl h
both_with (Ok from) (Err why) P Q h f = absurd h
both_with (Err why) target P Q h f = absurd h

-- so a reduction of half the size can be begun
pub can_begin : (m : Objects) (dataset key to_key : Name) → CanDownsample m dataset key to_key
    → OfBoth (stored_scale m dataset key) (stored_scale m dataset to_key) (λ from to. IsReadyReduction m dataset from to × HasNoFault m dataset from)
can_begin m dataset key to_key can =
    both_with (stored_scale m dataset key) (stored_scale m dataset to_key)
    (λ from to. IsHalf (whole to) (whole from) × (too_many from to ≡ None) × IsReady m dataset to × HasOneSize to × HasNoFault m dataset from)
    (λ from to. IsReadyReduction m dataset from to × HasNoFault m dataset from) can
    (λ from to a b h. let same = same_values m dataset key to_key from to a b in ((record { half = h.0; widths = same.0; channel_counts = same.1 }, h.1, h.2, h.3), h.4))
