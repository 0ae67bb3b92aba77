-- A volume that was read step by step, and the judgement of it as a whole.
use Rattle.std.specs.Prelude.{All}
use Rattle.std.proofs.Common.{◌≡◌, ◌⊎◌, ℕ, ◌≤◌, Bool, true, false, List, [], ◌∷◌, length, codes, is_some, unwrap_or, Option, Some, None, Ok, Err, refl, sym, ap, ◌∙◌, subst}
use Rattle.vol_base.specs.Grids.{AreSizes, pairs}
use Rattle.vol_spec.specs.Limits.{IsWidth, AreOffsets, IsSeg, AreBlocks, cell_counts}
use Rattle.vol_spec.specs.declared.encoding.Encoding.{Encoding}
use Rattle.vol_spec.specs.declared.scale.Scale.{Scale}
use Rattle.vol_spec.specs.declared.sharding.Sharding.{Sharding}
use Rattle.serde_json.specs.Data.{Data, null}
use Rattle.serde_json.specs.Find.{get}
use Rattle.info_doc.specs.declared.fault.InfoFault.{InfoFault}
use Rattle.info_doc.specs.declared.fault.Item.TheVariants as items
use Rattle.info_doc.specs.declared.volume.Volume.{Volume}
use Rattle.info_doc.specs.declared.shape.Shape.{Shape}
use Rattle.info_doc.specs.Faults.{first, judged, unless}
use Rattle.info_doc.specs.Steps.{list_fault, list_in, scale_of_key, key_fault, is_sharded, only_if}
use Rattle.info_doc.specs.Groups.{volume_fault, volume_in, shape_fault, shape_in, coding_fault, encoding_in, parts_fault, limit_fault}
use Rattle.info_doc.specs.Fits as fits
use Rattle.info_doc.specs.Info.{optional, parts_in, sharding_in, judged_sharding, found_in, scale_at, steps, scale_from, judged_volume}
use Rattle.info_doc.proofs.Judging.{judged_value, unless_none}
use Rattle.vol_spec.proofs.SameScale.{same_scale}
use Rattle.info_doc.proofs.SameSharding.{same_sharding}

-- what was read of a volume up to the encoding of its scale
pub record HasRead (key : List ℕ) (volume : Data) (values : Volume) (scale : Data) (shape : Shape) (encoding : Encoding) : Type 0 where
  pub here : volume_fault volume ≡ None
  pub values_are : values ≡ volume_in volume
  pub listed : list_fault items.Scales (get (codes "scales") volume) ≡ None
  pub found : key_fault (found_in key volume) ≡ None
  pub scale_is : scale ≡ scale_at key volume
  pub shaped : shape_fault scale ≡ None
  pub shape_is : shape ≡ shape_in scale
  pub coded : coding_fault values.width scale ≡ None
  pub encoding_is : encoding ≡ encoding_in scale

pub has_read : (key : List ℕ) (volume : Data) (values : Volume) (name : List ℕ) (scales : List Data) (scale : Data) (shape : Shape) (encoding : Encoding)
    → Ok values ≡ judged (volume_fault volume) (volume_in volume)
    → Ok scales ≡ judged (list_fault items.Scales (get (codes "scales") volume)) (list_in (get (codes "scales") volume))
    → name ≡ key
    → Ok scale ≡ judged (key_fault (scale_of_key name scales)) (unwrap_or (scale_of_key name scales) null)
    → Ok shape ≡ judged (shape_fault scale) (shape_in scale)
    → Ok encoding ≡ judged (coding_fault values.width scale) (encoding_in scale)
    → HasRead key volume values scale shape encoding
has_read key volume values name scales scale shape encoding a b same c d e =
    let va = judged_value (volume_fault volume) (volume_in volume) values a in
    let vb = judged_value (list_fault items.Scales (get (codes "scales") volume)) (list_in (get (codes "scales") volume)) scales b in
    let vc = judged_value (key_fault (scale_of_key name scales)) (unwrap_or (scale_of_key name scales) null) scale c in
    let vd = judged_value (shape_fault scale) (shape_in scale) shape d in
    let ve = judged_value (coding_fault values.width scale) (encoding_in scale) encoding e in
    record { here = va.0; values_are = va.1; listed = vb.0; found = cc; scale_is = cc; shaped = vd.0; shape_is = vd.1; coded = ve.0; encoding_is = ve.1 }

-- ---- the limits of what was read

pub size_fits : (key : List ℕ) (volume : Data) (values : Volume) (scale : Data) (shape : Shape) (encoding : Encoding) → HasRead key volume values scale shape encoding → AreSizes shape.size
size_fits key volume values scale shape encoding r = subst (λ (x : Shape). AreSizes x.size) (sym r.shape_is) (fits.shape_size scale r.shaped)

pub offset_fits : (key : List ℕ) (volume : Data) (values : Volume) (scale : Data) (shape : Shape) (encoding : Encoding) → HasRead key volume values scale shape encoding → AreOffsets shape.offset
offset_fits key volume values scale shape encoding r = subst (λ (x : Shape). AreOffsets x.offset) (sym r.shape_is) (fits.shape_offset scale r.shaped)

pub chunk_fits : (key : List ℕ) (volume : Data) (values : Volume) (scale : Data) (shape : Shape) (encoding : Encoding) → HasRead key volume values scale shape encoding → AreSizes shape.chunk
chunk_fits key volume values scale shape encoding r = subst (λ (x : Shape). AreSizes x.chunk) (sym r.shape_is) (fits.shape_chunk scale r.shaped)

pub more_fits : (key : List ℕ) (volume : Data) (values : Volume) (scale : Data) (shape : Shape) (encoding : Encoding) → HasRead key volume values scale shape encoding → All AreSizes shape.more
more_fits key volume values scale shape encoding r = subst (λ (x : Shape). All AreSizes x.more) (sym r.shape_is) (fits.shape_more scale r.shaped)

pub width_fits : (key : List ℕ) (volume : Data) (values : Volume) (scale : Data) (shape : Shape) (encoding : Encoding) → HasRead key volume values scale shape encoding → ∥ IsWidth values.width ∥₁
width_fits key volume values scale shape encoding r = subst (λ (v : Volume). ∥ IsWidth v.width ∥₁) (sym r.values_are) (fits.volume_width volume r.here)

pub channels_fit : (key : List ℕ) (volume : Data) (values : Volume) (scale : Data) (shape : Shape) (encoding : Encoding) → HasRead key volume values scale shape encoding → (1 ≤ values.channels) × (values.channels ≤ 1024)
channels_fit key volume values scale shape encoding r = subst (λ (v : Volume). (1 ≤ v.channels) × (v.channels ≤ 1024)) (sym r.values_are) (fits.volume_channels volume r.here)

pub wide_fits : (key : List ℕ) (volume : Data) (values : Volume) (scale : Data) (shape : Shape) (encoding : Encoding) → HasRead key volume values scale shape encoding
    → (block : List ℕ) → IsSeg encoding block → ∥ (values.width ≡ 4) ⊎ (values.width ≡ 8) ∥₁
wide_fits key volume values scale shape encoding r block seg = fits.wide_fits values.width scale r.coded block (sym r.encoding_is ∙ seg)

pub blocks_fit : (key : List ℕ) (volume : Data) (values : Volume) (scale : Data) (shape : Shape) (encoding : Encoding) → HasRead key volume values scale shape encoding
    → (block : List ℕ) → IsSeg encoding block → AreBlocks block
blocks_fit key volume values scale shape encoding r block seg = fits.blocks_fit values.width scale r.coded block (sym r.encoding_is ∙ seg)

-- ---- a sharding that was read

pub record HasSharding (member : Option Data) (sharding : Option Sharding) : Type 0 where
  pub clear : only_if (is_sharded member) (parts_fault member) ≡ None
  pub is : sharding ≡ sharding_in member clear

sharding_by : {A : Type 0} (fault : Option InfoFault) (value : fault ≡ None → A) (found : A) → Ok found ≡ unless fault value → (none : fault ≡ None) × (found ≡ value none)
sharding_by None value found e = (refl, cc)
sharding_by (Some fault) value found e = cc

pub has_sharding : (member : Option Data) (sharding : Option Sharding) → Ok sharding ≡ judged_sharding member → HasSharding member sharding
unfolding judged_sharding
has_sharding member sharding e =
    let value = sharding_by (only_if (is_sharded member) (parts_fault member)) (sharding_in member) sharding e in
    record { clear = value.0; is = value.1 }

some_by : {A : Type 0} (condition : Bool) (fault : Option InfoFault) (value : fault ≡ None → A) (none : only_if condition fault ≡ None) → is_some (optional condition fault value none) ≡ condition
some_by true fault value none = refl
some_by false fault value none = refl

pub some_sharding : (member : Option Data) (sharding : Option Sharding) → HasSharding member sharding → is_some sharding ≡ is_sharded member
some_sharding member sharding h = ap is_some h.is ∙ some_by (is_sharded member) (parts_fault member) (parts_in member) h.clear

pub codes_fit : (values : Volume) (shape : Shape) (encoding : Encoding) (sharding : Option Sharding) → limit_fault values shape encoding (is_some sharding) ≡ None → (s : Sharding) → sharding ≡ Some s
    → length (pairs (cell_counts shape.size shape.chunk)) ≤ 64
codes_fit values shape encoding sharding none s is = fits.codes_fit values shape encoding (is_some sharding) none (ap is_some is)

-- a sharded scale has one chunk size
pub alone_fits : (key : List ℕ) (volume : Data) (values : Volume) (scale : Data) (shape : Shape) (encoding : Encoding) (sharding : Option Sharding) → HasRead key volume values scale shape encoding
    → HasSharding (get (codes "sharding") scale) sharding → (s : Sharding) → sharding ≡ Some s → length shape.more ≡ 0
alone_fits key volume values scale shape encoding sharding r h s is =
    subst (λ (x : Shape). length x.more ≡ 0) (sym r.shape_is) (fits.shape_alone scale r.shaped (sym (some_sharding _ sharding h) ∙ ap is_some is))

-- ---- faults

unless_fault : {A : Type 0} (fault : Option InfoFault) (value : fault ≡ None → A) (e : InfoFault) → Err e ≡ unless fault value → fault ≡ Some e
unless_fault None value e h = cc
unless_fault (Some fault) value e h = cc

unless_some : {A : Type 0} (fault : Option InfoFault) (value : fault ≡ None → A) (e : InfoFault) → fault ≡ Some e → Err e ≡ unless fault value
unless_some None value e h = cc
unless_some (Some fault) value e h = cc

judged_fault : {A : Type 0} (fault : Option InfoFault) (value : A) (e : InfoFault) → Err e ≡ judged fault value → fault ≡ Some e
judged_fault None value e h = cc
judged_fault (Some fault) value e h = cc

skip_five : (a b c d e f g sharding limits : Option InfoFault) → a ≡ None → b ≡ None → c ≡ None → d ≡ None → e ≡ None → f ≡ sharding → g ≡ limits
    → first (a ∷ b ∷ c ∷ d ∷ e ∷ f ∷ g ∷ []) ≡ first (sharding ∷ limits ∷ [])
skip_five a b c d e f g sharding limits ea eb ec ed ee ef eg = rw (ea, eb, ec, ed, ee, ef, eg) refl

-- the steps after those of the encoding are left
left_steps : (key : List ℕ) (volume : Data) (values : Volume) (scale : Data) (shape : Shape) (encoding : Encoding) → HasRead key volume values scale shape encoding
    → (sharding limits : Option InfoFault) → only_if (is_sharded (get (codes "sharding") scale)) (parts_fault (get (codes "sharding") scale)) ≡ sharding
    → limit_fault values shape encoding (is_sharded (get (codes "sharding") scale)) ≡ limits → first (steps key volume) ≡ first (sharding ∷ limits ∷ [])
left_steps key volume values scale shape encoding r sharding limits s l =
    let at : scale ≡ scale_at key volume = r.scale_is in
    let shaped : shape_fault (scale_at key volume) ≡ None = cc in
    let coded : coding_fault (volume_in volume).width (scale_at key volume) ≡ None = cc in
    let member : get (codes "sharding") (scale_at key volume) ≡ get (codes "sharding") scale = cc in
    let parts : only_if (is_sharded (get (codes "sharding") (scale_at key volume))) (parts_fault (get (codes "sharding") (scale_at key volume))) ≡ sharding = cc in
    let small : limit_fault (volume_in volume) (shape_in (scale_at key volume)) (encoding_in (scale_at key volume)) (is_sharded (get (codes "sharding") (scale_at key volume))) ≡ limits = cc in
    skip_five _ _ _ _ _ _ _ _ _ r.here r.listed r.found shaped coded parts small

pub sharding_fault : (key : List ℕ) (volume : Data) (values : Volume) (scale : Data) (shape : Shape) (encoding : Encoding) → HasRead key volume values scale shape encoding
    → (e : InfoFault) → Err e ≡ judged_sharding (get (codes "sharding") scale) → Err e ≡ judged_volume key volume
unfolding judged_volume judged_sharding
sharding_fault key volume values scale shape encoding r e h =
    let fault = unless_fault _ _ e h in
    unless_some _ (scale_from key volume) e (left_steps key volume values scale shape encoding r _ _ fault refl)

pub limits_fault : (key : List ℕ) (volume : Data) (values : Volume) (scale : Data) (shape : Shape) (encoding : Encoding) (sharding : Option Sharding) → HasRead key volume values scale shape encoding
    → HasSharding (get (codes "sharding") scale) sharding → (e : InfoFault) → Err e ≡ judged {A = Unit {0}} (limit_fault values shape encoding (is_some sharding)) tt → Err e ≡ judged_volume key volume
unfolding judged_volume
limits_fault key volume values scale shape encoding sharding r s e h =
    let fault = judged_fault _ _ e h in
    let same = some_sharding _ sharding s in
    unless_some _ (scale_from key volume) e (left_steps key volume values scale shape encoding r _ _ s.clear (ap (limit_fault values shape encoding) (sym same) ∙ fault))

-- ---- the scale

optional_same : {A : Type 0} (condition : Bool) (fault : Option InfoFault) (value : fault ≡ None → A) → ((d e : fault ≡ None) → value d ≡ value e)
    → (d e : only_if condition fault ≡ None) → optional condition fault value d ≡ optional condition fault value e
optional_same true fault value same d e = ap Some (same d e)
optional_same false fault value same d e = refl

one_sharding : (member : Option Data) (d e : only_if (is_sharded member) (parts_fault member) ≡ None) → sharding_in member d ≡ sharding_in member e
unfolding parts_in
one_sharding member d e = optional_same (is_sharded member) (parts_fault member) (parts_in member) (λ x y. same_sharding (parts_in member x) (parts_in member y) refl refl refl refl) d e

sharding_same : (a b : Option Data) → a ≡ b → (d : only_if (is_sharded a) (parts_fault a) ≡ None) (e : only_if (is_sharded b) (parts_fault b) ≡ None) → sharding_in a d ≡ sharding_in b e
sharding_same a b is d = subst (λ m. (e : only_if (is_sharded m) (parts_fault m) ≡ None) → sharding_in a d ≡ sharding_in m e) is (λ e. one_sharding a d e)

pub scale_made : (key : List ℕ) (volume : Data) (values : Volume) (scale : Data) (shape : Shape) (encoding : Encoding) (sharding : Option Sharding) → HasRead key volume values scale shape encoding
    → HasSharding (get (codes "sharding") scale) sharding → limit_fault values shape encoding (is_some sharding) ≡ None
    → (s : Scale) → s.key ≡ key → s.width ≡ values.width → s.channels ≡ values.channels → s.size ≡ shape.size → s.offset ≡ shape.offset → s.chunk ≡ shape.chunk
    → s.encoding ≡ encoding → s.sharding ≡ sharding → s.more ≡ shape.more → Ok s ≡ judged_volume key volume
unfolding judged_volume scale_from
scale_made key volume values scale shape encoding sharding r h limits s k w c size o chunk e sh alone =
    let same = some_sharding _ sharding h in
    let none = left_steps key volume values scale shape encoding r None None h.clear (ap (limit_fault values shape encoding) (sym same) ∙ limits) in
    let shape_same : shape ≡ shape_in (scale_at key volume) = r.shape_is ∙ ap shape_in r.scale_is in
    let encoding_same : encoding ≡ encoding_in (scale_at key volume) = r.encoding_is ∙ ap encoding_in r.scale_is in
    unless_none (first (steps key volume)) (scale_from key volume) s none
    (λ clear. same_scale s (scale_from key volume clear) k (w ∙ ap (λ v. v.width) r.values_are) (c ∙ ap (λ v. v.channels) r.values_are)
    (size ∙ ap (λ x. x.size) shape_same) (o ∙ ap (λ x. x.offset) shape_same) (chunk ∙ ap (λ x. x.chunk) shape_same) (e ∙ encoding_same) (sh ∙ h.is ∙ sharding_same _ _ (ap (get (codes "sharding")) r.scale_is) h.clear _) (alone ∙ ap (λ x. x.more) shape_same))
