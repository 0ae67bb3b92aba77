-- What crates above may know of a judgement.
use Rattle.std.proofs.Common.{◌≡◌, ℕ, ◌^◌, Bool, true, false, List, [], ◌∷◌, ◌++◌, map, codes, length, nat_lt, Option, Some, None, Ok, Err, if◌then◌else◌, refl, sym, ap, ◌∙◌}
use Rattle.serde_json.specs.Data.{Data}
use Rattle.vol_spec.specs.declared.scale.Scale.{Scale}
use Rattle.info_doc.specs.declared.fault.InfoFault.{InfoFault}
use Rattle.info_doc.specs.declared.fault.InfoFault.TheVariants.{TooLong}
use Rattle.info_doc.specs.Faults.{first, unless}
use Rattle.info_doc.specs.Json.{tree}
use Rattle.serde_json.specs.Find.{get}
use Rattle.info_doc.specs.declared.fault.Item.TheVariants as items
use Rattle.info_doc.specs.Steps.{list_fault, key_fault, is_sharded, only_if}
use Rattle.info_doc.specs.Groups.{volume_steps, volume_fault, volume_in, shape_steps, shape_fault, shape_in, coding_steps, coding_fault, encoding_in, parts_steps, parts_fault, limit_steps, limit_fault}
use Rattle.info_doc.specs.Info.{found_in, scale_at, table, steps, scale_from, judged_volume, judged_tree, scale_in}

unless_key : (key : List ℕ) (fault : Option InfoFault) (value : fault ≡ None → Scale) (s : Scale) → ((none : fault ≡ None) → (value none).key ≡ key) → unless fault value ≡ Ok s → s.key ≡ key
unless_key key None value s same e =
    let is : value refl ≡ s = cc in
    sym (ap (λ x. x.key) is) ∙ same refl
unless_key key (Some fault) value s same e = cc

tree_key : (key : List ℕ) (found : Option Data) (s : Scale) → judged_tree key found ≡ Ok s → s.key ≡ key
unfolding judged_volume scale_from
tree_key key None s e = cc
tree_key key (Some volume) s e = unless_key key (first (steps key volume)) (scale_from key volume) s (λ none. refl) e

key_by : (long : Bool) (key : List ℕ) (found : Option Data) (s : Scale) → (if long then Err TooLong else judged_tree key found) ≡ Ok s → s.key ≡ key
key_by true key found s e = cc
key_by false key found s e = tree_key key found s e

-- a scale has the wanted key
pub key-scale_in : (bytes key : List ℕ) (s : Scale) → scale_in bytes key ≡ Ok s → s.key ≡ key
unfolding scale_in
key-scale_in bytes key s e = key_by (nat_lt (2 ^ 20) (length bytes)) key (tree bytes) s e

-- ---- the steps one by one

nest : (inner rest : List (Option InfoFault)) → first (first inner ∷ rest) ≡ first (inner ++ rest)
nest [] rest = refl
nest (None ∷ inner) rest = nest inner rest
nest (Some fault ∷ inner) rest = refl

nest_if : (condition : Bool) (inner rest : List (Option InfoFault)) → first (only_if condition (first inner) ∷ rest) ≡ first (map (only_if condition) inner ++ rest)
nest_if true [] rest = refl
nest_if false [] rest = refl
nest_if true (None ∷ inner) rest = nest_if true inner rest
nest_if true (Some fault ∷ inner) rest = refl
nest_if false (step ∷ inner) rest = nest_if false inner rest

after : (front a b : List (Option InfoFault)) → first a ≡ first b → first (front ++ a) ≡ first (front ++ b)
after [] a b e = e
after (None ∷ front) a b e = after front a b e
after (Some fault ∷ front) a b e = refl

-- the steps have the first fault of the table
pub first-steps : (key : List ℕ) (volume : Data) → first (steps key volume) ≡ first (table key volume)
unfolding volume_fault shape_fault coding_fault parts_fault limit_fault
first-steps key volume =
    let scale = scale_at key volume in
    let sharding = get (codes "sharding") scale in
    let found = list_fault items.Scales (get (codes "scales") volume) ∷ key_fault (found_in key volume) ∷ [] in
    let limits = limit_steps (volume_in volume) (shape_in scale) (encoding_in scale) (is_sharded sharding) in
    nest (volume_steps volume) _ ∙ after (volume_steps volume ++ found) _ _
    (nest (shape_steps scale) _ ∙ after (shape_steps scale) _ _
    (nest (coding_steps (volume_in volume).width scale) _ ∙ after (coding_steps (volume_in volume).width scale) _ _
    (nest_if (is_sharded sharding) (parts_steps sharding) (first limits ∷ []) ∙ after (map (only_if (is_sharded sharding)) (parts_steps sharding)) _ _
    (nest limits []))))
