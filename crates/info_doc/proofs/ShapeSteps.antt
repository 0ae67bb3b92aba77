-- What is read of a shape.
use Rattle.std.proofs.Common.{◌≡◌, ℕ, ◌^◌, ◌<◌, ◌≤◌, Bool, true, false, List, [], ◌∷◌, codes, drop, is_some, length, map, Option, Some, None, Ok, refl, ap, ◌∙◌, sym, subst, arith}
use Rattle.std.specs.Prelude.{◌&&◌, All, IsTrue, ℤ, slice_get}
use Rattle.std.specs.List.{list_all}
use Rattle.std.proofs.lemmas.List.{length-map}
use Rattle.std.proofs.lemmas.List.Elements.{All-cons, All-nil}
use Rattle.serde_json.specs.Data.{Data}
use Rattle.serde_json.specs.Find.{get}
use Rattle.serde_json.specs.View.{view}
use Rattle.serde_json.specs.declared.value.Value.{Value}
use Rattle.info_doc.specs.declared.fault.InfoFault.{InfoFault}
use Rattle.info_doc.specs.declared.fault.Item.TheVariants as items
use Rattle.info_doc.specs.Faults.{first, judged}
use Rattle.info_doc.specs.Fits as fits
use Rattle.info_doc.specs.Groups.{shape_fault, shape_in}
use Rattle.info_doc.specs.Json.{triple, whole}
use Rattle.info_doc.specs.Steps.{chunk_in, chunks_fault, is_sharded, list_in, more_in, offset_fault, offsets_in, resolution_fault, sizes_fault, sizes_in}
use Rattle.info_doc.proofs.Judging.{judged_value}

-- the chunk sizes of a scale: one to eight, each of three numbers
pub record AreListed (vs : List Value) : Type 0 where
  pub some : 0 < length vs
  pub few : length vs ≤ 8
  pub triples : All (λ v. IsTrue (is_some (triple whole (view v)))) vs

both_true : (a b : Bool) → (a && b) ≡ true → (a ≡ true) × (b ≡ true)
both_true true b e = (refl, e)
both_true false b e = cc e

each_triple : (vs : List Value) → list_all (λ d. is_some (triple whole d)) (map view vs) ≡ true → All (λ v. IsTrue (is_some (triple whole (view v)))) vs
each_triple [] e = All-nil (λ v. IsTrue (is_some (triple whole (view v))))
each_triple (v ∷ vs) e =
    let parts = both_true (is_some (triple whole (view v))) (list_all (λ d. is_some (triple whole d)) (map view vs)) e in
    All-cons (λ v. IsTrue (is_some (triple whole (view v)))) v vs parts.0 (each_triple vs parts.1)

pub are_listed : (sharded : Bool) (member : Option Data) (vs : List Value) → Ok (map view vs) ≡ judged (chunks_fault sharded member) (list_in member) → AreListed vs
are_listed sharded member vs e =
    let parts = judged_value (chunks_fault sharded member) (list_in member) (map view vs) e in
    let are : fits.AreChunks sharded (map view vs) = subst (fits.AreChunks sharded) (sym parts.1) (fits.chunks_are sharded member parts.0) in
    let some = are.some in
    let few = are.few in
    let long = length-map vs view in
    record { some = omega (arith, some, long); few = omega (arith, few, long); triples = each_triple vs are.triples }

four_none : (a b c d : Option InfoFault) → a ≡ None → b ≡ None → c ≡ None → d ≡ None → first (a ∷ b ∷ c ∷ d ∷ []) ≡ None
four_none a b c d ea eb ec ed = rw (ea, eb, ec, ed) refl

judged_none : {A : Type 0} (fault : Option InfoFault) (value found : A) → fault ≡ None → found ≡ value → Ok found ≡ judged fault value
judged_none None value found e same = ap Ok same
judged_none (Some fault) value found e same = cc e

-- a shape that was read member by member
pub shape_made : (scale : Data) (size : List ℕ) (offset : List ℤ) (chunk : List ℕ) (more : List (List ℕ)) (vs : List Value)
    → Ok size ≡ judged (sizes_fault items.Size (2 ^ 40) (get (codes "size") scale)) (sizes_in (get (codes "size") scale))
    → Ok offset ≡ judged (offset_fault (get (codes "voxel_offset") scale)) (offsets_in (get (codes "voxel_offset") scale))
    → Ok (map view vs) ≡ judged (chunks_fault (is_sharded (get (codes "sharding") scale)) (get (codes "chunk_sizes") scale)) (list_in (get (codes "chunk_sizes") scale))
    → Ok tt ≡ judged {A = Unit {0}} (resolution_fault (get (codes "resolution") scale)) tt
    → chunk ≡ sizes_in (slice_get (map view vs) 0) → more ≡ map (λ d. sizes_in (Some d)) (drop 1 (map view vs))
    → Ok (record { size = size; offset = offset; chunk = chunk; more = more }) ≡ judged (shape_fault scale) (shape_in scale)
unfolding shape_fault
shape_made scale size offset chunk more vs s o c r chunk_is more_is =
    let sized = judged_value _ _ size s in
    let placed = judged_value _ _ offset o in
    let listed = judged_value _ _ (map view vs) c in
    let resolved = judged_value {A = Unit {0}} (resolution_fault (get (codes "resolution") scale)) tt tt r in
    judged_none _ (shape_in scale) _ (four_none _ _ _ _ sized.0 placed.0 listed.0 resolved.0)
    (λ i. record {
      size = sized.1 i;
      offset = placed.1 i;
      chunk = (chunk_is ∙ ap (λ ds. sizes_in (slice_get ds 0)) listed.1) i;
      more = (more_is ∙ ap (λ ds. map (λ d. sizes_in (Some d)) (drop 1 ds)) listed.1) i;
    })
