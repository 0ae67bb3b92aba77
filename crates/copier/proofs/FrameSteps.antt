-- Reading one job more.
use Rattle.std.proofs.Common.{◌≡◌, ◌≢◌, ℕ, zero, suc, ◌+◌, ◌<◌, List, [], ◌∷◌, Vec, Global, length, take, map, Option, Some, None, Ok, Err, refl, ap, ◌∙◌, sym, subst, arith}
use Rattle.std.specs.Prelude.{All, slice_index_or}
use Rattle.std.specs.List.{range_with_len, slice_set}
use Rattle.std.proofs.lemmas.Bool.{cases_eq}
use Rattle.std.proofs.Common.{⊎_elim}
use Rattle.std.proofs.lemmas.List.{length-map, map-set, get_or-set_same, get_or-set_other}
use Rattle.std.proofs.lemmas.List.Elements.{All-set}
use Rattle.std.proofs.lemmas.List.FromFn.{map-range_with_len_more}
use Rattle.vol_base.specs.declared.faults.Fault.{Fault}
use Rattle.vol_spec.specs.BoxValues.{first_some}
use Rattle.vol_spec.specs.Encodings.{raw_size}
use Rattle.vol_spec.specs.StoredCells.{cell_of}
use Rattle.vol_spec.specs.declared.scale.Scale.{Scale}
use Rattle.vol_spec.proofs.Firsts.{first_some-append}
use Rattle.copier.specs.Held.{AreFilled, AreRead, Holds, IsFilled, Readings, Reads, ReadsAll}
use Rattle.write_plan.specs.declared.chunks.PrepareFault.{PrepareFault}
use Rattle.write_plan.specs.declared.chunks.PrepareFault.TheVariants.{StoreFault, Damaged}

abbrev Frames : Type 0
Frames = List (Vec ℕ Global)

-- where a frame is set, each still has room,
pub holds_set : (to : Scale) (frames : Frames) (k : ℕ) (v : Vec ℕ Global) → All (Holds to) frames → Holds to v → All (Holds to) (slice_set frames k v)
holds_set to frames k v h room = All-set (Holds to) frames k v room h

-- and one more is filled
pub filled_more : (to : Scale) (frames : Frames) (k : ℕ) (v : Vec ℕ Global) → k < length frames → AreFilled to k (map (λ f. f.items) frames) → IsFilled to v.items
    → AreFilled to (k + 1) (map (λ f. f.items) (slice_set frames k v))
filled_more to frames k v inside old new j l =
    ap (λ fs. length (slice_index_or fs j [])) (map-set (λ (f : Vec ℕ Global). f.items) frames k v)
    ∙ ⊎_elim
    (λ (e : j ≡ k).
    ap (λ i. length (slice_index_or (slice_set (map (λ (f : Vec ℕ Global). f.items) frames) k v.items) i [])) e
    ∙ ap length (get_or-set_same (map (λ (f : Vec ℕ Global). f.items) frames) k v.items [] (omega (arith, inside, length-map frames (λ (f : Vec ℕ Global). f.items))))
    ∙ new)
    (λ (n : j ≢ k).
    ap length (get_or-set_other (map (λ (f : Vec ℕ Global). f.items) frames) k j v.items [] n)
    ∙ old j (omega (arith, n, l)))
    (cases_eq j k)

module _ (readings : Readings) (to : Scale) (jobs : List (List ℕ)) (first : ℕ) where
  abbrev fault : ℕ → Option (List ℕ × Fault)
  fault job = readings.fault (cell_of jobs job)

  pub read_none : (frames : List (List ℕ)) → AreRead readings to jobs first 0 frames
  read_none frames = record { sound = refl; bytes = λ k h. absurd (omega arith) }

  pub read_more : (k : ℕ) (frames : Frames) (v : Vec ℕ Global) (cell : List ℕ) → cell ≡ cell_of jobs (first + k) → k < length frames → AreRead readings to jobs first k (map (λ f. f.items) frames)
      → Reads (Ok tt) readings cell (take (raw_size to cell) v.items) → AreRead readings to jobs first (k + 1) (map (λ f. f.items) (slice_set frames k v))
  read_more k frames v cell here h old new = record {
    sound =
        ap first_some (map-range_with_len_more fault first k (first + k) refl)
        ∙ first_some-append (map fault (range_with_len first k)) (fault (first + k) ∷ []) old.sound
        ∙ ap (λ o. first_some (o ∷ [])) (ap readings.fault (sym here) ∙ new.0);
    bytes = λ j l.
        ap (λ fs. take (raw_size to (cell_of jobs (first + j))) (slice_index_or fs j [])) (map-set (λ (f : Vec ℕ Global). f.items) frames k v)
        ∙ ⊎_elim
        (λ (e : j ≡ k).
        ap (λ i. take (raw_size to (cell_of jobs (first + i))) (slice_index_or (slice_set (map (λ (f : Vec ℕ Global). f.items) frames) k v.items) i [])) e
        ∙ ap (take (raw_size to (cell_of jobs (first + k)))) (get_or-set_same (map (λ (f : Vec ℕ Global). f.items) frames) k v.items [] (omega (arith, length-map frames (λ (f : Vec ℕ Global). f.items))))
        ∙ subst (λ c. take (raw_size to c) v.items ≡ readings.raw c) here new.1
        ∙ ap (λ i. readings.raw (cell_of jobs (first + i))) (sym e))
        (λ (n : j ≢ k).
        ap (take (raw_size to (cell_of jobs (first + j)))) (get_or-set_other (map (λ (f : Vec ℕ Global). f.items) frames) k j v.items [] n)
        ∙ old.bytes j (omega (arith, n)))
        (cases_eq j k);
  }

  heads : {Y : Type 0} (o : Option Y) (rest : List (Option Y)) → first_some (o ∷ rest) ≡ None → (o ≡ None) × (first_some rest ≡ None)
  heads None rest e = (refl, e)
  heads (Some y) rest e = absurd (cc e)

  first_at : {Y : Type 0} (f : ℕ → Option Y) (a k n : ℕ) (y : Y) → k < n → first_some (map f (range_with_len a k)) ≡ None → f (a + k) ≡ Some y → first_some (map f (range_with_len a n)) ≡ Some y
  first_at f a k zero y h none some = absurd (omega arith)
  first_at f a zero (suc n) y h none some =
      let z : a + 0 ≡ a = omega arith in
      ap (λ o. first_some (o ∷ map f (range_with_len (a + 1) n))) (ap f (sym z) ∙ some)
  first_at f a (suc k) (suc n) y h none some =
      let parts = heads (f a) (map f (range_with_len (a + 1) k)) none in
      let z : a + 1 + k ≡ a + suc k = omega arith in
      ap (λ o. first_some (o ∷ map f (range_with_len (a + 1) n))) parts.0 ∙ first_at f (a + 1) k n y (omega arith) parts.1 (ap f z ∙ some)

  pub read_failed : (k count : ℕ) (frames other : List (List ℕ)) (cell out : List ℕ) (e : PrepareFault) → cell ≡ cell_of jobs (first + k) → k < count → AreRead readings to jobs first k frames
      → Reads (Err e) readings cell out → ReadsAll (Err e) readings to jobs first count other
  read_failed k count frames other cell out StoreFault here h old new = tt
  read_failed k count frames other cell out (Damaged at found) here h old new =
      first_at fault first k count (at, found) h old.sound (ap readings.fault (sym here) ∙ new)
