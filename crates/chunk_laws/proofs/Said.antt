-- What is said of any cell once chunks are stored, in one case distinction.
use Rattle.std.proofs.Common.{◌≡◌, ◌≢◌, ℕ, suc, Bool, true, false, ◌||◌, if◌then◌else◌, List, [], ◌∷◌, Some, None, refl, ap, ◌∙◌, subst, arith}
use Rattle.std.specs.Prelude.{Contains, Ok}
use Rattle.std.specs.List.{list_any}
use Rattle.std.specs.Str.{bytes_eq}
use Rattle.std.proofs.lemmas.List.Elements.{All-contains_itself, All-weaker}
use Rattle.std.proofs.lemmas.List.Folds.{list_any_at}
use Rattle.std.proofs.lemmas.Slice.Eq.{bytes_eq-Decides}
use Rattle.vol_base.specs.Outside.{Objects}
use Rattle.vol_spec.specs.Chunks.{chunk_in}
use Rattle.vol_spec.specs.Encodings.{encoded}
use Rattle.vol_spec.specs.Grid.{IsCell}
use Rattle.vol_spec.specs.StoredBytes.{object_of}
use Rattle.vol_spec.specs.declared.scale.Scale.{Scale}
use Rattle.chunk_laws.proofs.Law.{chunk_absent, chunk_kept, chunk_there}
use Rattle.chunk_laws.specs.Storable.{AreStorable, stored_in}
use Rattle.chunk_laws.specs.Told.{is_listed, shares_object}
use Rattle.chunk_laws.specs.Laws.{said}

-- a test by what each of some has
module _ (f : List ℕ → List ℕ) (name : List ℕ) where
  abbrev has : List ℕ → Bool
  has c = bytes_eq (f c) name

  some_of : (cs : List (List ℕ)) → list_any has cs ≡ true → (c : List ℕ) × Contains cs c × (f c ≡ name)
  some_of [] e = absurd (cc e)
  some_of (c ∷ cs) e = by (bytes_eq (f c) name) refl (some_of cs) e
    where
      by : (b : Bool) → bytes_eq (f c) name ≡ b → (list_any has cs ≡ true → (d : List ℕ) × Contains cs d × (f d ≡ name)) → (b || list_any has cs) ≡ true
          → (d : List ℕ) × Contains (c ∷ cs) d × (f d ≡ name)
      by true is later some = (c, (0, omega arith, refl), (bytes_eq-Decides (f c) name).0 is)
      by false is later some = let (d, (k, l, at), same) = later some in (d, (suc k, omega arith, at), same)

  none_of : (cs : List (List ℕ)) → list_any has cs ≡ false → (c : List ℕ) → Contains cs c → f c ≢ name
  none_of cs e c (k, l, at) same =
      let found = list_any_at has cs k c l (ap has at ∙ (bytes_eq-Decides (f c) name).1 same) in
      absurd (cc (found, e))

pub says : (dataset : List ℕ) (s : Scale) (raw : List ℕ → List ℕ) (cells : List (List ℕ)) → AreStorable s raw cells → (m : Objects) (cell : List ℕ) → IsCell s cell
    → chunk_in (stored_in m dataset s raw cells) dataset s cell ≡ said dataset s raw cells cell (chunk_in m dataset s cell)
says dataset s raw cells h m cell is = by (is_listed cells cell) refl (shares_object dataset s cells cell) refl
  where
    by : (a : Bool) → is_listed cells cell ≡ a → (b : Bool) → shares_object dataset s cells cell ≡ b
        → chunk_in (stored_in m dataset s raw cells) dataset s cell ≡ (if a then Ok (Some (encoded s cell (raw cell))) else (if b then Ok None else chunk_in m dataset s cell))
    by true e b f = let (d, listed, same) = some_of (λ c. c) cell cells e in chunk_there dataset s raw cells h m cell (subst (Contains cells) same listed)
    by false e true f =
        let (d, listed, same) = some_of (object_of dataset s) (object_of dataset s cell) cells f in
        chunk_absent dataset s raw cells h m cell d is (λ c. none_of (λ c. c) cell cells e cell c refl) listed same
    by false e false f =
        chunk_kept dataset s raw cells h m cell is
        (All-weaker (Contains cells) (λ c. object_of dataset s c ≢ object_of dataset s cell) (none_of (object_of dataset s) (object_of dataset s cell) cells f) cells (All-contains_itself cells))
