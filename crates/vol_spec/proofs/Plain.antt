-- For raw chunks, and where a scale is unsharded, the words of all forms are those of this form alone.
use Rattle.std.proofs.Common.{◌≡◌, ℕ, List, [], ◌∷◌, None, refl, ap, ◌∙◌}
use Rattle.std.specs.Prelude.{ℤ}
use Rattle.vol_spec.specs.Encodings.{by_encoding, cell_limit, chunk_fault, encoded, value_at}
use Rattle.vol_spec.specs.Grid.{cell_box}
use Rattle.vol_spec.specs.Raw.{raw_at, raw_fault, raw_len}
use Rattle.vol_spec.specs.StoredCells.{object_list}
use Rattle.vol_spec.specs.StoredLists.{encoded_chunks, listed_by, stored_list}
use Rattle.vol_spec.specs.declared.encoding.Encoding.TheVariants.{Raw}
use Rattle.vol_spec.specs.declared.scale.Scale.{Scale}

-- by the encoding
module _ (s : Scale) (raw : s.encoding ≡ Raw) where
  chosen : {A : Type 0} (a b : A) → by_encoding s.encoding a b ≡ a
  chosen a b = ap (λ e. by_encoding e a b) raw

  pub limit-raw : (cell : List ℕ) → cell_limit s cell ≡ raw_len (cell_box s cell) s.channels s.width
  limit-raw cell = chosen _ _

  pub fault-raw : (cell bytes : List ℕ) → chunk_fault s cell bytes ≡ raw_fault (cell_box s cell) s.channels s.width bytes
  fault-raw cell bytes = chosen _ _

  pub value_at-raw : (cell bytes : List ℕ) (p : List ℤ) (c : ℕ) → value_at s cell bytes p c ≡ raw_at (cell_box s cell) s.width bytes p c
  value_at-raw cell bytes p c = chosen _ _

  pub encoded-raw : (cell bytes : List ℕ) → encoded s cell bytes ≡ bytes
  encoded-raw cell bytes = chosen _ _

  -- and the sharding
  module _ (unsharded : s.sharding ≡ None) where
    encoded_same : (chunks : List (List ℕ × List ℕ)) → encoded_chunks s chunks ≡ chunks
    encoded_same [] = refl
    encoded_same (chunk ∷ chunks) =
        ap (λ bytes. (let c : List ℕ × List ℕ = (chunk.0, bytes) in c) ∷ encoded_chunks s chunks) (encoded-raw chunk.0 chunk.1)
        ∙ ap (λ cs. chunk ∷ cs) (encoded_same chunks)

    pub stored_list-plain : (dataset : List ℕ) (chunks : List (List ℕ × List ℕ)) → stored_list dataset s chunks ≡ object_list dataset s chunks
    unfolding stored_list
    stored_list-plain dataset chunks = ap (λ o. listed_by o dataset s (encoded_chunks s chunks)) unsharded ∙ ap (object_list dataset s) (encoded_same chunks)
