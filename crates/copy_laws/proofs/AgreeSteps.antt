-- Maps of objects that agree on a scale say the same of it.
use Rattle.std.proofs.Common.{◌≡◌, ℕ, List, ap}
use Rattle.std.specs.Prelude.{ℤ, map, flat_map}
use Rattle.std.specs.FinMap as fin
use Rattle.vol_base.specs.Outside.{Objects}
use Rattle.vol_base.specs.declared.boxes.Box3.{Box3}
use Rattle.vol_base.specs.declared.faults.Fault.{Fault}
use Rattle.std.specs.Option.{option_map}
use Rattle.vol_spec.specs.BoxValues.{before_fault, bytes_of, first_some, values_of}
use Rattle.vol_spec.specs.Chunks.{chunk_in, fault_of, judged, value_in, value_of}
use Rattle.vol_spec.specs.Cut.{cut, first_fault}
use Rattle.vol_spec.specs.Grid.{cell_at, cells_in}
use Rattle.vol_spec.specs.StoredBytes.{held, object_of, stored_bytes}
use Rattle.vol_spec.specs.declared.scale.Scale.{Scale}
use Rattle.copy_laws.specs.Agreement.{Agree}

-- for one cell
pub same_bytes : (dataset : List ℕ) (s : Scale) (m n : Objects) (cell : List ℕ) → fin.get m (object_of dataset s cell) ≡ fin.get n (object_of dataset s cell)
    → stored_bytes m dataset s cell ≡ stored_bytes n dataset s cell
unfolding stored_bytes
same_bytes dataset s m n cell e = ap (held s cell) e

pub same_chunk : (dataset : List ℕ) (s : Scale) (m n : Objects) (cell : List ℕ) → fin.get m (object_of dataset s cell) ≡ fin.get n (object_of dataset s cell)
    → chunk_in m dataset s cell ≡ chunk_in n dataset s cell
unfolding chunk_in
same_chunk dataset s m n cell e = ap (judged s cell) (same_bytes dataset s m n cell e)

module _ (dataset : List ℕ) (s : Scale) (m n : Objects) (agree : Agree dataset s m n) where
  pub same_chunks : chunk_in m dataset s ≡ chunk_in n dataset s
  same_chunks = λ i cell. same_chunk dataset s m n cell (agree cell) i

  pub same_value : (p : List ℤ) (c : ℕ) → value_in m dataset s p c ≡ value_in n dataset s p c
  same_value p c = ap (λ chunk. value_of s (cell_at s p) chunk p c) (same_chunk dataset s m n (cell_at s p) (agree (cell_at s p)))

  pub same_values : value_in m dataset s ≡ value_in n dataset s
  same_values = λ i p c. same_value p c i

  pub same_cut : (b : Box3) → cut m dataset s b ≡ cut n dataset s b
  unfolding cut
  same_cut b = ap (λ f. flat_map (bytes_of s.width) (before_fault (values_of b s.channels f))) same_values

  pub same_first_fault : (b : Box3) → first_fault m dataset s b ≡ first_fault n dataset s b
  unfolding first_fault
  same_first_fault b = ap (λ f. first_some (map (λ cell. option_map (λ (fault : Fault). (let x : List ℕ × Fault = (cell, fault) in x)) (fault_of (f cell))) (cells_in s b))) same_chunks
