use Rattle.std.proofs.Common.{◌≡◌, ◌%◌, ◌^◌, ◌<◌, List, ℕ, slice_index}
use Rattle.vol_spec.specs.Codes.{IsInGrid, code_of}
use Rattle.morton_code.proofs.Steps.{code_from}
use Rattle.morton_code.proofs.codes.cell.Given as goal

abbrev pub invariant-loop-bit : goal.invariant-loop-bit
invariant-loop-bit l = record {
  small_x : l.x < 2 ^ l.bit;
  small_y : l.y < 2 ^ l.bit;
  small_z : l.z < 2 ^ l.bit;
  taken : (cell : List ℕ) → IsInGrid l.grid.size cell → code_of l.grid.size cell ≡ l.code
      → (l.rest ≡ code_from l.grid.size cell l.bit) × (l.x ≡ slice_index cell 0 % 2 ^ l.bit) × (l.y ≡ slice_index cell 1 % 2 ^ l.bit) × (l.z ≡ slice_index cell 2 % 2 ^ l.bit);
}
