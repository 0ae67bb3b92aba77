use Rattle.std.proofs.Common.{◌≡◌, ℕ, ◌+◌, ◌*◌, ◌-◌, ◌<◌, ◌≤◌, length, slice_index}
use Rattle.vectors_vol.specs.ValueBytes.{counting_byte}
use Rattle.vectors_vol.proofs.values.fill_counting.Given as goal

abbrev pub invariant-loop-place : goal.invariant-loop-place
invariant-loop-place l = record {
  place : l.at + l.place ≡ l.number * l.width;
  number : l.number ≤ l.at + l.place;
  within : l.place < length l.out + l.width;
  same : length l.out ≡ length l.fn.out;
  filled : (k : ℕ) → k < l.place → k < length l.out → slice_index l.out k ≡ counting_byte l.width l.first (l.at + k);
  zero : (k : ℕ) → l.place ≤ k → slice_index l.out k ≡ 0;
}

abbrev pub decreases-loop-place : goal.decreases-loop-place
decreases-loop-place l = length l.out - l.place
