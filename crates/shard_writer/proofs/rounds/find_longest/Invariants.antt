use Rattle.std.proofs.Common.{◌<◌, ◌≤◌, ℕ, length}
use Rattle.encode_round.specs.Serving.{done_in}
use Rattle.shard_writer.proofs.rounds.find_longest.Given as goal

abbrev pub invariant-loop-k : goal.invariant-loop-k
invariant-loop-k l = record {
  most : (j : ℕ) → j < l.k → length (done_in l.bench j) ≤ l.longest;
}
