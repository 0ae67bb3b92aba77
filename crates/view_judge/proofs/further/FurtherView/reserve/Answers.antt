use Rattle.view_judge.proofs.further.FurtherView.reserve.Goals as goal

pub invariant_of-result : goal.invariant_of-result
invariant_of-result c = record {
  unsharded = c.requires.unsharded;
  reads = λ i. record { dataset = c.in_ok-reader.ensures.dataset i; scale = c.in_ok-reader.ensures.scale i };
}
