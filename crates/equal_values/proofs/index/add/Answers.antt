use Rattle.std.proofs.Common.{◌+◌, set, slice_index, subst}
use Rattle.equal_values.specs.Chains.{IsIndex}
use Rattle.equal_values.proofs.Indexed.{added}
use Rattle.equal_values.proofs.index.add.Goals as goal

pub returns : goal.returns
returns c = λ hash placed index below here put.
    let heads = c.args.heads.now in
    let next = c.args.next.now in
    let k = c.args.k in
    subst (λ h. IsIndex hash placed (set heads h (k + 1)) (set next k (slice_index heads h)) (k + 1)) here (added hash placed heads next k index put c.requires.next below)
