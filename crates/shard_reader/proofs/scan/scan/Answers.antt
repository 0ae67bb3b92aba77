use Rattle.std.proofs.Common.{◌<◌, arith, ◌∙◌, sym, length}
use Rattle.shard_reader.specs.Reading.{IsAt}
use Rattle.shard_reader.proofs.ScanSteps.{ends_bad, ends_found, ends_in, ends_none, one_more, stored_at}
use Rattle.shard_reader.proofs.scan.scan.Goals as goal

pub returns-in-Err-clause-seen : goal.returns-in-Err-clause-seen
returns-in-Err-clause-seen c = λ k was holds fits.
    let now : IsAt k c.loop-i.walk c.args.id = c.loop-i.invariant.at k was holds fits in
    let here : c.loop-i.walk.rows < length k.ids = omega (arith, c.loop-i.invariant.rows, c.loop-i-test.true) in
    ends_bad k c.loop-i.walk c.args.id c.in-Err.fault now here
    (sym (c.next_of.ensures.judged k now.walked (stored_at k c.args.walk.now.rows c.args.count c.loop-i.i c.loop-i.walk.rows c.args.ids.now c.args.starts.now c.args.sizes.now holds c.loop-i-test.true c.loop-i.invariant.rows)) ∙ c.in-Err.is)

pub returns-then-row-id-2-clause-seen : goal.returns-then-row-id-2-clause-seen
returns-then-row-id-2-clause-seen c = λ k was holds fits.
    let now : IsAt k c.loop-i.walk c.args.id = c.loop-i.invariant.at k was holds fits in
    let here : c.loop-i.walk.rows < length k.ids = omega (arith, c.loop-i.invariant.rows, c.loop-i-test.true) in
    ends_found k c.loop-i.walk c.args.id c.in-Ok.row now here
    (sym (c.next_of.ensures.judged k now.walked (stored_at k c.args.walk.now.rows c.args.count c.loop-i.i c.loop-i.walk.rows c.args.ids.now c.args.starts.now c.args.sizes.now holds c.loop-i-test.true c.loop-i.invariant.rows)) ∙ c.in-Ok.is) c.if-row-id-2.true

pub returns-else-row-id-2-clause-seen : goal.returns-else-row-id-2-clause-seen
returns-else-row-id-2-clause-seen c = λ k was holds fits.
    let now : IsAt k c.loop-i.walk c.args.id = c.loop-i.invariant.at k was holds fits in
    let here : c.loop-i.walk.rows < length k.ids = omega (arith, c.loop-i.invariant.rows, c.loop-i-test.true) in
    ends_none k c.loop-i.walk c.args.id c.in-Ok.row now here
    (sym (c.next_of.ensures.judged k now.walked (stored_at k c.args.walk.now.rows c.args.count c.loop-i.i c.loop-i.walk.rows c.args.ids.now c.args.starts.now c.args.sizes.now holds c.loop-i-test.true c.loop-i.invariant.rows)) ∙ c.in-Ok.is) c.if-row-id.true c.if-row-id-2.false

pub loop-i-preserved : goal.loop-i-preserved
loop-i-preserved c = record {
  rows = omega (arith, c.in-Ok.ensures.rows, c.loop-i.invariant.rows);
  at = λ k was holds fits.
      let now : IsAt k c.loop-i.walk c.args.id = c.loop-i.invariant.at k was holds fits in
      let here : c.loop-i.walk.rows < length k.ids = omega (arith, c.loop-i.invariant.rows, c.loop-i-test.true) in
      let stored = stored_at k c.args.walk.now.rows c.args.count c.loop-i.i c.loop-i.walk.rows c.args.ids.now c.args.starts.now c.args.sizes.now holds c.loop-i-test.true c.loop-i.invariant.rows in
      one_more k c.loop-i.walk c.next_of.new.walk c.args.id c.in-Ok.row now here
      (sym (c.next_of.ensures.judged k now.walked stored) ∙ c.in-Ok.is)
      (c.in-Ok.ensures.walked k now.walked stored) c.in-Ok.ensures.rows c.if-row-id.false;
}

pub returns-then-row-id-2-clause-ends : goal.returns-then-row-id-2-clause-ends
returns-then-row-id-2-clause-ends c = λ k was holds fits.
    let now : IsAt k c.loop-i.walk c.args.id = c.loop-i.invariant.at k was holds fits in
    ends_in k c.loop-i.walk c.args.id c.args.walk.now.rows c.args.count c.loop-i.i c.in-Ok.row now c.loop-i.invariant.rows c.loop-i-test.true
    (sym (c.next_of.ensures.judged k now.walked (stored_at k c.args.walk.now.rows c.args.count c.loop-i.i c.loop-i.walk.rows c.args.ids.now c.args.starts.now c.args.sizes.now holds c.loop-i-test.true c.loop-i.invariant.rows)) ∙ c.in-Ok.is) c.if-row-id.true

pub returns-else-row-id-2-clause-ends : goal.returns-else-row-id-2-clause-ends
returns-else-row-id-2-clause-ends c = λ k was holds fits.
    let now : IsAt k c.loop-i.walk c.args.id = c.loop-i.invariant.at k was holds fits in
    ends_in k c.loop-i.walk c.args.id c.args.walk.now.rows c.args.count c.loop-i.i c.in-Ok.row now c.loop-i.invariant.rows c.loop-i-test.true
    (sym (c.next_of.ensures.judged k now.walked (stored_at k c.args.walk.now.rows c.args.count c.loop-i.i c.loop-i.walk.rows c.args.ids.now c.args.starts.now c.args.sizes.now holds c.loop-i-test.true c.loop-i.invariant.rows)) ∙ c.in-Ok.is) c.if-row-id.true
