use Rattle.std.proofs.Common.{take}
use Rattle.vol_spec.specs.Raw.{raw_at}
use Rattle.write_plan.specs.Fills.{Shows}
use Rattle.write_plan.specs.Pairs.{writes_of_run}
use Rattle.write_plan.specs.WriteLists.{BoxWrite, writes_in}
use Rattle.write_plan.proofs.fills.apply_run.Given as goal

abbrev pub invariant-loop-pair : goal.invariant-loop-pair
invariant-loop-pair l = (d : BoxWrite) → Shows l.cell l.channels l.width (raw_at l.cell l.width l.initial.raw) (writes_of_run (writes_in l.writes) d (take l.pair-index l.run)) l.raw
