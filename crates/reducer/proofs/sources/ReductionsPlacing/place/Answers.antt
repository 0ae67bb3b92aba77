use Rattle.reducer.proofs.SourceSteps.{found_over}
use Rattle.reducer.proofs.sources.ReductionsPlacing.place.Goals as goal

pub returns-clause-inside : goal.returns-clause-inside
returns-clause-inside c = found_over c.args.from.now c.args.to.now c.requires.fits c.args.source c.requires.source c.target_box.result c.target_box.ensures
