use Rattle.std.proofs.Common.{map}
use Rattle.hall.proofs.Sums.{none_stands}
use Rattle.vol_serve.proofs.top.serve_all.Goals as goal

pub returns-in_default-clause-stores_later : goal.returns-in_default-clause-stores_later
returns-in_default-clause-stores_later g c = none_stands (map g.S.Source.faults c.args.stores.items)
