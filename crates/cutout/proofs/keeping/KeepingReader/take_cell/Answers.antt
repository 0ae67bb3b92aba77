use Rattle.std.proofs.Common.{[], ◌∷◌, IfSome, subst}
use Rattle.std.specs.Prelude.{is_ok}
use Rattle.cutout.specs.Kept.{Keeping}
use Rattle.cutout.specs.Runs.{RunsOn}
use Rattle.cutout.specs.Taking.{TakesCell}
use Rattle.cutout.proofs.keeping.KeepingReader.take_cell.Goals as goal

pub returns-clause-taken : goal.returns-clause-taken
returns-clause-taken g c =
    subst (λ (v : Keeping). IfSome (g.S.Source.objects c.args.store.now) (λ m. TakesCell c.take_cell.result m v.opened.dataset v.opened.scale c.args.cell c.take_cell.new.out)) c.self.view_is c.take_cell.ensures.taken

pub returns-clause-run : goal.returns-clause-run
returns-clause-run g c =
    subst (λ (v : Keeping). IfSome (g.S.Source.objects c.args.store.now) (λ m. RunsOn (is_ok c.take_cell.result) m v.opened.dataset v.opened.scale (c.args.cell ∷ []) (g.S.Source.asked c.args.store.now) (g.S.Source.asked c.take_cell.new.store) v.shards c.take_cell.new.self.shards))
    c.self.view_is c.take_cell.ensures.walks.run
