use Rattle.std.proofs.Common.{◌∙◌, sym}
use Rattle.shard_reader.proofs.WindowSteps.{not_inside}
use Rattle.shard_reader.proofs.window.Window.find.Goals as goal

pub returns-clause-again : goal.returns-clause-again
returns-clause-again g c = λ object told fits r ends from to.
    absurd (not_inside object c.args.self.now.columns.bytes c.args.index.now.at c.args.index.now.rows c.args.id c.args.self.now.count r c.args.self.now.before fits (c.requires.window object told fits)
    (sym c.serves.ensures ∙ c.if-serves.false) ends from to)
