use Rattle.std.proofs.Common.{◌+◌, ◌*◌, ◌∙◌, ap, arith, drop}
use Rattle.vol_base.specs.Outside.{part}
use Rattle.shard_reader.specs.Reading.{told_object}
use Rattle.shard_reader.proofs.WordSteps.{columns_read, words_kept}
use Rattle.shard_reader.proofs.window.read_columns.Goals as goal

pub returns-in-Ok-read_column-2-clause-read : goal.returns-in-Ok-read_column-2-clause-read
returns-in-Ok-read_column-2-clause-read g c = λ object told fits.
    let bytes = part object c.args.index.now.at (24 * c.args.index.now.rows) in
    let one = ap (λ o. told_object o c.args.name.now) c.in-Ok.ensures.reads.kept.same_objects ∙ told in
    let two = ap (λ o. told_object o c.args.name.now) c.in-Ok-read_column.ensures.reads.kept.same_objects ∙ one in
    let last = c.read_column-3.new.columns in
    let ids = words_kept last c.read_column-2.new.columns bytes (2 * c.args.width) 0 c.args.first c.args.count c.read_column-3.ensures.front (omega (arith, c.requires.width))
    (words_kept c.read_column-2.new.columns c.read_column.new.columns bytes c.args.width 0 c.args.first c.args.count c.read_column-2.ensures.front (omega (arith, c.requires.width)) (c.in-Ok.ensures.read object told fits)) in
    let starts = words_kept last c.read_column-2.new.columns bytes (2 * c.args.width) c.args.width (c.args.index.now.rows + c.args.first) c.args.count c.read_column-3.ensures.front (omega (arith, c.requires.width)) (c.in-Ok-read_column.ensures.read object one fits) in
    columns_read object last (drop c.args.width last) (drop (2 * c.args.width) last) c.args.index.now.at c.args.index.now.rows c.args.first c.args.count c.requires.within fits
    ids starts (c.in-Ok-read_column-2.ensures.read object two fits)
