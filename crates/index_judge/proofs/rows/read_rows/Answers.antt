use Rattle.std.proofs.Common.{◌∙◌, ap}
use Rattle.shard_reader.specs.Reading.{told_object}
use Rattle.shard_reader.proofs.WordSteps.{columns_read}
use Rattle.index_judge.proofs.rows.read_rows.Goals as goal

pub returns-clause-read : goal.returns-clause-read
returns-clause-read g c = λ object told fits.
    let one = ap (λ o. told_object o c.args.name.now) c.in_ok-read_numbers.ensures.reads.kept.same_objects ∙ told in
    let two = ap (λ o. told_object o c.args.name.now) c.in_ok-read_numbers-2.ensures.reads.kept.same_objects ∙ one in
    columns_read object c.read_numbers.new.out c.read_numbers-2.new.out c.read_numbers-3.new.out c.args.span.now.at c.args.span.now.rows c.args.first c.args.count c.requires.within fits
    (c.in_ok-read_numbers.ensures.read object told fits) (c.in_ok-read_numbers-2.ensures.read object one fits) (c.in_ok-read_numbers-3.ensures.read object two fits)
