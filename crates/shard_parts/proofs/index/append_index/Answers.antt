use Rattle.vol_spec.specs.IndexBytes.{numbers, stored}
use Rattle.shard_parts.proofs.IndexSteps.{append_thrice}
use Rattle.shard_parts.proofs.index.append_index.Goals as goal

pub returns-clause-appended : goal.returns-clause-appended
returns-clause-appended g c =
    append_thrice c.append_column-3.result _ _ _ _ (numbers (stored c.args.rows.now).ids) (numbers (stored c.args.rows.now).starts) (numbers (stored c.args.rows.now).sizes)
    c.in_ok-append_column.ensures.appended c.in_ok-append_column-2.ensures.appended c.append_column-3.ensures.appended
