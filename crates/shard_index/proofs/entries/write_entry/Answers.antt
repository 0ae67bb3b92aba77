use Rattle.std.proofs.Common.{◌∙◌, ap}
use Rattle.vol_spec.specs.Entries.{entry_of}
use Rattle.shard_index.proofs.EntrySteps.{entry_again}
use Rattle.shard_index.proofs.entries.write_entry.Goals as goal

pub returns-clause-read : goal.returns-clause-read
returns-clause-read c = ap entry_of c.put_entry.ensures.bytes ∙ entry_again c.args.entry.now c.put_entry.ensures.fits.0 c.put_entry.ensures.fits.1
