use Rattle.std.proofs.lemmas.Bool.Decides.{Decides-int_eq}
use Rattle.std.proofs.lemmas.Slice.Eq.{slice_eq-Decides}
use Rattle.reshard_cmd.proofs.judge.has_offset.Goals as goal

pub returns : goal.returns
returns c = slice_eq-Decides Decides-int_eq c.args.from.now.offset c.args.to.now.offset c.eq.result c.eq.ensures
