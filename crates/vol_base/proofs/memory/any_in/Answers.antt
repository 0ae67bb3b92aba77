use Rattle.std.proofs.Common.{◌∙◌, ap}
use Rattle.vol_base.specs.Outside.{is_under, any_under}
use Rattle.vol_base.specs.Stored.{objects_of}
use Rattle.vol_base.proofs.Under.{any_of_objects}
use Rattle.vol_base.proofs.memory.any_in.Goals as goal

pub returns : goal.returns
returns c = c.some_under.ensures ∙ any_of_objects (is_under c.as_bytes-folder.result.now) c.args.objects.now ∙ ap (any_under (objects_of c.args.objects.now)) c.as_bytes-folder.ensures.bytes
