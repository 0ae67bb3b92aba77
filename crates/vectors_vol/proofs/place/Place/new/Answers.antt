use Rattle.std.proofs.Common.{drop, ap, ◌∙◌}
use Rattle.vectors_vol.specs.Generated.{generated}
use Rattle.vectors_vol.specs.WriteStreams.{stream_of}
use Rattle.vectors_vol.proofs.PlaceSteps.{left_new}
use Rattle.vectors_vol.proofs.place.Place.new.Goals as goal

pub returns : goal.returns
returns c =
    left_new c.duplicate.result c.args.number c.args.writes (drop 40 c.mark_bytes.result) c.mark_bytes.ensures
    ∙ ap (λ s. stream_of (generated s c.args.number c.args.writes)) c.duplicate.ensures
