use Rattle.std.proofs.Common.{refl}
use Rattle.copier.proofs.twins.are_twins.Goals as goal

pub returns : goal.returns
returns c = λ t. record { volume = c.requires; chunks = c.if-not-has_chunk.ensures.0 refl; encodings = c.if-not-has_encoding.ensures refl }
