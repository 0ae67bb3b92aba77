use Rattle.verify_cmd.proofs.PartSteps.{sound_first, sound_undamaged}
use Rattle.verify_cmd.proofs.ViewSteps.{all_sound}
use Rattle.verify_cmd.proofs.parts.tell_sound.Goals as goal

pub returns-clause-sound : goal.returns-clause-sound
returns-clause-sound c = λ m. sound_first m c.args.dataset.now c.args.scale.now c.args.part.now

pub returns-clause-undamaged : goal.returns-clause-undamaged
returns-clause-undamaged c = λ m. sound_undamaged m c.args.dataset.now c.args.scale.now c.args.part.now

pub returns-clause-all_sound : goal.returns-clause-all_sound
returns-clause-all_sound c = λ m inside. all_sound m c.args.dataset.now c.args.scale.now c.args.part.now inside
