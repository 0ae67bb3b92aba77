use Rattle.chunk_grid.proofs.NameSteps.{cell_name-box}
use Rattle.size_laws.proofs.FindingLaw.{sound_from, sound_none}
use Rattle.size_laws.proofs.ViewLaws.{first_says}
use Rattle.size_laws.proofs.Law.{all_faultless, all_outside, own_values, written_all_sound}
use Rattle.std.proofs.Common.{◌∙◌, sym}
use Rattle.size_laws.proofs.views.tell_views.Goals as goal

pub returns-clause-first : goal.returns-clause-first
returns-clause-first c = first_says c.args.dataset.now c.args.scale.now

pub returns-clause-names : goal.returns-clause-names
returns-clause-names c u v a b hu hv ha hb e = cell_name-box c.args.dataset.now u v a b (hu.keys ∙ sym hv.keys) ha hb e

pub returns-clause-values : goal.returns-clause-values
returns-clause-values c m views writes v h there = own_values m c.args.dataset.now c.args.scale.now views writes h v there

pub returns-clause-faultless : goal.returns-clause-faultless
returns-clause-faultless c m views writes v h there = all_faultless m c.args.dataset.now c.args.scale.now views writes h v there

pub returns-clause-sound : goal.returns-clause-sound
returns-clause-sound c m first further writes b h inside = written_all_sound m c.args.dataset.now c.args.scale.now first further writes b h inside

pub returns-clause-outside : goal.returns-clause-outside
returns-clause-outside c m views writes name alike outside = all_outside m c.args.dataset.now c.args.scale.now views writes name alike outside

pub returns-clause-findings : goal.returns-clause-findings
returns-clause-findings c m first further b inside each sound = (
  sound_none m c.args.dataset.now first further b inside each sound,
  sound_from m c.args.dataset.now first further b inside each sound,
)
