use Rattle.size_laws.proofs.StoredViews.{box_back, last_values, none_faulted, views_outside, views_sound}
use Rattle.size_laws.proofs.stored.tell_stored_views.Goals as goal

pub returns-clause-values : goal.returns-clause-values
returns-clause-values c m writes h = last_values m c.args.dataset.now c.args.scale.now writes h

pub returns-clause-faultless : goal.returns-clause-faultless
returns-clause-faultless c m writes h = none_faulted m c.args.dataset.now c.args.scale.now writes h

pub returns-clause-cutout : goal.returns-clause-cutout
returns-clause-cutout c m writes b h inside = box_back m c.args.dataset.now c.args.scale.now writes h b inside

pub returns-clause-sound : goal.returns-clause-sound
returns-clause-sound c m writes b h inside = views_sound m c.args.dataset.now c.args.scale.now writes h b inside

pub returns-clause-outside : goal.returns-clause-outside
returns-clause-outside c m writes name outside = views_outside m c.args.dataset.now c.args.scale.now writes name outside
