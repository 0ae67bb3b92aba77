use Rattle.std.proofs.Common.{refl}
use Rattle.view_judge.proofs.ValueSteps.{is_there, width_fits}
use Rattle.view_judge.proofs.values.compare_box.Goals as goal

pub find_place-channel-requires-clause-channel : goal.find_place-channel-requires-clause-channel
find_place-channel-requires-clause-channel c =
    (is_there c.args.view.now c.args.part.now c.args.found.now c.args.wanted.now c.in-Some.n c.requires.inside c.requires.found c.requires.wanted c.in-Some.ensures).channel

pub read_value-requires-clause-wide : goal.read_value-requires-clause-wide
read_value-requires-clause-wide c = (width_fits c.args.view.now.width c.args.view.now.width_ok).1

pub read_value-requires-clause-within : goal.read_value-requires-clause-within
read_value-requires-clause-within c =
    (is_there c.args.view.now c.args.part.now c.args.found.now c.args.wanted.now c.in-Some.n c.requires.inside c.requires.found c.requires.wanted c.in-Some.ensures).found_fits

pub read_value-requires-2-clause-wide : goal.read_value-requires-2-clause-wide
read_value-requires-2-clause-wide c = (width_fits c.args.view.now.width c.args.view.now.width_ok).1

pub read_value-requires-2-clause-within : goal.read_value-requires-2-clause-within
read_value-requires-2-clause-within c =
    (is_there c.args.view.now c.args.part.now c.args.found.now c.args.wanted.now c.in-Some.n c.requires.inside c.requires.found c.requires.wanted c.in-Some.ensures).wanted_fits

pub returns : goal.returns
returns c = (
  refl,
  c.in-Some.n,
  record {
    within = (is_there c.args.view.now c.args.part.now c.args.found.now c.args.wanted.now c.in-Some.n c.requires.inside c.requires.found c.requires.wanted c.in-Some.ensures).within;
    first = c.in-Some.ensures;
    place_is = c.find_place-channel.ensures.position;
    channel_is = c.find_place-channel.ensures.channel;
    found_is = c.read_value.ensures;
    wanted_is = c.read_value-2.ensures;
  },
)
