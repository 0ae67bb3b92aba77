use Rattle.std.proofs.Common.{◌∙◌, ◌+◌, arith, refl, rules, sym}
use Rattle.cutout.proofs.AskedSteps.{asked_begin, channel_asked, channels_asked}
use Rattle.cutout.proofs.ServeSteps.{serves_none, serves_still}
use Rattle.cutout.proofs.StreamSteps.{leaves_as, leaves_more, leaves_none, streams_all, streams_more, streams_none, streams_refused}
use Rattle.cutout.proofs.cells.CellReader.stream_channels.Goals as goal

pub loop-channel-init : goal.loop-channel-init
loop-channel-init g c = record {
  end = refl;
  few = omega arith;
  gained = leaves_none _ _ _ (λ m told. streams_none m c.args.origin.now.dataset c.args.origin.now.scale c.args.part.now);
  asked = asked_begin _ _ _;
  serves = serves_none (g.S.Source.objects c.args.store.now) c.args.origin.now (record c.args.self.now { shards = c.forget.new.self }) (record { chunk = c.requires.room.chunk; values = c.requires.room.values }) c.forget.ensures;
  kept = record { same_objects = refl; same_draft = refl };
  history = refl;
  later = omega arith;
  out_later = omega arith;
}

pub stream_channel-requires-clause-serves : goal.stream_channel-requires-clause-serves
stream_channel-requires-clause-serves g c =
    serves_still (g.S.Source.objects c.args.store.now) (g.S.Source.objects c.loop-channel.store) c.args.origin.now c.loop-channel.self c.loop-channel.invariant.kept.same_objects c.loop-channel.invariant.serves

pub loop-channel-preserved : goal.loop-channel-preserved
loop-channel-preserved g c =
    let inv = c.loop-channel.invariant in
    record {
      end = inv.end;
      few = omega (arith, c.loop-channel-test.true, inv.end);
      gained = leaves_more _ _ _ _ _ _ _ _ inv.kept.same_objects inv.gained c.in-Ok.ensures.pours.streams (λ m xs ys told so next.
          streams_more m c.args.origin.now.dataset c.args.origin.now.scale c.args.part.now c.loop-channel.channel xs ys so next);
      asked = channel_asked _ _ c.args.origin.now.dataset c.args.origin.now.scale c.args.part.now c.loop-channel.channel _ _ _ inv.kept.same_objects inv.asked c.stream_channel.ensures.pours.asks.asked;
      serves = serves_still (g.S.Source.objects c.loop-channel.store) (g.S.Source.objects c.args.store.now) c.args.origin.now c.stream_channel.new.self (sym inv.kept.same_objects) c.stream_channel.ensures.serves;
      kept = record {
        same_objects = c.stream_channel.ensures.pours.asks.reads.kept.same_objects ∙ inv.kept.same_objects;
        same_draft = c.stream_channel.ensures.pours.asks.reads.kept.same_draft ∙ inv.kept.same_draft;
      };
      history = c.stream_channel.ensures.pours.asks.reads.history ∙ inv.history;
      later = omega (arith, inv.later, c.in-Ok.ensures.pours.asks.reads.cause.stands);
      out_later = omega (arith, inv.out_later, c.in-Ok.ensures.pours.out_cause.stands);
    }

pub returns-in-Err-clause-pours : goal.returns-in-Err-clause-pours
returns-in-Err-clause-pours g c = record {
  streams =
      let inv = c.loop-channel.invariant in
      leaves_more _ _ _ _ _ _ _ _ inv.kept.same_objects inv.gained c.in-Err.ensures.pours.streams (λ m xs ys told so next.
      streams_refused m c.args.origin.now.dataset c.args.origin.now.scale c.args.part.now c.loop-channel.channel c.in-Err.fault xs ys c.requires.inside.some (omega (arith, c.loop-channel-test.true, inv.end)) so next);
  inside = search rules;
  memory = search rules;
  asks = record {
    asked =
        let inv = c.loop-channel.invariant in
        channels_asked _ c.args.origin.now.dataset c.args.origin.now.scale c.args.part.now (c.loop-channel.channel + 1) _ _ _ (omega (arith, c.loop-channel-test.true, inv.end))
        (channel_asked _ _ c.args.origin.now.dataset c.args.origin.now.scale c.args.part.now c.loop-channel.channel _ _ _ inv.kept.same_objects inv.asked c.stream_channel.ensures.pours.asks.asked);
    reads = search rules;
  };
  out_cause = search rules;
}

pub returns-clause-pours : goal.returns-clause-pours
returns-clause-pours g c = record {
  streams =
      leaves_as _ _ _ _ _ c.loop-channel.invariant.gained (λ m xs told so.
      streams_all m c.args.origin.now.dataset c.args.origin.now.scale c.args.part.now c.loop-channel.channel xs c.requires.inside.some (omega (arith, c.loop-channel-test.false, c.loop-channel.invariant.few, c.loop-channel.invariant.end)) so);
  inside = search rules;
  memory = search rules;
  asks = record {
    asked =
        channels_asked _ c.args.origin.now.dataset c.args.origin.now.scale c.args.part.now c.loop-channel.channel _ _ _ c.loop-channel.invariant.few c.loop-channel.invariant.asked;
    reads = search rules;
  };
  out_cause = search rules;
}
