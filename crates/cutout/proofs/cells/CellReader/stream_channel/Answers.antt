use Rattle.std.proofs.Common.{◌∙◌, ◌≤◌, ◌+◌, Err, IfSome, Ok, arith, length, refl, rules, subst, sym}
use Rattle.vol_spec.specs.Costs.{cost}
use Rattle.vol_spec.specs.Grid.{Inside}
use Rattle.vol_spec.specs.Raw.{raw_len}
use Rattle.cutout.proofs.AskedSteps.{asked_begin, layer_asked, layers_asked}
use Rattle.cutout.proofs.LayerSteps.{first-end, IsNumber, layer-Inside, layer-room}
use Rattle.cutout.proofs.ServeSteps.{serves_still}
use Rattle.cutout.proofs.StreamSteps.{layers_all, layers_more, layers_none, layers_refused, leaves_as, leaves_more, leaves_none}
use Rattle.cutout.specs.Streaming.{StreamsPiece}
use Rattle.cutout.proofs.cells.CellReader.stream_channel.Goals as goal

pub loop-number-init : goal.loop-number-init
loop-number-init g c =
    let some = first-end c.args.origin.now.scale c.args.part.now c.requires.inside in
    record {
      first = omega (arith, c.first_layer-number.ensures);
      end = c.end_layer-number-end.ensures.value;
      last = omega (arith, c.first_layer-number.ensures, some);
      gained = leaves_none _ _ _ (λ m told. layers_none m c.args.origin.now.dataset c.args.origin.now.scale c.args.part.now c.args.channel _ c.requires.inside c.first_layer-number.ensures);
      asked = asked_begin _ _ _;
      serves = c.requires.serves;
      kept = record { same_objects = refl; same_draft = refl };
      history = refl;
      later = omega arith;
      out_later = omega arith;
    }

pub layer_at-layer-requires-clause-number : goal.layer_at-layer-requires-clause-number
layer_at-layer-requires-clause-number g c = omega (arith, c.loop-number-test.true, c.loop-number.invariant.end, c.end_layer-number-end.ensures.value, c.end_layer-number-end.ensures.small)

pub stream_piece-requires-clause-inside : goal.stream_piece-requires-clause-inside
stream_piece-requires-clause-inside g c =
    let is : IsNumber c.args.origin.now.scale c.args.part.now c.loop-number.number = record { first = c.loop-number.invariant.first; last = omega (arith, c.loop-number-test.true, c.loop-number.invariant.end) } in
    subst (λ b. Inside c.args.origin.now.scale b) (sym c.layer_at-layer.ensures) (layer-Inside c.args.origin.now.scale c.args.part.now c.loop-number.number c.requires.inside is)

pub stream_piece-requires-clause-buffer : goal.stream_piece-requires-clause-buffer
stream_piece-requires-clause-buffer g c =
    let is : IsNumber c.args.origin.now.scale c.args.part.now c.loop-number.number = record { first = c.loop-number.invariant.first; last = omega (arith, c.loop-number-test.true, c.loop-number.invariant.end) } in
    let room = layer-room c.args.origin.now.scale c.args.part.now c.loop-number.number c.requires.inside is in
    subst (λ b. raw_len b 1 c.args.origin.now.scale.width ≤ length c.loop-number.buffer) (sym c.layer_at-layer.ensures) (omega (arith, room, c.requires.buffer, c.loop-number.auto.buffer))

pub stream_piece-requires-clause-serves : goal.stream_piece-requires-clause-serves
stream_piece-requires-clause-serves g c =
    serves_still (g.S.Source.objects c.args.store.now) (g.S.Source.objects c.loop-number.store) c.args.origin.now c.loop-number.self c.loop-number.invariant.kept.same_objects c.loop-number.invariant.serves

pub loop-number-preserved : goal.loop-number-preserved
loop-number-preserved g c =
    let inv = c.loop-number.invariant in
    let is : IsNumber c.args.origin.now.scale c.args.part.now c.loop-number.number = record { first = inv.first; last = omega (arith, c.loop-number-test.true, c.loop-number.invariant.end) } in
    record {
      first = omega (arith, inv.first);
      end = inv.end;
      last = omega (arith, is.last);
      gained = leaves_more _ _ _ _ _ _ _ _ inv.kept.same_objects inv.gained c.in-Ok.ensures.pours.streams (λ m xs ys told so piece.
          layers_more m c.args.origin.now.dataset c.args.origin.now.scale c.args.part.now c.args.channel c.loop-number.number xs ys c.requires.inside is so
          (subst (λ b. StreamsPiece (Ok tt) m c.args.origin.now.dataset c.args.origin.now.scale b c.args.channel ys) c.layer_at-layer.ensures piece));
      asked = layer_asked _ _ c.args.origin.now.dataset c.args.origin.now.scale c.args.part.now c.loop-number.number _ _ _ c.requires.inside is inv.kept.same_objects inv.asked
          (subst (λ b. IfSome (g.S.Source.objects c.loop-number.store) (λ m. g.S.Source.asked c.stream_piece.new.store ≤ g.S.Source.asked c.loop-number.store + cost m c.args.origin.now.dataset c.args.origin.now.scale b)) c.layer_at-layer.ensures c.stream_piece.ensures.pours.asks.asked);
      serves = serves_still (g.S.Source.objects c.loop-number.store) (g.S.Source.objects c.args.store.now) c.args.origin.now c.stream_piece.new.self (sym inv.kept.same_objects) c.stream_piece.ensures.serves;
      kept = record {
        same_objects = c.stream_piece.ensures.pours.asks.reads.kept.same_objects ∙ inv.kept.same_objects;
        same_draft = c.stream_piece.ensures.pours.asks.reads.kept.same_draft ∙ inv.kept.same_draft;
      };
      history = c.stream_piece.ensures.pours.asks.reads.history ∙ inv.history;
      later = omega (arith, inv.later, c.in-Ok.ensures.pours.asks.reads.cause.stands);
      out_later = omega (arith, inv.out_later, c.in-Ok.ensures.pours.out_cause.stands);
    }

pub returns-in-Err-clause-pours : goal.returns-in-Err-clause-pours
returns-in-Err-clause-pours g c = record {
  streams =
      let inv = c.loop-number.invariant in
      let is : IsNumber c.args.origin.now.scale c.args.part.now c.loop-number.number = record { first = inv.first; last = omega (arith, c.loop-number-test.true, c.loop-number.invariant.end) } in
      leaves_more _ _ _ _ _ _ _ _ inv.kept.same_objects inv.gained c.in-Err.ensures.pours.streams (λ m xs ys told so piece.
      layers_refused m c.args.origin.now.dataset c.args.origin.now.scale c.args.part.now c.args.channel c.loop-number.number c.in-Err.fault xs ys c.requires.inside is so
      (subst (λ b. StreamsPiece (Err c.in-Err.fault) m c.args.origin.now.dataset c.args.origin.now.scale b c.args.channel ys) c.layer_at-layer.ensures piece));
  inside = search rules;
  memory = search rules;
  asks = record {
    asked =
        let inv = c.loop-number.invariant in
        let is : IsNumber c.args.origin.now.scale c.args.part.now c.loop-number.number = record { first = inv.first; last = omega (arith, c.loop-number-test.true, c.loop-number.invariant.end) } in
        layers_asked _ c.args.origin.now.dataset c.args.origin.now.scale c.args.part.now (c.loop-number.number + 1) _ _ c.requires.inside (omega (arith, is.last))
        (layer_asked _ _ c.args.origin.now.dataset c.args.origin.now.scale c.args.part.now c.loop-number.number _ _ _ c.requires.inside is inv.kept.same_objects inv.asked
        (subst (λ b. IfSome (g.S.Source.objects c.loop-number.store) (λ m. g.S.Source.asked c.stream_piece.new.store ≤ g.S.Source.asked c.loop-number.store + cost m c.args.origin.now.dataset c.args.origin.now.scale b)) c.layer_at-layer.ensures c.stream_piece.ensures.pours.asks.asked));
    reads = search rules;
  };
  out_cause = search rules;
}

pub returns-clause-pours : goal.returns-clause-pours
returns-clause-pours g c = record {
  streams =
      leaves_as _ _ _ _ _ c.loop-number.invariant.gained (λ m xs told so.
      layers_all m c.args.origin.now.dataset c.args.origin.now.scale c.args.part.now c.args.channel c.loop-number.number xs c.requires.inside
      (omega (arith, c.loop-number-test.false, c.loop-number.invariant.last, c.loop-number.invariant.end)) so);
  inside = search rules;
  memory = search rules;
  asks = record {
    asked =
        layers_asked _ c.args.origin.now.dataset c.args.origin.now.scale c.args.part.now c.loop-number.number _ _ c.requires.inside c.loop-number.invariant.last c.loop-number.invariant.asked;
    reads = search rules;
  };
  out_cause = search rules;
}

pub returns-in-Err-clause-serves : goal.returns-in-Err-clause-serves
returns-in-Err-clause-serves g c =
    serves_still (g.S.Source.objects c.loop-number.store) (g.S.Source.objects c.args.store.now) c.args.origin.now c.stream_piece.new.self (sym c.loop-number.invariant.kept.same_objects) c.stream_piece.ensures.serves
