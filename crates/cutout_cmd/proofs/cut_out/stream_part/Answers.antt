use Rattle.std.proofs.Common.{◌≡◌, ◌∙◌, Err, ap, subst, sym}
use Rattle.vol_base.specs.Gains.{Gains}
use Rattle.cutout.specs.Streaming.{Streams}
use Rattle.vol_spec.proofs.Told.{in_told}
use Rattle.cutout_cmd.proofs.AnswerSteps.{broken_comes, broken_cuts, broken_out, broken_store, broken_writes}
use Rattle.cutout_cmd.specs.Cutouts.{CutsScale, IsBroken, Writes}
use Rattle.cutout_cmd.specs.declared.refusal.CutoutRefusal.TheVariants.{OutFault, StoreFault}
use Rattle.cutout_cmd.proofs.cut_out.stream_part.Goals as goal

pub as_refusal-requires : goal.as_refusal-requires
as_refusal-requires g c = λ e. c.stream.ensures.outside.0 (c.in-Err.is ∙ ap Err e) c.requires.part.0

pub returns-in-Ok-clause-cuts : goal.returns-in-Ok-clause-cuts
returns-in-Ok-clause-cuts g c =
    in_told _ _ (λ m told.
    let streams = subst (λ r. Streams r m c.args.reader.now.dataset c.args.reader.now.scale c.args.part.now c.stream.ensures.streams.gained) c.in-Ok.is (c.stream.ensures.streams.tells m told) in
    ((c.requires.part, streams.0), subst (λ bytes. Gains (g.O.Outlet.written c.args.out.now) (g.O.Outlet.written c.stream.new.out) bytes) streams.1 c.stream.ensures.streams.is))

pub returns-in-Err-clause-cuts : goal.returns-in-Err-clause-cuts
returns-in-Err-clause-cuts g c =
    in_told _ _ (λ m told.
    let streams = subst (λ r. Streams r m c.args.reader.now.dataset c.args.reader.now.scale c.args.part.now c.stream.ensures.streams.gained) c.in-Err.is (c.stream.ensures.streams.tells m told) in
    subst (λ r. CutsScale (Err r) m c.args.reader.now.dataset c.args.reader.now.scale c.args.part.now (g.O.Outlet.written c.args.out.now) (g.O.Outlet.written c.stream.new.out)) (sym c.as_refusal.ensures)
    (broken_cuts c.in-Err.fault m c.args.reader.now.dataset c.args.reader.now.scale c.args.part.now (g.O.Outlet.written c.args.out.now) (g.O.Outlet.written c.stream.new.out) c.stream.ensures.streams.gained
    (λ e. c.stream.ensures.outside.0 (c.in-Err.is ∙ ap Err e) c.requires.part.0) c.requires.part c.stream.ensures.streams.is streams))

pub returns-in-Err-clause-broken : goal.returns-in-Err-clause-broken
returns-in-Err-clause-broken g c = subst IsBroken (sym c.as_refusal.ensures) (broken_comes c.in-Err.fault (λ e. c.stream.ensures.outside.0 (c.in-Err.is ∙ ap Err e) c.requires.part.0))

pub returns-in-Err-clause-reads : goal.returns-in-Err-clause-reads
returns-in-Err-clause-reads g c = record {
  kept = c.stream.ensures.reads.kept;
  history = c.stream.ensures.reads.history;
  cause = record {
    later = c.stream.ensures.reads.cause.later;
    failed = λ is.
        let told : c.as_refusal.result ≡ StoreFault = cc is in
        c.stream.ensures.reads.cause.failed (c.in-Err.is ∙ ap Err (broken_store c.in-Err.fault (λ e. c.stream.ensures.outside.0 (c.in-Err.is ∙ ap Err e) c.requires.part.0) (sym c.as_refusal.ensures ∙ told)));
    stands = tt;
  };
}

pub returns-in-Err-clause-out_cause : goal.returns-in-Err-clause-out_cause
returns-in-Err-clause-out_cause g c = record {
  later = c.stream.ensures.out_cause.later;
  failed = λ is.
      let told : c.as_refusal.result ≡ OutFault = cc is in
      c.stream.ensures.out_cause.failed (c.in-Err.is ∙ ap Err (broken_out c.in-Err.fault (λ e. c.stream.ensures.outside.0 (c.in-Err.is ∙ ap Err e) c.requires.part.0) (sym c.as_refusal.ensures ∙ told)));
  stands = tt;
}

pub returns-in-Err-clause-unwritten : goal.returns-in-Err-clause-unwritten
returns-in-Err-clause-unwritten g c =
    subst (λ r. Writes (Err r) c.args.part.now (g.O.Outlet.written c.args.out.now) (g.O.Outlet.written c.stream.new.out)) (sym c.as_refusal.ensures)
    (broken_writes c.in-Err.fault c.args.part.now (g.O.Outlet.written c.args.out.now) (g.O.Outlet.written c.stream.new.out) (λ e. c.stream.ensures.outside.0 (c.in-Err.is ∙ ap Err e) c.requires.part.0)
    (λ e. ap g.O.Outlet.written (c.stream.ensures.memory (c.in-Err.is ∙ ap Err e)).1))
