use Rattle.std.proofs.Common.{◌-◌, ◌+◌, length, ap, ◌∙◌, arith, subst, sym}
use Rattle.std.specs.Prelude.{None}
use Rattle.encode_round.specs.Begun.{AreBegun}
use Rattle.encode_round.specs.declared.kit.Kit.{Kit}
use Rattle.encode_round.specs.Ready.{chunk_ready, chunks_from}
use Rattle.encode_round.specs.Serving.{ServesKit, most}
use Rattle.encode_round.proofs.Named.{get_chunks, length_chunks, named}
use Rattle.encode_round.proofs.Placing.{done_is}
use Rattle.encode_round.proofs.bench.run_within.Goals as goal

pub run_named-kit-requires-clause-wanted : goal.run_named-kit-requires-clause-wanted
run_named-kit-requires-clause-wanted g c κs within = sym (length_chunks (g.C.Chunks.work c.args.chunks.now) (g.C.Chunks.ready c.args.chunks.now) c.args.from (c.args.to - c.args.from))

pub run_named-kit-requires-clause-named : goal.run_named-kit-requires-clause-named
run_named-kit-requires-clause-named g c κs within = named c.args.scale.now (g.C.Chunks.work c.args.chunks.now) (g.C.Chunks.ready c.args.chunks.now) c.args.from c.args.to c.requires.jobs

pub run_named-kit-requires-clause-kit : goal.run_named-kit-requires-clause-kit
run_named-kit-requires-clause-kit g c κs within = subst (ServesKit c.args.scale.now c.args.bench.now.size) (sym c.replace-kit.ensures.value) c.requires.bench.kit

pub returns-clause-done : goal.returns-clause-done
returns-clause-done g c = λ k below.
    let work = g.C.Chunks.work c.args.chunks.now in
    let ready = g.C.Chunks.ready c.args.chunks.now in
    let n = c.args.to - c.args.from in
    done_is (most c.args.scale.now) (chunks_from work ready c.args.from n) c.run_named-kit.result.0.frames.items k (chunk_ready work ready (c.args.from + k)) (get_chunks work ready c.args.from n k (omega (arith, below, c.run_named-kit.ensures.few)))
    (omega (arith, below, c.run_named-kit.ensures.few, c.run_named-kit.ensures.kit.count, c.requires.size))
    (c.run_named-kit.ensures.chunks k None below)

pub returns-clause-seats : goal.returns-clause-seats
returns-clause-seats g c = c.run_named-kit.ensures.desks ∙ ap (λ (kit : Kit). length kit.desks.items) c.replace-kit.ensures.value

pub returns-clause-begun : goal.returns-clause-begun
returns-clause-begun g c =
    let wanted = chunks_from (g.C.Chunks.work c.args.chunks.now) (g.C.Chunks.ready c.args.chunks.now) c.args.from (c.args.to - c.args.from) in
    subst (λ (kit : Kit). AreBegun (length kit.desks.items) c.args.limit wanted c.run_named-kit.result.0.log.items) c.replace-kit.ensures.value c.run_named-kit.ensures.begun
