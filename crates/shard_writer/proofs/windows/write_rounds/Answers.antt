use Rattle.std.proofs.Common.{◌≡◌, Ok, arith, inr, refl, subst}
use Rattle.vol_base.specs.declared.outside.StoreRefusal.{StoreRefusal}
use Rattle.shard_writer.specs.Plain.{ready_objects}
use Rattle.shard_writer.specs.Works.{Puts}
use Rattle.vol_base.proofs.Moments.{passes_none, passes_twice}
use Rattle.shard_writer.proofs.FrontSteps.{ready_passed}
use Rattle.shard_writer.proofs.RoundPuts.{ready_more, ready_none, ready_stopped}
use Rattle.shard_writer.proofs.RoundSteps.{prepared_part}
use Rattle.shard_writer.proofs.WindowSteps.{drops_on}
use Rattle.shard_writer.proofs.windows.write_rounds.Goals as goal

pub encode_jobs-end-requires-clause-jobs : goal.encode_jobs-end-requires-clause-jobs
encode_jobs-end-requires-clause-jobs g c κs within =
    prepared_part c.args.scale.now (g.C.Chunks.work c.args.chunks.now) (g.C.Chunks.ready c.args.chunks.now) c.args.from c.args.to c.loop-begin.begin c.min-last.result
    c.loop-begin.invariant.low (omega (arith, c.min-last.ensures, c.loop-begin-test.true)) (omega (arith, c.min-last.ensures)) c.requires.jobs

pub write_jobs-requires-clause-jobs : goal.write_jobs-requires-clause-jobs
write_jobs-requires-clause-jobs g c =
    prepared_part c.args.scale.now (g.C.Chunks.work c.args.chunks.now) (g.C.Chunks.ready c.args.chunks.now) c.args.from c.args.to c.loop-begin.begin c.encode_jobs-end.result
    c.loop-begin.invariant.low c.encode_jobs-end.ensures.low (omega (arith, c.min-last.ensures, c.encode_jobs-end.ensures.within)) c.requires.jobs

pub returns-in_err-bytes-clause-puts : goal.returns-in_err-bytes-clause-puts
returns-in_err-bytes-clause-puts g c =
    ready_stopped c.args.dataset.now c.args.scale.now (g.C.Chunks.work c.args.chunks.now) (g.C.Chunks.ready c.args.chunks.now) c.args.from c.loop-begin.begin c.encode_jobs-end.result c.args.to _ _ _ c.loop-begin.bytes c.in_err-bytes.field-0.0 c.from_residual.result c.from_residual.ensures.1
    c.loop-begin.invariant.low c.encode_jobs-end.ensures.low (omega (arith, c.min-last.ensures, c.encode_jobs-end.ensures.within)) c.loop-begin.invariant.puts c.in_err-bytes.ensures.puts

pub returns-in_err-bytes-clause-history : goal.returns-in_err-bytes-clause-history
returns-in_err-bytes-clause-history g c =
    passes_twice _ _ _ _ c.loop-begin.invariant.history
    (ready_passed c.args.dataset.now c.args.scale.now (g.C.Chunks.work c.args.chunks.now) (g.C.Chunks.ready c.args.chunks.now) c.args.from c.loop-begin.begin c.encode_jobs-end.result c.args.to _ _ c.loop-begin.bytes _ _ c.loop-begin.invariant.low c.encode_jobs-end.ensures.low (omega (arith, c.min-last.ensures, c.encode_jobs-end.ensures.within)) c.loop-begin.invariant.puts c.write_jobs.ensures.history)

pub loop-begin-init : goal.loop-begin-init
loop-begin-init g c = record {
  puts = ready_none c.args.dataset.now c.args.scale.now (g.C.Chunks.work c.args.chunks.now) (g.C.Chunks.ready c.args.chunks.now) c.args.from (g.S.Source.objects c.args.store.now);
  history = passes_none _ _ _ refl;
  small = omega arith;
  low = omega arith;
  high = c.requires.jobs.order;
  rounds = c.requires.rounds;
  draft = inr refl;
  later = refl;
}

pub loop-begin-preserved : goal.loop-begin-preserved
loop-begin-preserved g c =
    let more = c.encode_jobs-end.ensures.low in
    record {
      puts = ready_more c.args.dataset.now c.args.scale.now (g.C.Chunks.work c.args.chunks.now) (g.C.Chunks.ready c.args.chunks.now) c.args.from c.loop-begin.begin c.encode_jobs-end.result _ _ _ c.loop-begin.bytes c.in_ok-bytes.field-0
          c.loop-begin.invariant.low more c.loop-begin.invariant.puts c.in_ok-bytes.ensures.puts;
      history = passes_twice _ _ _ _ c.loop-begin.invariant.history
          (ready_passed c.args.dataset.now c.args.scale.now (g.C.Chunks.work c.args.chunks.now) (g.C.Chunks.ready c.args.chunks.now) c.args.from c.loop-begin.begin c.encode_jobs-end.result c.args.to _ _ c.loop-begin.bytes _ _ c.loop-begin.invariant.low c.encode_jobs-end.ensures.low (omega (arith, c.min-last.ensures, c.encode_jobs-end.ensures.within)) c.loop-begin.invariant.puts c.write_jobs.ensures.history);
      small = omega (arith, c.loop-begin.invariant.small, c.loop-begin.invariant.low, c.in_ok-bytes.ensures.small, more);
      low = omega (arith, c.loop-begin.invariant.low, more);
      high = omega (arith, c.min-last.ensures, c.encode_jobs-end.ensures.within);
      rounds = c.encode_jobs-end.ensures.rounds;
      draft = drops_on _ _ _ c.loop-begin.invariant.draft c.write_jobs.ensures.draft;
      later = omega (arith, c.loop-begin.invariant.later, c.in_ok-bytes.ensures.cause.stands);
    }

pub returns-clause-puts : goal.returns-clause-puts
returns-clause-puts g c =
    let end : c.loop-begin.begin ≡ c.args.to = omega (arith, c.loop-begin-test.false, c.loop-begin.invariant.high) in
    subst (λ j. Puts {E = StoreRefusal} (ready_objects c.args.dataset.now c.args.scale.now (g.C.Chunks.work c.args.chunks.now) (g.C.Chunks.ready c.args.chunks.now) c.args.from j) (g.S.Source.objects c.args.store.now) (g.S.Source.objects c.loop-begin.store) (Ok c.loop-begin.bytes)) end c.loop-begin.invariant.puts
