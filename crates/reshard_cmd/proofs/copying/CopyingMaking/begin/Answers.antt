use Rattle.std.proofs.Common.{◌≡◌, Option}
use Rattle.std.specs.Prelude.{Result}
use Rattle.vol_base.specs.Outside.{Objects}
use Rattle.copier.specs.Held.{IsApart, work_of}
use Rattle.make_scale.specs.Making.{Puts, Wrote}
use Rattle.shard_writer.specs.Works.{job_objects}
use Rattle.shard_writer.specs.declared.written.WriteFault.{WriteFault}
use Rattle.shard_writer.specs.declared.written.Written.{Written}
use Rattle.reshard_cmd.proofs.CopyingSteps.{apart_in, due_in, of_copier, says_in}
use Rattle.reshard_cmd.specs.Resharding.{copy_list}
use Rattle.reshard_cmd.specs.Copies.{said_copy}
use Rattle.reshard_cmd.proofs.copying.CopyingMaking.begin.Goals as goal

pub returns-clause-apart : goal.returns-clause-apart
returns-clause-apart g c =
    of_copier (g.S.Source.objects c.args.store.now) c.of.result c.args.from.now.dataset c.args.from.now.scale c.args.to.now.dataset c.args.to.now.scale (λ m h. IsApart h c.args.to.now.dataset c.args.to.now.scale) c.of.ensures.dataset c.of.ensures.from c.of.ensures.to c.of.ensures.jobs c.requires.empty (g.met.S.Source.bytes c.args.store.now)
    (λ m h own read scale made none bytes. apart_in m h c.args.from.now.dataset c.args.from.now.scale c.args.to.now.dataset c.args.to.now.scale own read scale made none)

pub returns-clause-due : goal.returns-clause-due
returns-clause-due g c =
    of_copier (g.S.Source.objects c.args.store.now) c.of.result c.args.from.now.dataset c.args.from.now.scale c.args.to.now.dataset c.args.to.now.scale (λ m h. job_objects c.args.to.now.dataset (work_of h) m ≡ copy_list m c.args.from.now.dataset c.args.from.now.scale c.args.to.now.dataset c.args.to.now.scale)
    c.of.ensures.dataset c.of.ensures.from c.of.ensures.to c.of.ensures.jobs c.requires.empty (g.met.S.Source.bytes c.args.store.now)
    (λ m h own read scale made none bytes. due_in m h c.args.from.now.dataset c.args.from.now.scale c.args.to.now.dataset c.args.to.now.scale own read scale made)

pub returns-clause-says : goal.returns-clause-says
returns-clause-says g c =
    of_copier (g.S.Source.objects c.args.store.now) c.of.result c.args.from.now.dataset c.args.from.now.scale c.args.to.now.dataset c.args.to.now.scale
    (λ m h. (now : Option Objects) (answer : Result Written WriteFault) → Wrote c.args.to.now.dataset (work_of h) m now answer → Puts (said_copy m now c.args.from.now.dataset c.args.from.now.scale c.args.to.now.dataset c.args.to.now.scale) answer)
    c.of.ensures.dataset c.of.ensures.from c.of.ensures.to c.of.ensures.jobs c.requires.empty (g.met.S.Source.bytes c.args.store.now)
    (λ m h own read scale made none bytes. says_in m h c.args.from.now.dataset c.args.from.now.scale c.args.to.now.dataset c.args.to.now.scale own read scale made c.requires.fits c.requires.few c.requires.writable none bytes)
