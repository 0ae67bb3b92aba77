use Rattle.std.proofs.Common.{◌≡◌, Option}
use Rattle.std.specs.Prelude.{Result}
use Rattle.vol_base.specs.Outside.{Objects}
use Rattle.reducer.specs.Works.{IsApart, work_of}
use Rattle.make_scale.specs.Making.{Puts, Wrote}
use Rattle.shard_writer.specs.Works.{job_objects}
use Rattle.shard_writer.specs.declared.written.WriteFault.{WriteFault}
use Rattle.shard_writer.specs.declared.written.Written.{Written}
use Rattle.downsample_cmd.proofs.ReducingSteps.{apart_in, due_in, of_reducer, says_in}
use Rattle.downsample_cmd.specs.Downsampling.{reduced_list}
use Rattle.downsample_cmd.specs.Reductions.{said_reduction}
use Rattle.downsample_cmd.proofs.downsampling.ReducingMaking.begin.Goals as goal

pub returns-clause-apart : goal.returns-clause-apart
returns-clause-apart g c =
    of_reducer (g.S.Source.objects c.args.store.now) c.of.result c.args.self.now.method c.args.from.now.dataset c.args.to.now.dataset c.args.from.now.scale c.args.to.now.scale (λ m r. IsApart r c.args.to.now.dataset c.args.to.now.scale)
    c.requires.suits c.of.ensures.method c.of.ensures.dataset c.of.ensures.from c.of.ensures.to c.of.ensures.jobs c.requires.empty (g.met.S.Source.bytes c.args.store.now)
    (λ m r way own read scale made none bytes. apart_in m r c.args.self.now.method c.args.to.now.dataset c.args.from.now.scale c.args.to.now.scale way own read scale made c.requires.fits none)

pub returns-clause-due : goal.returns-clause-due
returns-clause-due g c =
    of_reducer (g.S.Source.objects c.args.store.now) c.of.result c.args.self.now.method c.args.from.now.dataset c.args.to.now.dataset c.args.from.now.scale c.args.to.now.scale (λ m r. job_objects c.args.to.now.dataset (work_of r) m ≡ reduced_list c.args.self.now.method m c.args.to.now.dataset c.args.from.now.scale c.args.to.now.scale)
    c.requires.suits c.of.ensures.method c.of.ensures.dataset c.of.ensures.from c.of.ensures.to c.of.ensures.jobs c.requires.empty (g.met.S.Source.bytes c.args.store.now)
    (λ m r way own read scale made none bytes. due_in m r c.args.self.now.method c.args.to.now.dataset c.args.from.now.scale c.args.to.now.scale way own read scale made c.requires.fits)

pub returns-clause-says : goal.returns-clause-says
returns-clause-says g c =
    of_reducer (g.S.Source.objects c.args.store.now) c.of.result c.args.self.now.method c.args.from.now.dataset c.args.to.now.dataset c.args.from.now.scale c.args.to.now.scale
    (λ m r. (now : Option Objects) (answer : Result Written WriteFault) → Wrote c.args.to.now.dataset (work_of r) m now answer → Puts (said_reduction c.args.self.now.method m now c.args.to.now.dataset c.args.from.now.scale c.args.to.now.scale) answer)
    c.requires.suits c.of.ensures.method c.of.ensures.dataset c.of.ensures.from c.of.ensures.to c.of.ensures.jobs c.requires.empty (g.met.S.Source.bytes c.args.store.now)
    (λ m r way own read scale made none bytes. says_in m r c.args.self.now.method c.args.to.now.dataset c.args.from.now.scale c.args.to.now.scale way own read scale made c.requires.fits c.requires.few c.requires.writable none bytes)
