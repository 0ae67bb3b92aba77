use Rattle.std.proofs.Common.{◌++◌, ◌∙◌, arith}
use Rattle.byteorder.specs.Endian.{little_bytes}
use Rattle.write_plan.specs.Stream.{magic}
use Rattle.vectors_vol.specs.Generated.{writes_from}
use Rattle.vectors_vol.specs.WriteStreams.{written}
use Rattle.vectors_vol.proofs.PlainSteps.{pushed, stream_is, written_more}
use Rattle.vectors_vol.proofs.plain.plain_stream.Goals as goal

pub loop-write-preserved : goal.loop-write-preserved
loop-write-preserved c =
    let s = c.args.scale.now in
    pushed (magic ++ little_bytes 4 c.args.writes) c.loop-write.bytes.items _ (written (writes_from s c.args.number 0 c.loop-write.write)) _ _
    c.loop-write.invariant c.in_ok-push_write.ensures (written_more s c.args.number c.loop-write.write)

pub returns : goal.returns
returns c =
    c.loop-write.invariant ∙ stream_is c.args.scale.now c.args.number c.args.writes c.loop-write.write (omega arith)
