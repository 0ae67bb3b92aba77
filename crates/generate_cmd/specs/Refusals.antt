-- The status and the line of each refusal of `generate`: a list that is made from a number is refused as a write is, or as a
-- cutout of the whole scale is (this project's).
use Rattle.vol_spec.specs.Types.{Bytes, Name}
use Rattle.command_base.specs.declared.status.Status.{Status}
use Rattle.cutout_cmd.specs.Refusals.{cutout_line, cutout_status}
use Rattle.write_cmd.specs.Refusals.{write_line, write_status}
use Rattle.generate_cmd.specs.declared.refusal.GenerateRefusal.{GenerateRefusal}
use Rattle.generate_cmd.specs.declared.refusal.GenerateRefusal.TheVariants.{Write, Cutout}

abbrev pub generate_status : GenerateRefusal → Status
generate_status (Write refusal) = write_status refusal
generate_status (Cutout refusal) = cutout_status refusal

abbrev pub generate_line : Name → GenerateRefusal → Bytes
generate_line dataset (Write refusal) = write_line dataset refusal
generate_line dataset (Cutout refusal) = cutout_line dataset refusal
