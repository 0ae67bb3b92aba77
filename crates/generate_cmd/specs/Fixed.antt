-- The lines of refusals of `generate` whose status always has the same one (this project's).
use Rattle.std.specs.Prelude.{◌≡◌, IfSome}
use Rattle.vol_spec.specs.Types.{Name}
use Rattle.command_base.specs.Statuses.{fixed_line}
use Rattle.cutout_cmd.specs.Refusals.{cutout_fixed}
use Rattle.write_cmd.specs.Fixed.{write_fixed}
use Rattle.generate_cmd.specs.Refusals.{generate_line, generate_status}
use Rattle.generate_cmd.specs.declared.refusal.GenerateRefusal.{GenerateRefusal}
use Rattle.generate_cmd.specs.declared.refusal.GenerateRefusal.TheVariants.{Write, Cutout}

-- where the status of a refusal always has the same line, the refusal has it
pub generate_fixed : (dataset : Name) (refusal : GenerateRefusal) →
    IfSome (fixed_line (generate_status refusal)) (λ text. generate_line dataset refusal ≡ text)
generate_fixed dataset (Write refusal) = write_fixed dataset refusal
generate_fixed dataset (Cutout refusal) = cutout_fixed dataset refusal
