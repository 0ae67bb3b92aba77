-- The lines of refusals of `write` whose status always has the same one (this project's).
use Rattle.std.specs.Prelude.{◌≡◌, IfSome, refl}
use Rattle.vol_spec.specs.Types.{Name}
use Rattle.command_base.specs.Statuses.{fixed_line}
use Rattle.write_cmd.specs.Refusals.{write_line, write_status}
use Rattle.write_cmd.specs.declared.refusal.WriteRefusal.{WriteRefusal}
use Rattle.write_cmd.specs.declared.refusal.WriteRefusal.TheVariants as write

-- where the status of a refusal always has the same line, the refusal has it
pub write_fixed : (dataset : Name) (refusal : WriteRefusal) →
    IfSome (fixed_line (write_status refusal)) (λ text. write_line dataset refusal ≡ text)
write_fixed dataset (write.NoScale why) = tt
write_fixed dataset (write.TooManyVoxels voxels) = tt
write_fixed dataset write.NotEmpty = tt
write_fixed dataset (write.Stream fault) = tt
write_fixed dataset (write.TooManyCells cells) = tt
write_fixed dataset write.StoreFault = refl
write_fixed dataset write.FeedFault = refl
write_fixed dataset write.NoMemory = refl
