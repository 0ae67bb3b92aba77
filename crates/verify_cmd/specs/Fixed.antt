-- A refusal of `verify` whose status always has the same line has that line (this project's).
use Rattle.std.specs.Prelude.{◌≡◌, IfSome, refl}
use Rattle.vol_spec.specs.Types.{Name}
use Rattle.command_base.specs.Statuses.{fixed_line}
use Rattle.verify_cmd.specs.Refusals.{verify_line, verify_status}
use Rattle.verify_cmd.specs.declared.refusal.VerifyRefusal.{VerifyRefusal}
use Rattle.verify_cmd.specs.declared.refusal.VerifyRefusal.TheVariants as verify

pub verify_fixed : (dataset : Name) (refusal : VerifyRefusal) →
    IfSome (fixed_line (verify_status refusal)) (λ text. verify_line dataset refusal ≡ text)
verify_fixed dataset (verify.NoScale why) = tt
verify_fixed dataset (verify.Outside part whole) = tt
verify_fixed dataset (verify.TooManyCells cells) = tt
verify_fixed dataset (verify.Damaged cell fault) = tt
verify_fixed dataset (verify.Misplaced shard minishard id) = tt
verify_fixed dataset (verify.ViewDamaged view cell fault) = tt
verify_fixed dataset (verify.Conflict view place channel found wanted) = tt
verify_fixed dataset verify.StoreFault = refl
verify_fixed dataset verify.NoMemory = refl
