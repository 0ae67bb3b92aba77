-- What makes a copy a way of making (this project's).
use Rattle.std.proofs.Common.{ℕ, List, Some, refl, arith}
use Rattle.vol_base.specs.Outside.{Objects}
use Rattle.vol_spec.specs.declared.scale.Scale.{Scale}
use Rattle.reshard_cmd.specs.Resharding.{PutsCopyFront}

-- where nothing is put yet, a front of its objects is
pub copy_untouched : (m : Objects) (from_dataset : List ℕ) (from : Scale) (to_dataset : List ℕ)
    (to : Scale) → PutsCopyFront m (Some m) from_dataset from to_dataset to
copy_untouched m from_dataset from to_dataset to =
    (record { count = 0; within = omega arith; put = refl }, λ cell listed faulty. refl)
