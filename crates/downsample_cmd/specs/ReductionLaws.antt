-- What makes a reduction a way of making (this project's).
use Rattle.std.proofs.Common.{ℕ, List, Some, refl, arith}
use Rattle.vol_base.specs.Outside.{Objects}
use Rattle.vol_spec.specs.declared.scale.Scale.{Scale}
use Rattle.reduce_laws.specs.declared.method.Method.{Method}
use Rattle.downsample_cmd.specs.Downsampling.{PutsReducedFront}

-- where nothing is put yet, a front of its objects is
pub reduction_untouched : (method : Method) (m : Objects) (dataset : List ℕ) (from to : Scale) →
    PutsReducedFront method m (Some m) dataset from to
reduction_untouched method m dataset from to =
    (record { count = 0; within = omega arith; put = refl }, λ cell listed faulty. refl)
