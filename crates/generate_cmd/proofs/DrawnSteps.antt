-- What the answer of `generate` says.
use Rattle.std.proofs.Common.{ℕ, Option, Err, inl, refl}
use Rattle.vol_base.specs.Outside.{Objects}
use Rattle.vol_spec.proofs.Told.{in_told}
use Rattle.vol_spec.specs.Types.{Name}
use Rattle.write_cmd.specs.declared.refusal.WriteRefusal.TheVariants.{NoMemory}
use Rattle.generate_cmd.specs.Generating.{IsRightList}
use Rattle.generate_cmd.specs.declared.refusal.GenerateRefusal.TheVariants.{Write}

-- want of memory is always right, where nothing changed
pub memory_right : (told : Option Objects) (number count : ℕ) (dataset key : Name) → IsRightList (Err (Write NoMemory)) told told number count dataset key
memory_right told number count dataset key = record {
  generates = in_told told _ (λ m is. inl is);
  comes = tt;
  same = λ none. refl;
}
