-- What writing all views answers.
use Rattle.std.proofs.Common.{◌≡◌, ◌≢◌, ◌↔◌, ℕ, Option, Some, None, IfSome, Result, Ok, Err, refl}
use Rattle.vol_base.specs.Outside.{Objects}
use Rattle.vol_spec.specs.Types.{Name, Writes}
use Rattle.vol_spec.specs.declared.scale.Scale.{Scale}
use Rattle.shard_writer.specs.declared.written.Written.{Written}
use Rattle.size_laws.specs.Further.{all_views}
use Rattle.size_laws.specs.Sizes.{stored_all}
use Rattle.view_writer.specs.Views.{IsFront, IsPut, cells_all, first_many}
use Rattle.view_writer.specs.declared.done.ViewsRefusal.{ViewsRefusal}
use Rattle.view_writer.specs.declared.done.ViewsRefusal.TheVariants as views
use Rattle.write_cmd.specs.Storing.{PutsWrites}
use Rattle.write_cmd.specs.declared.refusal.WriteRefusal.TheVariants.{TooManyCells, StoreFault, NoMemory}

-- no view makes too many pairs, where that isn't what is answered
pub none_many : {A : Type 0} (r : Result A ViewsRefusal) (many : Option ℕ) → ((cells : ℕ) → (r ≡ Err (views.TooManyCells cells)) ↔ (many ≡ Some cells))
    → ((cells : ℕ) → r ≢ Err (views.TooManyCells cells)) → many ≡ None
none_many r None exact other = refl
none_many r (Some cells) exact other = absurd (other cells ((exact cells).1 refl))

pub all_written : (written : Written) (o now : Option Objects) (dataset : Name) (s : Scale) (writes : Writes) → first_many (all_views s) writes ≡ None
    → IsPut o now (stored_all dataset (all_views s) writes) (cells_all (all_views s) writes) written → IfSome o (λ m. PutsWrites (Ok written) m now dataset s writes)
all_written written None now dataset s writes few put = tt
all_written written (Some m) now dataset s writes few put = (put.put, few, record { objects = put.objects_are; cells = put.cells_are; bytes = put.bytes_are })

pub all_failed : (o now : Option Objects) (dataset : Name) (s : Scale) (writes : Writes) → first_many (all_views s) writes ≡ None
    → IsFront o now (stored_all dataset (all_views s) writes) → IfSome o (λ m. PutsWrites (Err StoreFault) m now dataset s writes) × IfSome o (λ m. PutsWrites (Err NoMemory) m now dataset s writes)
all_failed None now dataset s writes few front = (tt, tt)
all_failed (Some m) now dataset s writes few front = ((few, front), (few, front))

pub many_refused : (o now : Option Objects) (dataset : Name) (s : Scale) (writes : Writes) (cells : ℕ) → first_many (all_views s) writes ≡ Some cells
    → IfSome o (λ m. PutsWrites (Err (TooManyCells cells)) m now dataset s writes)
many_refused None now dataset s writes cells many = tt
many_refused (Some m) now dataset s writes cells many = many
