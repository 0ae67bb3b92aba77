-- How many bytes a cutout asks for.
use Rattle.std.proofs.Common.{◌≡◌, ◌≤◌, ℕ, ◌+◌, ◌^◌, Option, Some, None, Ok, IfSome, arith, ap, subst}
use Rattle.vol_base.specs.declared.boxes.Box3.{Box3}
use Rattle.vol_base.specs.Outside.{Objects}
use Rattle.vol_spec.specs.Types.{Name}
use Rattle.vol_spec.specs.declared.scale.Scale.{Scale}
use Rattle.cutout_cmd.specs.Cutouts.{AsksFor, cells_cost, parts_cost}
use Rattle.command_base.specs.Scales.{stored_scale}

-- nothing is asked for
pub asks_none : (o : Option Objects) (f : Objects → ℕ) (n : ℕ) → IfSome o (λ m. n ≤ n + f m)
asks_none None f n = tt
asks_none (Some m) f n = omega arith

-- the info document alone
pub asks_info : (o : Option Objects) (dataset key : Name) (part : Box3) (old new : ℕ) → new ≤ old + (2 ^ 20 + 1) → IfSome o (λ m. AsksFor m dataset key part old new)
asks_info None dataset key part old new h = tt
asks_info (Some m) dataset key part old new h = omega (arith, h)

-- and the cells
pub asks_cells : (o same : Option Objects) (dataset key : Name) (s : Scale) (part : Box3) (old read new : ℕ) → same ≡ o → IfSome o (λ m. stored_scale m dataset key ≡ Ok s) → read ≤ old + (2 ^ 20 + 1)
    → IfSome same (λ m. new ≤ read + parts_cost m dataset s part) → IfSome o (λ m. AsksFor m dataset key part old new)
asks_cells None same dataset key s part old read new e is h cells = tt
asks_cells (Some m) same dataset key s part old read new e is h cells =
    let more : new ≤ read + parts_cost m dataset s part = subst (λ o. IfSome o (λ m. new ≤ read + parts_cost m dataset s part)) e cells in
    let costs : cells_cost (stored_scale m dataset key) m dataset part ≡ parts_cost m dataset s part = ap (λ told. cells_cost told m dataset part) is in
    omega (arith, h, more, costs)
