-- What judging a part says (this project's profile).
use Rattle.std.specs.Prelude.{◌≡◌, ℕ, ◌+◌, ◌*◌, ◌^◌, ◌<◌, ◌≤◌, map, Option}
use Rattle.std.specs.Option.{option_map}
use Rattle.vol_base.specs.Outside.{Objects}
use Rattle.vol_base.specs.declared.boxes.Box3.{Box3}
use Rattle.vol_spec.specs.BoxValues.{first_some}
use Rattle.vol_spec.specs.Costs.{cost}
use Rattle.vol_spec.specs.Grid.{cells_in, Inside}
use Rattle.vol_spec.specs.Types.{Cell, Name}
use Rattle.vol_spec.specs.Verdicts.{Wrong, judge}
use Rattle.vol_spec.specs.declared.scale.Scale.{Scale}
use Rattle.size_laws.specs.Further.{all_views, further}
use Rattle.size_laws.specs.Sizes.{AllSound}
use Rattle.view_judge.specs.Judging.{absent_of, cells_of, stored_of, views_cost}
use Rattle.verify_cmd.specs.declared.report.Report.{Report}

-- a cell with which something is wrong, with what it is
abbrev pub flawed : Objects → Name → Scale → Cell → Option (Cell × Wrong)
flawed m dataset s cell = option_map (λ wrong. (cell, wrong)) (judge m dataset s cell)

-- the first of the cells that meet a box
abbrev pub first_wrong : Objects → Name → Scale → Box3 → Option (Cell × Wrong)
first_wrong m dataset s b = first_some (map (flawed m dataset s) (cells_in s b))

-- a report of a part that is sound in all views: its numbers are the sums over them
pub record IsReport (m : Objects) (dataset : Name) (s : Scale) (b : Box3) (report : Report) : Type 0 where
  pub sound : AllSound m dataset s (further s) b
  pub cells : report.cells ≡ cells_of (all_views s) b
  pub stored : report.stored ≡ stored_of m dataset (all_views s) b
  pub absent : report.absent ≡ absent_of m dataset (all_views s) b

-- a part that can be judged: it is inside its scale, and at most 2^22 cells of all views meet it
abbrev pub CanJudge : Scale → Box3 → Type 0
CanJudge s b = Inside s b × (cells_of (all_views s) b ≤ 2 ^ 22)

-- a part inside a scale that more than 2^22 cells of all views meet: n of them
pub record IsTooMany (s : Scale) (b : Box3) (n : ℕ) : Type 0 where
  pub inside : Inside s b
  pub many : 2 ^ 22 < cells_of (all_views s) b
  pub number : n ≡ cells_of (all_views s) b

-- how many bytes of the store judging a part costs at most: twice what the cells of the first view cost, and what the
-- further views cost beside it
abbrev pub part_cost : Objects → Name → Scale → Box3 → ℕ
part_cost m dataset s b = 2 * cost m dataset s b + views_cost m dataset s b
