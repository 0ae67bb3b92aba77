-- How many bytes the judgement of cells asks for: at most twice what they cost.
use Rattle.std.proofs.Common.{◌≡◌, ◌∙◌, ◌≤◌, ℕ, ◌+◌, ◌*◌, ◌^◌, List, [], ◌∷◌, ◌++◌, Option, Some, None, Ok, IfSome, refl, ap, subst, arith}
use Rattle.std.specs.FinMap as fin
use Rattle.vol_base.specs.declared.boxes.Box3.{Box3}
use Rattle.vol_base.specs.Outside.{Objects}
use Rattle.vol_spec.proofs.Told.{from_told, in_told}
use Rattle.vol_spec.specs.Costs.{cost, cost_by}
use Rattle.vol_spec.specs.Grid.{cells_in}
use Rattle.vol_spec.specs.Places.{id_of, minishard_of, shard_of}
use Rattle.vol_spec.specs.ShardNames.{shard_name}
use Rattle.vol_spec.specs.StoredBytes.{object_by}
use Rattle.vol_spec.specs.Types.{Bytes, Cell, Name}
use Rattle.vol_spec.specs.declared.scale.Scale.{Scale}
use Rattle.vol_spec.specs.declared.sharding.Sharding.{Sharding}
use Rattle.cutout.proofs.CostSteps.{costs, costs-front, costs-next, costs-one}
use Rattle.cutout.specs.Keeping.{cell_cost, rows_of, search_by}
use Rattle.index_judge.specs.Judging.{index_cost}
use Rattle.command_base.specs.Scales.{stored_scale}
use Rattle.view_judge.specs.Judging.{views_cost}
use Rattle.verify_cmd.specs.Verified.{AsksTwice, judgement_cost, part_in}
use Rattle.verify_cmd.specs.Verifying.{part_cost}

-- numbers
most : (was now a b : ℕ) → now ≤ was + a → a ≤ b → now ≤ was + b
most was now a b h l = omega arith

nothing_more : (was a : ℕ) → was ≤ was + a
nothing_more was a = omega arith

at_most_twice : (was now a : ℕ) → now ≤ was + a → now ≤ was + 2 * a
at_most_twice was now a h = omega arith

twice : (was between now a : ℕ) → between ≤ was + a → now ≤ between + a → now ≤ was + 2 * a
twice was between now a h k = omega arith

between_equals : (a b c d : ℕ) → a ≡ b → b ≤ c → d ≡ c → a ≤ d
between_equals a b c d e h k = omega arith

-- an index costs what the search of a cell in it does, which costs no more than the cell
search_within : (o : Option Sharding) (s : Scale) (cell : Cell) (object : Option Bytes) → search_by o s cell object ≤ cost_by o s cell object
search_within None s cell object = omega arith
search_within (Some sharding) s cell None = omega arith
search_within (Some sharding) s cell (Some object) = omega arith

same_rows : (sharding : Sharding) (s : Scale) (cell : Cell) (object : Option Bytes) → index_cost object sharding (minishard_of sharding (id_of s cell)) ≡ rows_of sharding s cell object
same_rows sharding s cell None = refl
same_rows sharding s cell (Some object) = refl

index_within : (m : Objects) (dataset : Name) (s : Scale) (cell : Cell) (sharding : Sharding) (shard k id : ℕ) → s.sharding ≡ Some sharding → shard ≡ shard_of sharding id → k ≡ minishard_of sharding id → id ≡ id_of s cell
    → index_cost (fin.get m (shard_name dataset s shard)) sharding k ≤ cell_cost m dataset s cell
index_within m dataset s cell sharding shard k id e es ek ei =
    between_equals _ _ _ _
    (ap (λ x. index_cost (fin.get m (shard_name dataset s x)) sharding k) es
    ∙ ap (λ x. index_cost (fin.get m (shard_name dataset s (shard_of sharding id))) sharding x) ek
    ∙ ap (λ x. index_cost (fin.get m (shard_name dataset s (shard_of sharding x))) sharding (minishard_of sharding x)) ei
    ∙ same_rows sharding s cell (fin.get m (shard_name dataset s (shard_of sharding (id_of s cell)))))
    (search_within (Some sharding) s cell (fin.get m (shard_name dataset s (shard_of sharding (id_of s cell)))))
    (ap (λ o. cost_by o s cell (fin.get m (object_by o dataset s cell))) e)

pub asked_index : (o : Option Objects) (dataset : Name) (s : Scale) (cell : Cell) (sharding : Sharding) (shard k id was now : ℕ) → s.sharding ≡ Some sharding → shard ≡ shard_of sharding id → k ≡ minishard_of sharding id → id ≡ id_of s cell
    → IfSome o (λ m. now ≤ was + index_cost (fin.get m (shard_name dataset s shard)) sharding k) → IfSome o (λ m. now ≤ was + cell_cost m dataset s cell)
asked_index o dataset s cell sharding shard k id was now e es ek ei h =
    in_told o _ (λ m told. most was now _ _ (from_told o _ m told h) (index_within m dataset s cell sharding shard k id e es ek ei))

pub asked_own : (o : Option Objects) (dataset : Name) (s : Scale) (cell : Cell) (was : ℕ) → IfSome o (λ m. was ≤ was + cell_cost m dataset s cell)
asked_own o dataset s cell was = in_told o _ (λ m told. nothing_more was _)

-- a cell: its index, and then its chunk
pub asked_first : (o : Option Objects) (dataset : Name) (s : Scale) (cell : Cell) (was now : ℕ) → IfSome o (λ m. now ≤ was + cell_cost m dataset s cell) → IfSome o (λ m. now ≤ was + 2 * cell_cost m dataset s cell)
asked_first o dataset s cell was now h = in_told o _ (λ m told. at_most_twice was now _ (from_told o _ m told h))

pub asked_both : (o same : Option Objects) (dataset : Name) (s : Scale) (cell : Cell) (was between now : ℕ) → same ≡ o → IfSome o (λ m. between ≤ was + cell_cost m dataset s cell) → IfSome same (λ m. now ≤ between + cell_cost m dataset s cell)
    → IfSome o (λ m. now ≤ was + 2 * cell_cost m dataset s cell)
asked_both o same dataset s cell was between now e h k = in_told o _ (λ m told. twice was between now _ (from_told o _ m told h) (from_told same _ m (e ∙ told) k))

-- a walk over cells
pub asked_none : (o : Option Objects) (dataset : Name) (s : Scale) (begin : ℕ) → IfSome o (λ m. begin ≤ begin + 2 * costs m dataset s [])
asked_none o dataset s begin = in_told o _ (λ m told. nothing_more begin _)

pub asked_more : (o same : Option Objects) (dataset : Name) (s : Scale) (cells : List Cell) (cell : Cell) (begin was now : ℕ) → same ≡ o
    → IfSome o (λ m. was ≤ begin + 2 * costs m dataset s cells) → IfSome same (λ m. now ≤ was + 2 * cell_cost m dataset s cell) → IfSome o (λ m. now ≤ begin + 2 * costs m dataset s (cells ++ cell ∷ []))
asked_more o same dataset s cells cell begin was now e h one =
    in_told o _ (λ m told.
    let so_far = from_told o _ m told h in
    let more = from_told same _ m (e ∙ told) one in
    let sum = costs-one m dataset s cells cell in
    omega (arith, so_far, more, sum))

pub asked_all : (o : Option Objects) (dataset : Name) (s : Scale) (part : Box3) (cells rest : List Cell) (begin now : ℕ) → cells ++ rest ≡ cells_in s part
    → IfSome o (λ m. now ≤ begin + 2 * costs m dataset s cells) → IfSome o (λ m. now ≤ begin + 2 * cost m dataset s part)
asked_all o dataset s part cells rest begin now is h =
    in_told o _ (λ m told.
    let so_far = from_told o _ m told h in
    let front = costs-front m dataset s part cells rest is in
    omega (arith, so_far, front))

pub asked_next : (o same : Option Objects) (dataset : Name) (s : Scale) (part : Box3) (cells left rest : List Cell) (cell : Cell) (begin was now : ℕ) → same ≡ o → left ≡ cell ∷ rest → cells ++ left ≡ cells_in s part
    → IfSome o (λ m. was ≤ begin + 2 * costs m dataset s cells) → IfSome same (λ m. now ≤ was + 2 * cell_cost m dataset s cell) → IfSome o (λ m. now ≤ begin + 2 * cost m dataset s part)
asked_next o same dataset s part cells left rest cell begin was now e first is h one =
    in_told o _ (λ m told.
    let so_far = from_told o _ m told h in
    let more = from_told same _ m (e ∙ told) one in
    let next = costs-next m dataset s part cells left rest cell first is in
    omega (arith, so_far, more, next))

-- the first view alone, and all views
pub asked_cells : (o : Option Objects) (dataset : Name) (s : Scale) (part : Box3) (was now : ℕ) → IfSome o (λ m. now ≤ was + 2 * cost m dataset s part) → IfSome o (λ m. now ≤ was + part_cost m dataset s part)
asked_cells o dataset s part was now h = in_told o _ (λ m told. most was now _ _ (from_told o _ m told h) (nothing_more (2 * cost m dataset s part) (views_cost m dataset s part)))

more : (was between now a b : ℕ) → between ≤ was + a → now ≤ between + b → now ≤ was + (a + b)
more was between now a b h k = omega arith

pub asked_views : (o same : Option Objects) (dataset d : Name) (s t : Scale) (part : Box3) (was between now : ℕ) → same ≡ o → d ≡ dataset → t ≡ s → IfSome o (λ m. between ≤ was + 2 * cost m dataset s part)
    → IfSome same (λ m. now ≤ between + views_cost m d t part) → IfSome o (λ m. now ≤ was + part_cost m dataset s part)
asked_views o same dataset d s t part was between now e of_dataset of_scale h k =
    in_told o _ (λ m told.
    let own : now ≤ between + views_cost m dataset s part = subst (λ x. now ≤ between + views_cost m x s part) of_dataset (subst (λ x. now ≤ between + views_cost m d x part) of_scale (from_told same _ m (e ∙ told) k)) in
    more was between now _ _ (from_told o _ m told h) own)

-- a part that is chosen
pub asked_part : (o : Option Objects) (dataset : Name) (s : Scale) (chosen : Box3) (part : Option Box3) (was now : ℕ) → chosen ≡ part_in s part → IfSome o (λ m. now ≤ was + part_cost m dataset s chosen)
    → IfSome o (λ m. now ≤ was + part_cost m dataset s (part_in s part))
asked_part o dataset s chosen part was now is h = subst (λ b. IfSome o (λ m. now ≤ was + part_cost m dataset s b)) is h

-- the info document alone
pub asks_info : (o : Option Objects) (dataset key : Name) (part : Option Box3) (old new : ℕ) → new ≤ old + (2 ^ 20 + 1) → IfSome o (λ m. AsksTwice m dataset key part old new)
asks_info o dataset key part old new h = in_told o _ (λ m told. omega (arith, h))

-- and the cells
pub asks_cells : (o same : Option Objects) (dataset key : Name) (s : Scale) (part : Option Box3) (old read new : ℕ) → same ≡ o → IfSome o (λ m. stored_scale m dataset key ≡ Ok s) → read ≤ old + (2 ^ 20 + 1)
    → IfSome same (λ m. new ≤ read + part_cost m dataset s (part_in s part)) → IfSome o (λ m. AsksTwice m dataset key part old new)
asks_cells o same dataset key s part old read new e is h cells =
    in_told o _ (λ m told.
    let more = from_told same _ m (e ∙ told) cells in
    let costs_so : judgement_cost (stored_scale m dataset key) m dataset part ≡ part_cost m dataset s (part_in s part) = ap (λ found. judgement_cost found m dataset part) (from_told o _ m told is) in
    omega (arith, h, more, costs_so))
