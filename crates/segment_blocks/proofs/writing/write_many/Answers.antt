use Rattle.std.proofs.Common.{arith, ◌≡◌, ◌^◌, ◌<◌, ◌≤◌, sym, subst, ℕ, length, slice_index, take, length-take}
use Rattle.vol_spec.specs.SegBlocks.{width}
use Rattle.vol_spec.specs.SegShapes.{sizes_of}
use Rattle.vol_spec.specs.SegWritten.{bits_for}
use Rattle.segment_blocks.proofs.Limits.{bits_enough}
use Rattle.segment_blocks.proofs.Places.{IsRising}
use Rattle.segment_blocks.proofs.Shapes.{facts, limits}
use Rattle.segment_blocks.proofs.Tabulated.{table_narrow, table_rises}
use Rattle.segment_blocks.proofs.writing.write_many.Goals as goal

pub put_places-indices-requires-clause-rises : goal.put_places-indices-requires-clause-rises
put_places-indices-requires-clause-rises c = subst IsRising (sym c.tabulate-count.ensures.table) (table_rises (sizes_of c.args.shape.now) c.args.raw.now c.args.c c.args.k)

pub put_places-indices-requires-clause-few : goal.put_places-indices-requires-clause-few
put_places-indices-requires-clause-few c =
    let n : ℕ = c.tabulate-count.result in
    let f = facts (sizes_of c.args.shape.now) (limits c.args.shape.now) in
    let len : length (take n c.tabulate-count.new.table) ≡ n = omega (arith, length-take n c.tabulate-count.new.table, c.tabulate-count.ensures.within, c.tabulate-count.auto.table) in
    let e : n ≤ 2 ^ bits_for n = bits_enough n (omega (arith, c.tabulate-count.ensures.within, c.requires.table, f.voxels)) in
    subst (λ q. length (take n c.tabulate-count.new.table) ≤ 2 ^ q) (sym c.find_bits.ensures) (omega (arith, len, e))

pub put_places-indices-requires-clause-small : goal.put_places-indices-requires-clause-small
put_places-indices-requires-clause-small c =
    let f = facts (sizes_of c.args.shape.now) (limits c.args.shape.now) in
    omega (arith, c.tabulate-count.auto.voxels, c.requires.voxels, f.voxels)

pub put_values-requires-clause-fits : goal.put_values-requires-clause-fits
put_values-requires-clause-fits c = subst (λ t. (i : ℕ) → i < length t → slice_index t i < 256 ^ width (sizes_of c.args.shape.now)) (sym c.tabulate-count.ensures.table) (table_narrow (sizes_of c.args.shape.now) c.args.raw.now c.args.c c.args.k (λ i. omega (arith, c.type_inv.raw i)))
