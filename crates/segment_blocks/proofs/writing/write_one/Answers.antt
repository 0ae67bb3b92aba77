use Rattle.std.proofs.Common.{append-nil, arith, ◌≡◌, ◌+◌, ◌*◌, ◌^◌, ◌<◌, ◌∙◌, ◌++◌, ap, sym, subst, ℕ, length, slice_index, set, take}
use Rattle.std.specs.Prelude.{flat_map}
use Rattle.vol_spec.specs.BoxValues.{bytes_of}
use Rattle.vol_spec.specs.SegBlocks.{width}
use Rattle.vol_spec.specs.SegShapes.{sizes_of}
use Rattle.vol_spec.specs.SegSizes.{width_of}
use Rattle.vol_spec.specs.SegWritten.{table}
use Rattle.segment_blocks.proofs.Gathered.{put_next}
use Rattle.segment_blocks.proofs.Ones.{packed_none}
use Rattle.segment_blocks.proofs.Tabulated.{table_narrow}
use Rattle.segment_blocks.proofs.writing.write_one.Goals as goal

pub returns-clause-table : goal.returns-clause-table
returns-clause-table c = put_next c.args.table.now 0 c.args.value c.requires.table ∙ sym c.requires.one

pub put_values-requires-clause-fits : goal.put_values-requires-clause-fits
put_values-requires-clause-fits c =
    let is : take 1 (set c.args.table.now 0 c.args.value) ≡ table (sizes_of c.args.shape.now) c.args._raw.now c.args._c c.args._k = put_next c.args.table.now 0 c.args.value c.requires.table ∙ sym c.requires.one in
    subst (λ t. (i : ℕ) → i < length t → slice_index t i < 256 ^ width (sizes_of c.args.shape.now)) (sym is) (table_narrow (sizes_of c.args.shape.now) c.args._raw.now c.args._c c.args._k (λ i. omega (arith, c.type_inv._raw i)))

pub returns-clause-bytes : goal.returns-clause-bytes
returns-clause-bytes c =
    let s = sizes_of c.args.shape.now in
    let w : ℕ = width_of c.args.shape.now.wide in
    let front = put_next c.args.table.now 0 c.args.value c.requires.table in
    let len : length (take 1 (set c.args.table.now 0 c.args.value)) ≡ 1 = ap length front in
    let is : take 1 (set c.args.table.now 0 c.args.value) ≡ table s c.args._raw.now c.args._c c.args._k = front ∙ sym c.requires.one in
    ap (λ q. take (c.args.at + w * q) c.put_values.new.out) (sym len) ∙ c.put_values.ensures
    ∙ ap (λ q. take c.args.at c.args.out.now ++ flat_map (bytes_of w) q) is
    ∙ ap (λ q. q ++ flat_map (bytes_of w) (table s c.args._raw.now c.args._c c.args._k)) (sym (append-nil (take c.args.at c.args.out.now)))
    ∙ ap (λ q. take c.args.at c.args.out.now ++ q ++ flat_map (bytes_of w) (table s c.args._raw.now c.args._c c.args._k)) (sym (packed_none s c.args._raw.now c.args._c c.args._k c.args.value c.requires.one))
