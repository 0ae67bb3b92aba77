use Rattle.std.proofs.Common.{arith, slice_index_or, ◌^◌, ◌-◌}
use Rattle.voxel_raw.proofs.Products.{chain}
use Rattle.voxel_raw.proofs.length.count_bytes.Goals as goal

pub overflow_mul-result : goal.overflow_mul-result
overflow_mul-result c =
    let all = chain (slice_index_or c.args.part.now.size 0 0) (slice_index_or c.args.part.now.size 1 0) (slice_index_or c.args.part.now.size 2 0) c.args.channels c.args.width (2 ^ 64 - 1) (omega arith) (omega arith) (omega arith) (omega arith) (omega arith) in
    omega (arith, all.1)

pub overflow_mul-result-2 : goal.overflow_mul-result-2
overflow_mul-result-2 c =
    let all = chain (slice_index_or c.args.part.now.size 0 0) (slice_index_or c.args.part.now.size 1 0) (slice_index_or c.args.part.now.size 2 0) c.args.channels c.args.width (2 ^ 64 - 1) (omega arith) (omega arith) (omega arith) (omega arith) (omega arith) in
    omega (arith, all.2)

pub overflow_mul-result-3 : goal.overflow_mul-result-3
overflow_mul-result-3 c =
    let all = chain (slice_index_or c.args.part.now.size 0 0) (slice_index_or c.args.part.now.size 1 0) (slice_index_or c.args.part.now.size 2 0) c.args.channels c.args.width (2 ^ 64 - 1) (omega arith) (omega arith) (omega arith) (omega arith) (omega arith) in
    omega (arith, all.3)
