use Rattle.std.proofs.Common.{◌≡◌, length, arith, ap}
use Rattle.shard_index.proofs.NameSteps.{told_text, short_text}
use Rattle.shard_index.proofs.names.name_file.Goals as goal

pub unreachable-requires : goal.unreachable-requires
unreachable-requires c =
    let told = told_text c.put_file.new.to c.args.number _ c.put_file.ensures (omega arith) in
    cc (c.new.ensures, told, c.in-None.is)

pub returns-clause-short : goal.returns-clause-short
returns-clause-short c =
    let told = told_text c.put_file.new.to c.args.number _ c.put_file.ensures (omega arith) in
    let e : c.in-Some.name ≡ c.put_file.new.to = cc (c.new.ensures, told, c.in-Some.is) in
    let short = short_text c.put_file.new.to c.args.number _ c.put_file.ensures (omega arith) in
    let same = ap length e in
    omega (arith, same, short)
