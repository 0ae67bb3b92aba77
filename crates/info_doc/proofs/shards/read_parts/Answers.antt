use Rattle.std.proofs.Common.{Some}
use Rattle.serde_json.specs.View.{view}
use Rattle.info_doc.proofs.Judging.{judged_value}
use Rattle.info_doc.proofs.Parts.{no_parts_fault, parts_made}
use Rattle.info_doc.proofs.shards.read_parts.Goals as goal

pub returns : goal.returns
returns c =
    let object = judged_value _ _ _ c.in_ok-check_object.ensures in
    let kind = judged_value _ _ _ c.in_ok-check_type.ensures in
    let preshift = judged_value _ _ _ c.in_ok-preshift.ensures.bits in
    let hash = judged_value _ _ _ c.in_ok-hash.ensures in
    let minishard = judged_value _ _ _ c.in_ok-minishard_bits.ensures.bits in
    let shard = judged_value _ _ _ c.in_ok-shard_bits.ensures.bits in
    let index = judged_value _ _ _ c.in_ok-check_encoding.ensures in
    let inner = judged_value _ _ _ c.in_ok-check_encoding-2.ensures in
    let none = no_parts_fault (Some (view c.args.sharding.now)) object.0 kind.0 preshift.0 hash.0 minishard.0 (rw minishard.1 at shard.0) index.0 inner.0 in
    parts_made (Some (view c.args.sharding.now)) _ none preshift.1 hash.1 minishard.1 shard.1
