use Rattle.std.proofs.Common.{codes}
use Rattle.serde_json.specs.Find.{get}
use Rattle.serde_json.specs.View.{view}
use Rattle.info_doc.specs.Steps.{is_sharded}
use Rattle.info_doc.proofs.ShapeSteps.{are_listed, shape_made}
use Rattle.info_doc.proofs.shape.read_shape.Goals as goal

pub find_first-requires-clause-some : goal.find_first-requires-clause-some
find_first-requires-clause-some c = (are_listed (is_sharded (get (codes "sharding") (view c.args.scale.now))) (get (codes "chunk_sizes") (view c.args.scale.now)) c.in_ok-chunks.chunks.now c.in_ok-chunks.ensures).some

pub find_first-requires-clause-triples : goal.find_first-requires-clause-triples
find_first-requires-clause-triples c = (are_listed (is_sharded (get (codes "sharding") (view c.args.scale.now))) (get (codes "chunk_sizes") (view c.args.scale.now)) c.in_ok-chunks.chunks.now c.in_ok-chunks.ensures).triples

pub find_more-requires-clause-some : goal.find_more-requires-clause-some
find_more-requires-clause-some c = (are_listed (is_sharded (get (codes "sharding") (view c.args.scale.now))) (get (codes "chunk_sizes") (view c.args.scale.now)) c.in_ok-chunks.chunks.now c.in_ok-chunks.ensures).some

pub find_more-requires-clause-few : goal.find_more-requires-clause-few
find_more-requires-clause-few c = (are_listed (is_sharded (get (codes "sharding") (view c.args.scale.now))) (get (codes "chunk_sizes") (view c.args.scale.now)) c.in_ok-chunks.chunks.now c.in_ok-chunks.ensures).few

pub find_more-requires-clause-triples : goal.find_more-requires-clause-triples
find_more-requires-clause-triples c = (are_listed (is_sharded (get (codes "sharding") (view c.args.scale.now))) (get (codes "chunk_sizes") (view c.args.scale.now)) c.in_ok-chunks.chunks.now c.in_ok-chunks.ensures).triples

pub returns : goal.returns
returns c =
    shape_made (view c.args.scale.now) c.in_ok-size.size c.in_ok-offset.offset c.find_first.result c.find_more.result c.in_ok-chunks.chunks.now
    c.in_ok-size.ensures c.in_ok-offset.ensures c.in_ok-chunks.ensures c.in_ok-check_resolution.ensures c.find_first.ensures c.find_more.ensures
