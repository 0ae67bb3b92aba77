use Rattle.std.proofs.Common.{rules}
use Rattle.cutout.proofs.FoundSteps.{search_told, span_found}
use Rattle.cutout.proofs.StoredSteps.{keeps_as, keeps_index}
use Rattle.cutout.proofs.found.find_span.Goals as goal

pub locate-requires-clause-keeps : goal.locate-requires-clause-keeps
locate-requires-clause-keeps g c = keeps_as (g.S.Source.objects c.args.store.now) c.args.origin.now.dataset c.args.origin.now.scale c.args.sharding.now c.args.shards.now c.requires.sharding c.requires.keeps

pub returns-clause-keeps : goal.returns-clause-keeps
returns-clause-keeps g c = keeps_index (g.S.Source.objects c.args.store.now) c.args.origin.now.dataset c.args.origin.now.scale c.args.sharding.now c.locate.new.self c.requires.sharding c.locate.ensures.keeps

pub returns-clause-found : goal.returns-clause-found
returns-clause-found g c =
    span_found (g.S.Source.objects c.args.store.now) c.args.origin.now.dataset c.args.origin.now.scale c.args.cell c.args.sharding.now c.chunk_limit-limit.result c.args.id c.locate.result c.requires.sharding
    c.chunk_limit-limit.ensures.limit c.requires.id c.locate.ensures.found

pub returns-clause-asks : goal.returns-clause-asks
returns-clause-asks g c = record {
  asked =
      search_told (g.S.Source.objects c.args.store.now) c.args.origin.now.dataset c.args.origin.now.scale c.args.cell c.args.sharding.now c.args.id (g.S.Source.asked c.args.store.now) (g.S.Source.asked c.locate.new.store) c.requires.sharding
      c.requires.id c.locate.ensures.asked;
  reads = search rules;
}
