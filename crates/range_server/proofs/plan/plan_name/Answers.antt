use Rattle.std.proofs.Common.{◌≡◌, length, IfSome, option_map, subst}
use Rattle.std.specs.FinMap as map
use Rattle.range_server.proofs.ReplySteps.{sized_body}
use Rattle.range_server.proofs.plan.plan_name.Goals as goal

pub returns-in-Ok-clause-body : goal.returns-in-Ok-clause-body
returns-in-Ok-clause-body g c = λ m told. sized_body m c.plan_size.result c.in-Some.name c.in-Ok.size c.plan_size.ensures.sound.fits c.plan_size.ensures.sized
    (subst (λ o. IfSome o (λ m. c.in-Ok.size ≡ option_map length (map.get m c.in-Some.name))) told c.in-Ok.ensures.found)
