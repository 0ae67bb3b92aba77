use Rattle.std.proofs.Common.{IfSome, subst}
use Rattle.generate_cmd.specs.Generating.{SumsScale}
use Rattle.generate_cmd.proofs.generate.sum_scale.Goals as goal

pub returns-clause-sums : goal.returns-clause-sums
returns-clause-sums g c =
    subst (λ d. IfSome (g.S.Source.objects c.args.store.now) (λ m. SumsScale c.sum_whole.result m d c.args.stored.now.scale)) c.in_ok-reader.ensures.dataset c.sum_whole.ensures.sums
