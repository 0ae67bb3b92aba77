use Rattle.std.proofs.Common.{sym, subst, length, ◌≡◌}
use Rattle.std.specs.Prelude.{All}
use Rattle.vol_spec.specs.Limits.{FitsChunk}
use Rattle.vol_spec.proofs.scale.Scale.duplicate.Goals as goal

pub invariant_of-result-clause-more_ok : goal.invariant_of-result-clause-more_ok
invariant_of-result-clause-more_ok c = subst (All (FitsChunk c.args.self.now.width c.args.self.now.channels c.args.self.now.size c.args.self.now.encoding)) (sym c.duplicate-2.ensures) c.args.self.now.more_ok

pub invariant_of-result-clause-alone_ok : goal.invariant_of-result-clause-alone_ok
invariant_of-result-clause-alone_ok c = λ sharding is. subst (λ more. length more ≡ 0) (sym c.duplicate-2.ensures) (c.args.self.now.alone_ok sharding is)
