use Rattle.std.proofs.Common.{◌∙◌, Contains, IsTrue, ap, sym, subst}
use Rattle.std.specs.Option.{is_some}
use Rattle.index_judge.specs.Keys.{keys}
use Rattle.index_judge.proofs.KeySteps.{copied_some, found_key, promoted_key, same, same_exact}
use Rattle.index_judge.proofs.cache.was_judged.Goals as goal

pub returns-clause-found : goal.returns-clause-found
returns-clause-found c = λ t.
    found_key same same_exact c.args.judged.now.entries c.args.index (subst IsTrue (c.is_some.ensures ∙ sym (copied_some c.get.result) ∙ ap is_some c.get.ensures.value) t)

pub returns-clause-kept : goal.returns-clause-kept
returns-clause-kept c = λ i h. promoted_key same same_exact c.args.judged.now.entries c.args.index i (subst (λ k. Contains (keys k) i) c.get.follows.holds-at-none h)
