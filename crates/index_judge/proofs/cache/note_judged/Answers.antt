use Rattle.std.proofs.Common.{Contains, inl, inr, subst}
use Rattle.index_judge.specs.Keys.{keys}
use Rattle.index_judge.proofs.KeySteps.{put_key, put_or_not, same, same_exact}
use Rattle.index_judge.proofs.cache.note_judged.Goals as goal

pub returns : goal.returns
returns c = λ i h. elim (put_or_not c.put-passed_over.result c.put-passed_over.new.self _ c.args.judged.now c.put-passed_over.ensures.entries c.put-passed_over.ensures.err) [
  | inl e ↦ put_key same same_exact c.args.judged.now c.args.index _ i (subst (λ k. Contains (keys k) i) e h)
  | inr e ↦ inl (subst (λ k. Contains (keys k) i) e h)
]
