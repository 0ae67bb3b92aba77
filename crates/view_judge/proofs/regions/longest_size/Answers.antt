use Rattle.std.proofs.Common.{◌≡◌, ◌∙◌, ℕ, suc, List, ap, arith, sym}
use Rattle.vol_spec.specs.Views.{view}
use Rattle.vol_spec.specs.declared.scale.Scale.{Scale}
use Rattle.view_judge.specs.Regions.{longer, longest_of}
use Rattle.view_judge.proofs.regions.longest_size.Goals as goal

longest_more : (s v : Scale) (size : List ℕ) (k j : ℕ) → j ≡ suc k → v ≡ view s j → size ≡ longest_of s k → longer size v.chunk ≡ longest_of s j
unfolding view
longest_more s v size k j e is h = (λ i. longer (h i) ((is ∙ ap (view s) e) i).chunk) ∙ ap (longest_of s) (sym e)

pub loop-k-preserved : goal.loop-k-preserved
loop-k-preserved c = record { longest = c.longer_size-longest.ensures ∙ longest_more c.args.scale.now c.view.result c.loop-k.size c.loop-k.k _ (omega arith) c.view.ensures c.loop-k.invariant.longest }
