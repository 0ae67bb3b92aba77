use Rattle.std.proofs.Common.{ap, ◌∙◌, sym, length}
use Rattle.equal_values.specs.Chains.{spread}
use Rattle.equal_values.specs.Hashes.{hashed}
use Rattle.equal_values.proofs.Firsts.{eq_is}
use Rattle.equal_values.proofs.Walks.{found_is}
use Rattle.equal_values.proofs.search.find_position.Goals as goal

pub find_equal-requires-clause-shared : goal.find_equal-requires-clause-shared
find_equal-requires-clause-shared c = λ j e. ap (λ v. spread (hashed v) (length c.args.heads.now)) (eq_is _ _ e) ∙ sym c.requires.home

pub returns : goal.returns
returns c = found_is c.args.moved.now c.args.a c.find_equal.result c.find_equal.ensures
