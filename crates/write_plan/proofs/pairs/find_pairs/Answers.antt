use Rattle.std.proofs.Common.{◌≡◌, ◌++◌, ◌∙◌, ap, sym, take, arith, rules}
use Rattle.std.proofs.lemmas.List.{length-map, take_all}
use Rattle.std.proofs.lemmas.List.Sorted.{IsNonDecreasingBy-from_sort_by_key, answers_always}
use Rattle.write_plan.specs.Pairs.{pairs_from, pairs_of}
use Rattle.write_plan.specs.WriteLists.{writes_in, write_in}
use Rattle.write_plan.specs.declared.pairs.Pair.{Pair}
use Rattle.write_plan.proofs.RunSteps.{pairs_next, pairs_sorted}
use Rattle.write_plan.proofs.SizeSteps.{write_of}
use Rattle.write_plan.proofs.pairs.find_pairs.Goals as goal

pub push_pairs-requires : goal.push_pairs-requires
push_pairs-requires c = (write_of c.args.scale.now c.args.writes.now c.loop-number.number c.index-writes-number.result c.requires.writes.each (omega arith) c.index-writes-number.is).inside

pub loop-number-preserved : goal.loop-number-preserved
loop-number-preserved c =
    let inv : c.loop-number.pairs.items ≡ pairs_from c.args.scale.now 0 (take c.loop-number.number (writes_in c.args.writes.now)) = c.loop-number.invariant in
    c.in_ok-push_pairs.ensures ∙ ap (λ ps. ps ++ pairs_of c.args.scale.now c.loop-number.number c.index-writes-number.result.part) inv
    ∙ sym (pairs_next c.args.scale.now c.args.writes.now c.loop-number.number c.index-writes-number.result (omega arith) c.index-writes-number.is)

pub returns : goal.returns
returns c =
    let inv : c.loop-number.pairs.items ≡ pairs_from c.args.scale.now 0 (take c.loop-number.number (writes_in c.args.writes.now)) = c.loop-number.invariant in
    let all = inv ∙ ap (pairs_from c.args.scale.now 0) (take_all c.loop-number.number (writes_in c.args.writes.now) (omega (arith, length-map c.args.writes.now write_in))) in
    pairs_sorted c.args.scale.now (writes_in c.args.writes.now) c.loop-number.pairs.items c.sort_by_key.new.self.items all c.in_ok-sort_by_key.ensures.permutation
    (IsNonDecreasingBy-from_sort_by_key (λ (pair : Pair). pair.number) _ c.in_ok-sort_by_key.ensures.sorted (λ a r q k. search rules))
    (c.in_ok-sort_by_key.ensures.stable (λ (pair : Pair). pair.number) (answers_always _ _ _ (λ f a r g h. search rules)))
