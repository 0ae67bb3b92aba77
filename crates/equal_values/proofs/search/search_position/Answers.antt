use Rattle.std.proofs.Common.{arith, refl, ap, ◌∙◌, sym, length}
use Rattle.equal_values.specs.Earlier.{coded}
use Rattle.equal_values.specs.Chains.{spread}
use Rattle.equal_values.specs.Members.{group_at, home_at, is_member}
use Rattle.equal_values.proofs.Firsts.{first_from_none, first_member, found_below, member_first, not_first}
use Rattle.equal_values.proofs.Homes.{home_below}
use Rattle.equal_values.proofs.Indexed.{skipped}
use Rattle.equal_values.proofs.Orderly.{ordered_none, ordered_some}
use Rattle.equal_values.proofs.search.search_position.Goals as goal

pub offset_bounds-order-b : goal.offset_bounds-order-b
offset_bounds-order-b c =
    let less = found_below c.args.moved.now c.args.a c.in-Some.b (sym c.find_position.ensures ∙ c.in-Some.is) in
    omega (arith, less, c.requires.here, c.requires.few)

pub bounds-order-b : goal.bounds-order-b
bounds-order-b c =
    let less = found_below c.args.moved.now c.args.a c.in-Some.b (sym c.find_position.ensures ∙ c.in-Some.is) in
    omega (arith, less, c.requires.here, c.requires.order_len)

pub overflow_add-result : goal.overflow_add-result
overflow_add-result c =
    let less = found_below c.args.moved.now c.args.a c.in-Some.b (sym c.find_position.ensures ∙ c.in-Some.is) in
    let small = c.requires.order.within c.in-Some.b (omega (arith, less, c.requires.here)) in
    omega (arith, small, c.requires.few)

pub returns-in-Some-clause-value : goal.returns-in-Some-clause-value
returns-in-Some-clause-value c =
    let found = sym c.find_position.ensures ∙ c.in-Some.is in
    ap coded (sym (ordered_some _ _ _ _ c.args.a c.in-Some.b c.requires.order c.requires.here found))

pub returns-in-Some-clause-index : goal.returns-in-Some-clause-index
returns-in-Some-clause-index c =
    let hash = home_at c.args.moved.now (length c.args.heads.now) in
    let never = not_first c.args.moved.now c.args.a c.in-Some.b (sym c.find_position.ensures ∙ c.in-Some.is) in
    let placed = is_member c.args.moved.now (group_at c.args.moved.now c.args.a) in
    skipped hash placed c.args.heads.now c.args.next.now c.args.a c.requires.index (λ t. never (member_first c.args.moved.now (group_at c.args.moved.now c.args.a) c.args.a t))

pub returns-in-None-clause-value : goal.returns-in-None-clause-value
returns-in-None-clause-value c =
    let found = sym c.find_position.ensures ∙ c.in-None.is in
    ap coded (sym (ordered_none _ _ _ _ c.args.a c.requires.order c.requires.here found))

pub returns-in-None-clause-index : goal.returns-in-None-clause-index
returns-in-None-clause-index c =
    let moved = c.args.moved.now in
    let heads = length c.args.heads.now in
    let group = group_at moved c.args.a in
    let first = first_from_none moved c.args.a (sym c.find_position.ensures ∙ c.in-None.is) in
    let here = sym (c.spread_hash-home.ensures.value ∙ ap (λ h. spread h heads) c.hash.ensures) in
    c.add.ensures (home_at moved heads) (is_member moved group) c.requires.index (λ j. home_below _ heads c.requires.some_heads) here (first_member moved group c.args.a refl first)
