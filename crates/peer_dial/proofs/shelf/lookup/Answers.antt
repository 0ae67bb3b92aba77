use Rattle.std.proofs.Common.{◌≡◌, true, false, Some, ap, sym, ◌∙◌, arith}
use Rattle.std.specs.Str.{bytes_eq}
use Rattle.peer_dial.specs.ShelfLaws.{found_first, missed_first, none_left}
use Rattle.peer_dial.proofs.shelf.lookup.Goals as goal

pub returns-then-eq : goal.returns-then-eq
returns-then-eq c =
    let e : bytes_eq c.args.name.now c.first-item.result.name ≡ true = cc (c.if-eq.true, c.eq.ensures) in
    ap Some c.deref.ensures.value ∙ sym (found_first c.loop-rest.rest.now c.first-item.result c.args.name.now (omega arith) c.first-item.is e) ∙ c.loop-rest.invariant

pub loop-rest-preserved : goal.loop-rest-preserved
loop-rest-preserved c =
    let e : bytes_eq c.args.name.now c.first-item.result.name ≡ false = cc (c.if-eq.false, c.eq.ensures) in
    missed_first c.loop-rest.rest.now c.first-item.result c.args.name.now _ (omega arith) c.first-item.is e (omega arith) ∙ c.loop-rest.invariant

pub returns : goal.returns
returns c = sym (none_left c.loop-rest.rest.now c.args.name.now (omega arith)) ∙ c.loop-rest.invariant
