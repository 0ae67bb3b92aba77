use Rattle.std.proofs.Common.{◌≡◌, ◌≤◌, ◌∙◌, ◌++◌, ap, min, length, take, drop, rules, arith}
use Rattle.std.proofs.lemmas.List.{places}
use Rattle.pipes.specs.Left.{left_of}
use Rattle.pipes.proofs.AheadSteps.{left_on, written_whole}
use Rattle.pipes.proofs.ahead.Ahead.read_on.Goals as goal

pub returns-clause-left : goal.returns-clause-left
returns-clause-left g c =
    let e = c.in_ok-self-inside.ensures in
    let before = g.P.PipeIn.coming c.args.pipe.now in
    let now = g.P.PipeIn.coming c.read_some-2.new.pipe in
    let vec = c.if-is_empty.self-inside.bytes in
    let buffer = c.read_some-2.new.out in
    let m = c.in_ok-self-inside.field-0 in
    let n = c.hand_on.result in
    let long : length buffer ≡ vec.len = search (rules, places) in
    let held : take vec.len (buffer ++ drop (length buffer) vec.items) ≡ buffer = written_whole vec.len buffer vec.items long in
    let count : n ≡ min (length (take m buffer)) (length c.args.out.now) = c.hand_on.ensures.count ∙ ap (λ l. min (length (take m l)) (length c.args.out.now)) held in
    let few : n ≤ length (take m buffer) = omega (arith, count) in
    let rest : c.hand_on.new.self ≡ drop n (take m buffer) = c.hand_on.ensures.rest ∙ ap (λ l. drop n (take m l)) held in
    ap (λ a. left_of a now) rest ∙ ap (left_of (drop n (take m buffer))) e.taken ∙ left_on before buffer m n e.read few
