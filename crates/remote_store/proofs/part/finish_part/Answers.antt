use Rattle.std.proofs.Common.{◌≡◌, ◌-◌, take, drop, length, length-drop, refl, arith}
use Rattle.remote_store.proofs.HeardParts.{finished_front, part_room, take_whole}
use Rattle.remote_store.proofs.part.finish_part.Goals as goal

pub end_part-requires-clause-fits : goal.end_part-requires-clause-fits
end_part-requires-clause-fits g c = part_room c.requires.begun.heard

pub returns-clause-finished : goal.returns-clause-finished
returns-clause-finished g c =
    let p = c.end_part.ensures.passed in
    let first = c.args.first.now in
    let head = c.args.begun.head in
    let front = take (length first - head) (drop head first) in
    let fr : front ≡ drop head first = take_whole (length first - head) (drop head first) (omega (arith, length-drop head first)) in
    (p.0, finished_front p.0 front fr c.requires.begun c.requires.few p.1 refl p.2)
