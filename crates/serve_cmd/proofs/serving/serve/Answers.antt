use Rattle.std.proofs.Common.{rules}
use Rattle.range_server.specs.declared.fault.DoorRefusal.TheVariants as refusal
use Rattle.serve_cmd.proofs.ServeSteps.{all_shown, ends_noted, some_given, some_shown, told_first}
use Rattle.serve_cmd.specs.Servings.{doorway, TellsPort}
use Rattle.serve_cmd.proofs.serving.serve.Goals as goal

pub returns-in-Ok-clause-shows : goal.returns-in-Ok-clause-shows
returns-in-Ok-clause-shows g c =
    all_shown (g.S.Source.objects c.args.store.now) c.args.dataset.now (doorway g.D.Door.bound g.D.Door.accepted g.D.Door.served c.args.door.now)
    (doorway g.D.Door.bound g.D.Door.accepted g.D.Door.served c.announce.new.door) (doorway g.D.Door.bound g.D.Door.accepted g.D.Door.served c.serve_ends.new.door)
    (g.S.Source.faults c.args.store.now) (g.S.Source.faults c.serve_ends.new.store) c.announce.ensures.served c.announce.ensures.accepted c.tell_replies.ensures.few c.from.result c.in-Ok.ensures.served

pub returns-in-Err-DoorFault-clause-shows : goal.returns-in-Err-DoorFault-clause-shows
returns-in-Err-DoorFault-clause-shows g c =
    some_shown (g.S.Source.objects c.args.store.now) c.args.dataset.now (doorway g.D.Door.bound g.D.Door.accepted g.D.Door.served c.args.door.now)
    (doorway g.D.Door.bound g.D.Door.accepted g.D.Door.served c.announce.new.door) (doorway g.D.Door.bound g.D.Door.accepted g.D.Door.served c.serve_ends.new.door)
    (g.S.Source.faults c.args.store.now) (g.S.Source.faults c.serve_ends.new.store) c.announce.ensures.served c.announce.ensures.accepted c.tell_replies.ensures.few c.in-Err-DoorFault.field-0 refusal.DoorFault c.from.result c.in-Err-DoorFault.field-0-is
    c.in-Err-DoorFault.ensures.cut

pub returns-in-Err-DoorFault-clause-given : goal.returns-in-Err-DoorFault-clause-given
returns-in-Err-DoorFault-clause-given g c =
    let before = doorway g.D.Door.bound g.D.Door.accepted g.D.Door.served c.args.door.now in
    let after = doorway g.D.Door.bound g.D.Door.accepted g.D.Door.served c.serve_ends.new.door in
    some_given (g.S.Source.objects c.args.store.now) c.args.dataset.now before (doorway g.D.Door.bound g.D.Door.accepted g.D.Door.served c.announce.new.door) after
    (g.S.Source.faults c.args.store.now) (g.S.Source.faults c.serve_ends.new.store) c.announce.ensures.served c.announce.ensures.accepted c.in-Err-DoorFault.field-0 refusal.DoorFault c.args.connections c.from.result
    c.in-Err-DoorFault.field-0-is c.from.ensures c.in-Err-DoorFault.ensures.refused

pub returns-in-Err-OutOfMemory-clause-shows : goal.returns-in-Err-OutOfMemory-clause-shows
returns-in-Err-OutOfMemory-clause-shows g c =
    some_shown (g.S.Source.objects c.args.store.now) c.args.dataset.now (doorway g.D.Door.bound g.D.Door.accepted g.D.Door.served c.args.door.now)
    (doorway g.D.Door.bound g.D.Door.accepted g.D.Door.served c.announce.new.door) (doorway g.D.Door.bound g.D.Door.accepted g.D.Door.served c.serve_ends.new.door)
    (g.S.Source.faults c.args.store.now) (g.S.Source.faults c.serve_ends.new.store) c.announce.ensures.served c.announce.ensures.accepted c.tell_replies.ensures.few c.in-Err-OutOfMemory.field-0 refusal.OutOfMemory c.from.result c.in-Err-OutOfMemory.field-0-is
    c.in-Err-OutOfMemory.ensures.cut

pub returns-in-Err-OutOfMemory-clause-given : goal.returns-in-Err-OutOfMemory-clause-given
returns-in-Err-OutOfMemory-clause-given g c =
    let before = doorway g.D.Door.bound g.D.Door.accepted g.D.Door.served c.args.door.now in
    let after = doorway g.D.Door.bound g.D.Door.accepted g.D.Door.served c.serve_ends.new.door in
    some_given (g.S.Source.objects c.args.store.now) c.args.dataset.now before (doorway g.D.Door.bound g.D.Door.accepted g.D.Door.served c.announce.new.door) after
    (g.S.Source.faults c.args.store.now) (g.S.Source.faults c.serve_ends.new.store) c.announce.ensures.served c.announce.ensures.accepted c.in-Err-OutOfMemory.field-0 refusal.OutOfMemory c.args.connections c.from.result
    c.in-Err-OutOfMemory.field-0-is c.from.ensures c.in-Err-OutOfMemory.ensures.refused

pub returns-in-Ok-clause-first : goal.returns-in-Ok-clause-first
returns-in-Ok-clause-first g c =
    let told : TellsPort (g.D.Door.bound c.announce.new.door) (g.O.Outlet.written c.args.out.now) (g.O.Outlet.written c.announce.new.out) = search rules in
    told_first (g.D.Door.bound c.announce.new.door) (g.O.Outlet.written c.args.out.now) (g.O.Outlet.written c.announce.new.out)
    (doorway g.D.Door.bound g.D.Door.accepted g.D.Door.served c.args.door.now) (doorway g.D.Door.bound g.D.Door.accepted g.D.Door.served c.serve_ends.new.door) told

pub returns-in-Err-DoorFault-clause-first : goal.returns-in-Err-DoorFault-clause-first
returns-in-Err-DoorFault-clause-first g c =
    let told : TellsPort (g.D.Door.bound c.announce.new.door) (g.O.Outlet.written c.args.out.now) (g.O.Outlet.written c.announce.new.out) = search rules in
    told_first (g.D.Door.bound c.announce.new.door) (g.O.Outlet.written c.args.out.now) (g.O.Outlet.written c.announce.new.out)
    (doorway g.D.Door.bound g.D.Door.accepted g.D.Door.served c.args.door.now) (doorway g.D.Door.bound g.D.Door.accepted g.D.Door.served c.serve_ends.new.door) told

pub returns-in-Err-OutOfMemory-clause-first : goal.returns-in-Err-OutOfMemory-clause-first
returns-in-Err-OutOfMemory-clause-first g c =
    let told : TellsPort (g.D.Door.bound c.announce.new.door) (g.O.Outlet.written c.args.out.now) (g.O.Outlet.written c.announce.new.out) = search rules in
    told_first (g.D.Door.bound c.announce.new.door) (g.O.Outlet.written c.args.out.now) (g.O.Outlet.written c.announce.new.out)
    (doorway g.D.Door.bound g.D.Door.accepted g.D.Door.served c.args.door.now) (doorway g.D.Door.bound g.D.Door.accepted g.D.Door.served c.serve_ends.new.door) told

pub returns-in-Ok-clause-noted : goal.returns-in-Ok-clause-noted
returns-in-Ok-clause-noted g c =
    ends_noted (g.S.Source.objects c.args.store.now) c.args.dataset.now (doorway g.D.Door.bound g.D.Door.accepted g.D.Door.served c.args.door.now)
    (doorway g.D.Door.bound g.D.Door.accepted g.D.Door.served c.announce.new.door) (doorway g.D.Door.bound g.D.Door.accepted g.D.Door.served c.serve_ends.new.door)
    (g.S.Source.faults c.args.store.now) (g.S.Source.faults c.serve_ends.new.store) c.announce.ensures.served c.announce.ensures.accepted c.serve_ends.ensures.noted

pub returns-in-Err-DoorFault-clause-noted : goal.returns-in-Err-DoorFault-clause-noted
returns-in-Err-DoorFault-clause-noted g c =
    ends_noted (g.S.Source.objects c.args.store.now) c.args.dataset.now (doorway g.D.Door.bound g.D.Door.accepted g.D.Door.served c.args.door.now)
    (doorway g.D.Door.bound g.D.Door.accepted g.D.Door.served c.announce.new.door) (doorway g.D.Door.bound g.D.Door.accepted g.D.Door.served c.serve_ends.new.door)
    (g.S.Source.faults c.args.store.now) (g.S.Source.faults c.serve_ends.new.store) c.announce.ensures.served c.announce.ensures.accepted c.serve_ends.ensures.noted

pub returns-in-Err-OutOfMemory-clause-noted : goal.returns-in-Err-OutOfMemory-clause-noted
returns-in-Err-OutOfMemory-clause-noted g c =
    ends_noted (g.S.Source.objects c.args.store.now) c.args.dataset.now (doorway g.D.Door.bound g.D.Door.accepted g.D.Door.served c.args.door.now)
    (doorway g.D.Door.bound g.D.Door.accepted g.D.Door.served c.announce.new.door) (doorway g.D.Door.bound g.D.Door.accepted g.D.Door.served c.serve_ends.new.door)
    (g.S.Source.faults c.args.store.now) (g.S.Source.faults c.serve_ends.new.store) c.announce.ensures.served c.announce.ensures.accepted c.serve_ends.ensures.noted
