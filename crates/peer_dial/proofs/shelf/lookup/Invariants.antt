use Rattle.std.proofs.Common.{◌≡◌, length}
use Rattle.std.specs.FinMap as map
use Rattle.peer_dial.specs.Shelves.{objects_on}
use Rattle.peer_dial.proofs.shelf.lookup.Given as goal

abbrev pub invariant-loop-rest : goal.invariant-loop-rest
invariant-loop-rest l = map.get (objects_on l.rest) l.name ≡ map.get (objects_on l.entries) l.name

abbrev pub decreases-loop-rest : goal.decreases-loop-rest
decreases-loop-rest l = length l.rest
