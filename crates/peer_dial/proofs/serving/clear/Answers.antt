use Rattle.peer_dial.specs.Shelves.{objects_on}
use Rattle.peer_dial.proofs.PeerSteps.{none_sent}
use Rattle.peer_dial.proofs.serving.clear.Goals as goal

pub returns-clause-replies : goal.returns-clause-replies
returns-clause-replies c = none_sent c.tell_replies.ensures.one (objects_on c.args.entries.now) c.args.dataset.now _ _ c.clear.ensures.items c.clear-2.ensures.items
