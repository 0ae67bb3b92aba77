use Rattle.range_server.specs.Replies.{closes_at, reply_to}
use Rattle.range_server.proofs.OneReply.{one_reply}
use Rattle.range_server.proofs.ServingSteps.{few_broken}
use Rattle.range_server.proofs.serve.tell_replies.Goals as goal

pub returns-clause-one : goal.returns-clause-one
returns-clause-one c = λ m dataset stream out more x y. one_reply (reply_to m dataset) (closes_at m dataset) stream out more x y

pub returns-clause-few : goal.returns-clause-few
returns-clause-few c = λ m dataset before now ends h. few_broken m dataset before now ends h
