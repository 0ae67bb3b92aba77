use Rattle.std.proofs.Common.{arith}
use Rattle.remote_store.proofs.HeardParts.{counted_head, counted_never, counted_partial}
use Rattle.remote_store.proofs.wait.count_behind.Goals as goal

pub returns-in-Head : goal.returns-in-Head
returns-in-Head c = λ wanted. counted_head wanted c.args.received.now c.judge_front.new.spans c.in-Head.parts _ c.in-Head.ensures.1 c.requires.few (omega arith)

pub returns-in-Partial : goal.returns-in-Partial
returns-in-Partial c = λ wanted. counted_partial wanted c.args.received.now c.requires.few c.in-Partial.ensures

pub returns-in-Never : goal.returns-in-Never
returns-in-Never c = λ wanted. counted_never wanted c.args.received.now c.requires.few c.in-Never.ensures
