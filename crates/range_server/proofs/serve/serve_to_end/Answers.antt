use Rattle.range_server.proofs.ServeSteps.{stopped_none}
use Rattle.range_server.proofs.serve.serve_to_end.Goals as goal

pub returns-in-Err-clause-stopped : goal.returns-in-Err-clause-stopped
returns-in-Err-clause-stopped g c = λ m told stream all. stopped_none m c.args.dataset.now stream 0 0 (g.L.Link.sent c.args.link.now)
