use Rattle.serve_cmd.proofs.ServeSteps.{has_line, not_quiet, serve_left}
use Rattle.command_base.specs.Outlets.{outlets_of}
use Rattle.serve_cmd.proofs.serving.run_serve.Goals as goal

pub tell-requires : goal.tell-requires
tell-requires g c = has_line c.in-Err.refusal c.status-status.result c.status-status.ensures

pub returns-in-Err-clause-leaves : goal.returns-in-Err-clause-leaves
returns-in-Err-clause-leaves g c =
    serve_left c.in-Err.refusal c.status-status.result c.args.port (g.D.Door.bound c.serve.new.door)
    (outlets_of g.O.Outlet.written g.O.Outlet.faults g.E.Outlet.written g.E.Outlet.faults c.args.out.now c.serve.new.out c.args.err.now c.tell.new.err)
    c.status-status.ensures c.serve.ensures.bound c.in-Err.ensures.told c.tell.ensures.told

pub returns-in-Err-clause-quiet : goal.returns-in-Err-clause-quiet
returns-in-Err-clause-quiet g c done = not_quiet c.in-Err.refusal c.status-status.result c.status-status.ensures done
