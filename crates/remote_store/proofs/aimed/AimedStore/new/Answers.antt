use Rattle.remote_store.proofs.AskSteps.{asks_begin}
use Rattle.remote_store.proofs.AimedSteps.{only_none}
use Rattle.remote_store.proofs.aimed.AimedStore.new.Goals as goal

pub invariant_of-result : goal.invariant_of-result
invariant_of-result g c = record {
  host_is = c.requires.host;
  port_is = c.requires.port;
  dataset_is = c.requires.dataset;
  only = only_none (g.N.Aim.host, g.N.Aim.port) g.N.Aim.before (g.D.Dial.dialled c.args.remote.dial) c.requires.before;
  asks = ∣ asks_begin (g.N.Aim.host, g.N.Aim.port) g.N.Aim.count _ g.N.Aim.sent (g.D.Dial.sent c.args.remote.dial) c.requires.count c.requires.sent ∣₁;
}
