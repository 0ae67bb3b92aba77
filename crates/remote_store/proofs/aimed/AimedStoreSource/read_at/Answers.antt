use Rattle.std.proofs.Common.{◌∙◌, ap, length, string_bytes}
use Rattle.std.proofs.Math.Logic.{∥∥₁_map}
use Rattle.remote_store.specs.Shown.{key_in}
use Rattle.remote_store.specs.Remotes.{wanted_of}
use Rattle.remote_store.proofs.AskSteps.{asks_more}
use Rattle.remote_store.proofs.AimedSteps.{only_to}
use Rattle.remote_store.proofs.KeySteps.{key_named}
use Rattle.remote_store.proofs.aimed.AimedStoreSource.read_at.Goals as goal

pub invariant_of-self : goal.invariant_of-self
invariant_of-self g c =
    let s = c.args.self.now in
    let e = c.read_at.ensures in
    record {
      host_is = ap string_bytes e.stays.0 ∙ s.host_is;
      port_is = e.stays.1 ∙ s.port_is;
      dataset_is = e.stays.2 ∙ s.dataset_is;
      only = only_to (g.N.Aim.host, g.N.Aim.port) g.N.Aim.before (string_bytes s.remote.host) s.remote.port (g.D.Dial.dialled s.remote.dial) (g.D.Dial.dialled c.read_at.new.self.dial) s.host_is s.port_is s.only e.dialled;
      asks = ∥∥₁_map s.asks (asks_more c.read_at.result (key_in s.remote.dataset c.args.name.now) (g.N.Aim.host, g.N.Aim.port) (string_bytes s.remote.host) s.remote.port g.N.Aim.count _ _ g.N.Aim.sent (g.D.Dial.sent s.remote.dial) (g.D.Dial.sent c.read_at.new.self.dial) (wanted_of c.args.at (length c.args.out.now)) s.host_is s.port_is e.cause (key_named s.remote.dataset c.args.name.now) (λ none. ap g.D.Dial.sent (e.nothing none)) e.asks);
    }
