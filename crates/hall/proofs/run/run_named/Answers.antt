use Rattle.std.proofs.Common.{◌≡◌, ◌≤◌, ◌-◌, inl, inr, map, subst, sym, arith}
use Rattle.hall.specs.Halls.{NoneFell, is_short}
use Rattle.hall.proofs.EndSteps.{each_none, exactly_none}
use Rattle.hall.proofs.Sums.{none_stands}
use Rattle.hall.specs.declared.outcome.HallEnd.TheVariants as ended
use Rattle.hall.proofs.run.run_named.Goals as goal

pub returns-in_default : goal.returns-in_default
returns-in_default g c =
    let now = g.D.Entrance.accepted c.args.entrance in
    let faults = g.D.Entrance.faults c.args.entrance in
    let counts = map g.S.Source.faults c.args.stores.items in
    let more : g.N.Hall.accepted ≤ now = omega (arith, c.requires.accepted) in
    let none : now - g.N.Hall.accepted ≡ 0 = omega (arith, c.requires.accepted) in
    let later : g.N.Hall.count ≤ faults = omega (arith, c.requires.count) in
    record {
      bound = c.requires.bound;
      exact = exactly_none (g.X.Exit.served c.args.exit) (now - g.N.Hall.accepted) c.requires.noted none;
      given = inr (inl none);
      more = more;
      each = each_none g.N.Hall.told g.N.Hall.dataset (is_short ended.OutOfMemory) (g.X.Exit.served c.args.exit) g.N.Hall.counts counts c.requires.noted (sym c.requires.counts);
      stores_later = subst (λ before. NoneFell before counts) (sym c.requires.counts) (none_stands counts);
      told = sym c.requires.told;
      writes = sym c.requires.drafts;
      later = later;
      rose = λ e. absurd (cc e);
      stands = λ e. absurd (cc e);
    }
