use Rattle.std.proofs.Common.{◌≡◌, ◌≤◌, ◌-◌, ◌∙◌, map, subst, sym, arith}
use Rattle.std.specs.Prelude.{IfSome}
use Rattle.hall.specs.Halls.{Accepts, EachServed, HasExactly, is_short, numbers_of}
use Rattle.hall.proofs.EndSteps.{accepts, each_by, rose_by, stands_by}
use Rattle.hall.proofs.run.close_hall.Goals as goal

pub returns : goal.returns
returns g c =
    let now = g.D.Entrance.accepted c.close-entrance.result.0 in
    let ran = c.close-exit.result.1 in
    let failed = c.close-entrance.result.2 in
    let gone : c.close-entrance.result.1.amount ≡ now - g.N.Hall.accepted = omega (arith, c.close-entrance.ensures.accepted, c.close-entrance.ensures.amount) in
    let more : g.N.Hall.accepted ≤ now = omega (arith, c.close-entrance.ensures.accepted) in
    record {
      bound = c.close-entrance.ensures.bound;
      exact = subst (λ n. IfSome (g.X.Exit.served c.close-exit.result.0) (λ list. HasExactly n (numbers_of list))) gone c.close-exit.ensures.exact;
      given =
          subst (λ e. Accepts e g.N.Naming.jobs g.N.Hall.count (g.D.Entrance.faults c.close-entrance.result.0) (now - g.N.Hall.accepted)) (sym c.end_of.ensures)
          (accepts ran failed g.N.Naming.jobs g.N.Hall.accepted c.args.porch.given now g.N.Hall.count (g.D.Entrance.faults c.close-entrance.result.0) c.close-entrance.ensures.accepted
          (λ e. c.close-entrance.ensures.fewer (sym c.close-entrance.ensures.failed ∙ e)) (λ f. c.close-entrance.ensures.rose (sym c.close-entrance.ensures.failed ∙ f))
          (λ e. c.requires.over (sym c.close-entrance.ensures.failed ∙ e)));
      more = more;
      each =
          subst (λ e. EachServed g.N.Hall.told g.N.Hall.dataset (is_short e) (g.X.Exit.served c.close-exit.result.0) g.N.Hall.counts (map g.S.Source.faults c.args.stores.items)) (sym c.end_of.ensures)
          (each_by ran failed g.N.Hall.told g.N.Hall.dataset (g.X.Exit.served c.close-exit.result.0) g.N.Hall.counts (map g.S.Source.faults c.args.stores.items) c.args.all.now.amount c.requires.paid c.close-exit.ensures.each);
      stores_later = c.requires.later;
      told = c.requires.told;
      writes = c.requires.drafts;
      later = c.close-entrance.ensures.later;
      rose =
          λ e. rose_by ran failed g.N.Hall.count (g.D.Entrance.faults c.close-entrance.result.0) (λ f. c.close-entrance.ensures.rose (sym c.close-entrance.ensures.failed ∙ f)) (sym c.end_of.ensures ∙ e);
      stands =
          λ e. stands_by ran failed g.N.Hall.count (g.D.Entrance.faults c.close-entrance.result.0) (λ f. c.close-entrance.ensures.stands (sym c.close-entrance.ensures.failed ∙ f)) (sym c.end_of.ensures ∙ e);
    }
