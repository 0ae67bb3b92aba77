use Rattle.std.proofs.Common.{◌+◌, map}
use Rattle.hall.proofs.run.run_hall.Given as goal

abbrev pub ghosts-run_named-N-Ledger : goal.ghosts-run_named-N-Ledger
ghosts-run_named-N-Ledger g a = record { name = a.claims.name; parts = a.claims.parts }

abbrev pub ghosts-run_named-N-Naming : goal.ghosts-run_named-N-Naming
ghosts-run_named-N-Naming g a = record { jobs = a.total; room = a.total + a.total; deposits_name = a.deposits.name }

abbrev pub ghosts-run_named-N-Hall : goal.ghosts-run_named-N-Hall
ghosts-run_named-N-Hall g a = record {
  dataset = a.dataset.now;
  told = map g.S.Source.objects a.stores.items;
  drafts = map g.S.Source.draft a.stores.items;
  counts = map g.S.Source.faults a.stores.items;
  bound = g.D.Entrance.bound a.entrance;
  accepted = g.D.Entrance.accepted a.entrance;
  count = g.D.Entrance.faults a.entrance;
  cuts_name = a.cuts.name;
  nexts_name = a.nexts.name;
}
