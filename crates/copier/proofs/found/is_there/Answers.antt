use Rattle.copier.proofs.FoundSteps.{absent_there, faulty_there, found_there}
use Rattle.copier.proofs.found.is_there.Goals as goal

pub returns-in-Ok-Absent-clause-told : goal.returns-in-Ok-Absent-clause-told
returns-in-Ok-Absent-clause-told g c = absent_there (g.S.Source.objects c.args.store.now) c.args.reader.now.opened.dataset c.args.reader.now.opened.scale c.args.cell c.in-Ok-Absent.field-0 c.in-Ok-Absent.field-0-is c.in-Ok-Absent.ensures.searches.found

pub returns-in-Ok-At-clause-told : goal.returns-in-Ok-At-clause-told
returns-in-Ok-At-clause-told g c = found_there (g.S.Source.objects c.args.store.now) c.args.reader.now.opened.dataset c.args.reader.now.opened.scale c.args.cell c.in-Ok-At.field-0 _ _ _ c.in-Ok-At.field-0-is c.in-Ok-At.ensures.searches.found

pub returns-in-Err-Damaged-clause-told : goal.returns-in-Err-Damaged-clause-told
returns-in-Err-Damaged-clause-told g c = faulty_there (g.S.Source.objects c.args.store.now) c.args.reader.now.opened.dataset c.args.reader.now.opened.scale c.args.cell c.in-Err-Damaged.field-0 _ _ c.in-Err-Damaged.field-0-is c.in-Err-Damaged.ensures.searches.found
