use Rattle.std.proofs.Common.{Err, ap}
use Rattle.write_cmd.proofs.ViewSteps.{all_failed, all_written, many_refused, none_many}
use Rattle.write_cmd.proofs.write.write_all.Goals as goal

pub returns-in-Ok-clause-put : goal.returns-in-Ok-clause-put
returns-in-Ok-clause-put g c =
    all_written c.in-Ok.written (g.S.Source.objects c.args.store.now) (g.S.Source.objects c.write_views.new.store) c.args.dataset.now c.args.scale.now c.args.writes
    (none_many _ _ c.in-Ok.ensures.too_many (λ cells e. cc e)) c.in-Ok.ensures.put

pub returns-in-Err-StoreFault-clause-put : goal.returns-in-Err-StoreFault-clause-put
returns-in-Err-StoreFault-clause-put g c =
    (all_failed (g.S.Source.objects c.args.store.now) (g.S.Source.objects c.write_views.new.store) c.args.dataset.now c.args.scale.now c.args.writes
    (none_many _ _ c.in-Err-StoreFault.ensures.too_many (λ cells e. let is = c.in-Err-StoreFault.field-0-is in cc (is, e))) c.in-Err-StoreFault.ensures.front).0

pub returns-in-Err-OutOfMemory-clause-put : goal.returns-in-Err-OutOfMemory-clause-put
returns-in-Err-OutOfMemory-clause-put g c =
    (all_failed (g.S.Source.objects c.args.store.now) (g.S.Source.objects c.write_views.new.store) c.args.dataset.now c.args.scale.now c.args.writes
    (none_many _ _ c.in-Err-OutOfMemory.ensures.too_many (λ cells e. let is = c.in-Err-OutOfMemory.field-0-is in cc (is, e))) c.in-Err-OutOfMemory.ensures.front).1

pub returns-in-Err-TooManyCells-clause-put : goal.returns-in-Err-TooManyCells-clause-put
returns-in-Err-TooManyCells-clause-put g c =
    many_refused (g.S.Source.objects c.args.store.now) (g.S.Source.objects c.write_views.new.store) c.args.dataset.now c.args.scale.now c.args.writes c.in-Err-TooManyCells.cells
    ((c.in-Err-TooManyCells.ensures.too_many c.in-Err-TooManyCells.cells).0 (ap Err c.in-Err-TooManyCells.field-0-is))
