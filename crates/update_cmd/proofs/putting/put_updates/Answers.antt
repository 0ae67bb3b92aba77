use Rattle.std.proofs.Common.{Err, Ok, refl}
use Rattle.command_base.proofs.Choices.{err_is}
use Rattle.update_cmd.proofs.BegunSteps.{updated_begun}
use Rattle.update_cmd.proofs.MomentSteps.{updated_passed}
use Rattle.update_cmd.proofs.UpdatingSteps.{apart_in, updated_in}
use Rattle.update_cmd.specs.Putting.{unwritten}
use Rattle.update_cmd.proofs.putting.put_updates.Goals as goal

pub write_told-requires-clause-apart : goal.write_told-requires-clause-apart
write_told-requires-clause-apart g c κs within = apart_in (g.S.Source.objects c.args.store.now) c.args.updater.now c.args.stored.now.dataset c.args.stored.now.scale (record { own = c.requires.own; from = c.requires.from; to = c.requires.to })

pub returns-clause-updates : goal.returns-clause-updates
returns-clause-updates g c =
    updated_in (g.S.Source.objects c.args.store.now) (g.S.Source.objects c.write_told.new.store) c.args.updater.now c.args.stored.now.dataset c.args.stored.now.scale (Ok c.in_ok-written.written) (Ok c.in_ok-written.written) refl
    (record { own = c.requires.own; from = c.requires.from; to = c.requires.to }) c.requires.jobs c.requires.writable c.requires.few c.requires.written (g.met.S.Source.bytes c.args.store.now) c.in_ok-written.ensures.wrote

pub returns-in_err-written-clause-updates : goal.returns-in_err-written-clause-updates
returns-in_err-written-clause-updates g c =
    let is = err_is c.from_residual.result (unwritten c.in_err-written.field-0.0) c.from_residual.ensures.1 in
    updated_in (g.S.Source.objects c.args.store.now) (g.S.Source.objects c.write_told.new.store) c.args.updater.now c.args.stored.now.dataset c.args.stored.now.scale (Err c.in_err-written.field-0.0) c.from_residual.result is
    (record { own = c.requires.own; from = c.requires.from; to = c.requires.to }) c.requires.jobs c.requires.writable c.requires.few c.requires.written (g.met.S.Source.bytes c.args.store.now) c.in_err-written.ensures.wrote

pub returns-clause-begun : goal.returns-clause-begun
returns-clause-begun g c =
    updated_begun (g.S.Source.objects c.args.store.now) (g.S.Source.objects c.write_told.new.store) c.args.updater.now c.args.stored.now.dataset c.args.stored.now.scale (g.S.Source.draft c.args.store.now) (g.S.Source.draft c.write_told.new.store)
    (record { own = c.requires.own; from = c.requires.from; to = c.requires.to }) c.requires.jobs c.write_told.ensures.begun

pub returns-in_err-written-clause-begun : goal.returns-in_err-written-clause-begun
returns-in_err-written-clause-begun g c =
    updated_begun (g.S.Source.objects c.args.store.now) (g.S.Source.objects c.write_told.new.store) c.args.updater.now c.args.stored.now.dataset c.args.stored.now.scale (g.S.Source.draft c.args.store.now) (g.S.Source.draft c.write_told.new.store)
    (record { own = c.requires.own; from = c.requires.from; to = c.requires.to }) c.requires.jobs c.write_told.ensures.begun

pub returns-clause-killed : goal.returns-clause-killed
returns-clause-killed g c =
    updated_passed (g.S.Source.objects c.args.store.now) c.args.updater.now c.args.stored.now.dataset c.args.stored.now.scale (g.S.Source.history c.args.store.now) (g.S.Source.history c.write_told.new.store) (record { own = c.requires.own; from = c.requires.from; to = c.requires.to }) c.requires.jobs c.write_told.ensures.killed

pub returns-in_err-written-clause-killed : goal.returns-in_err-written-clause-killed
returns-in_err-written-clause-killed g c =
    updated_passed (g.S.Source.objects c.args.store.now) c.args.updater.now c.args.stored.now.dataset c.args.stored.now.scale (g.S.Source.history c.args.store.now) (g.S.Source.history c.write_told.new.store) (record { own = c.requires.own; from = c.requires.from; to = c.requires.to }) c.requires.jobs c.write_told.ensures.killed
