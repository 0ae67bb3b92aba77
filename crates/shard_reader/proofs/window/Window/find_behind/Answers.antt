use Rattle.std.proofs.Common.{◌≡◌, ◌∙◌, ◌+◌, ◌*◌, ap, arith, refl, Ok}
use Rattle.minishard.specs.Walks.{Progress}
use Rattle.vol_base.specs.Outside.{part}
use Rattle.vol_spec.specs.Rows.{columns_of}
use Rattle.shard_reader.specs.Reading.{EndsIn, OnIndex, told_object}
use Rattle.shard_reader.proofs.WindowSteps.{ends_first, ends_on, goes_on, on_some, part_rows, seen_first, tells_end, tells_err, tells_on, tells_row, window_at}
use Rattle.shard_reader.proofs.window.Window.find_behind.Goals as goal

pub returns-in-Err-clause-found : goal.returns-in-Err-clause-found
returns-in-Err-clause-found g c = λ object told fits.
    let bytes = part object c.args.index.now.at (24 * c.args.index.now.rows) in
    tells_err (columns_of bytes) c.args.id c.look.result c.in-Err.fault c.look.new.walk c.in-Err.is
    (seen_first object c.args.self.now.columns.bytes c.args.index.now.at c.args.index.now.rows c.args.id c.args.self.now.count c.args.self.now.before c.duplicate-walk.result c.look.new.walk c.look.result fits c.duplicate-walk.ensures c.requires.behind c.requires.within (c.requires.window object told fits) c.look.ensures.seen)

pub returns-in-Ok-Answer-clause-found : goal.returns-in-Ok-Answer-clause-found
returns-in-Ok-Answer-clause-found g c = λ object told fits.
    let bytes = part object c.args.index.now.at (24 * c.args.index.now.rows) in
    tells_row (columns_of bytes) c.args.id c.look.result c.in-Ok-Answer.field-0 c.in-Ok-Answer.row c.look.new.walk c.in-Ok-Answer.is c.in-Ok-Answer.field-0-is
    (seen_first object c.args.self.now.columns.bytes c.args.index.now.at c.args.index.now.rows c.args.id c.args.self.now.count c.args.self.now.before c.duplicate-walk.result c.look.new.walk c.look.result fits c.duplicate-walk.ensures c.requires.behind c.requires.within (c.requires.window object told fits) c.look.ensures.seen)

pub loop-walk-init : goal.loop-walk-init
loop-walk-init g c =
    let same : c.duplicate-walk.result.rows ≡ c.args.self.now.before.rows = ap (λ (w : Progress). w.rows) c.duplicate-walk.ensures in
    let rows : c.look.new.walk.rows ≡ c.args.self.now.before.rows + c.args.self.now.count = omega (arith, c.look.ensures.rows (c.in-Ok-Nothing.is ∙ ap Ok c.in-Ok-Nothing.field-0-is), same) in
    record {
      rows = rows;
      within = omega (arith, c.requires.within, rows);
      front = omega (arith, rows);
      at = λ object told fits.
          tells_on (columns_of (part object c.args.index.now.at (24 * c.args.index.now.rows))) c.args.id c.look.result c.in-Ok-Nothing.field-0 c.look.new.walk c.in-Ok-Nothing.is c.in-Ok-Nothing.field-0-is
          (seen_first object c.args.self.now.columns.bytes c.args.index.now.at c.args.index.now.rows c.args.id c.args.self.now.count c.args.self.now.before c.duplicate-walk.result c.look.new.walk c.look.result fits c.duplicate-walk.ensures c.requires.behind c.requires.within (c.requires.window object told fits) c.look.ensures.seen);
      window = c.requires.window;
      behind = λ object told fits. c.requires.behind;
      kept = record { same_objects = refl; same_draft = refl };
      history = refl;
      asked = omega (arith, rows);
      later = omega arith;
    }

pub returns-in-Err-look-clause-found : goal.returns-in-Err-look-clause-found
returns-in-Err-look-clause-found g c = λ object told fits.
    let bytes = part object c.args.index.now.at (24 * c.args.index.now.rows) in
    let now = ap (λ o. told_object o c.args.name.now) c.loop-walk.invariant.kept.same_objects ∙ told in
    tells_err (columns_of bytes) c.args.id c.look-in-loop-walk.result c.in-Err-look.fault c.look-in-loop-walk.new.walk c.in-Err-look.is
    (c.look-in-loop-walk.ensures.seen (columns_of bytes) (c.loop-walk.invariant.at object told fits) (c.in-Ok.ensures.read object now fits)
    (omega (arith, c.in-Ok.ensures.within, part_rows object c.args.index.now.at c.args.index.now.rows fits)))

pub returns-in-Ok-Answer-look-clause-found : goal.returns-in-Ok-Answer-look-clause-found
returns-in-Ok-Answer-look-clause-found g c = λ object told fits.
    let bytes = part object c.args.index.now.at (24 * c.args.index.now.rows) in
    let now = ap (λ o. told_object o c.args.name.now) c.loop-walk.invariant.kept.same_objects ∙ told in
    tells_row (columns_of bytes) c.args.id c.look-in-loop-walk.result c.in-Ok-Answer-look.field-0 c.in-Ok-Answer-look.row c.look-in-loop-walk.new.walk c.in-Ok-Answer-look.is c.in-Ok-Answer-look.field-0-is
    (c.look-in-loop-walk.ensures.seen (columns_of bytes) (c.loop-walk.invariant.at object told fits) (c.in-Ok.ensures.read object now fits)
    (omega (arith, c.in-Ok.ensures.within, part_rows object c.args.index.now.at c.args.index.now.rows fits)))

pub loop-walk-preserved : goal.loop-walk-preserved
loop-walk-preserved g c =
    let same : c.fill.new.self.before.rows ≡ c.loop-walk.walk.rows = ap (λ (w : Progress). w.rows) c.in-Ok.ensures.before in
    let on : c.look-in-loop-walk.new.walk.rows ≡ c.loop-walk.walk.rows + c.fill.new.self.count = c.look-in-loop-walk.ensures.rows (c.in-Ok-Nothing-look.is ∙ ap Ok c.in-Ok-Nothing-look.field-0-is) in
    record {
      rows = omega (arith, same, on);
      within = omega (arith, on, c.in-Ok.ensures.within);
      front = omega (arith, on, c.loop-walk.invariant.front);
      at = λ object told fits.
          let bytes = part object c.args.index.now.at (24 * c.args.index.now.rows) in
          let now = ap (λ o. told_object o c.args.name.now) c.loop-walk.invariant.kept.same_objects ∙ told in
          tells_on (columns_of bytes) c.args.id c.look-in-loop-walk.result c.in-Ok-Nothing-look.field-0 c.look-in-loop-walk.new.walk c.in-Ok-Nothing-look.is c.in-Ok-Nothing-look.field-0-is
          (c.look-in-loop-walk.ensures.seen (columns_of bytes) (c.loop-walk.invariant.at object told fits) (c.in-Ok.ensures.read object now fits)
          (omega (arith, c.in-Ok.ensures.within, part_rows object c.args.index.now.at c.args.index.now.rows fits)));
      window = λ object told fits.
          let now = ap (λ o. told_object o c.args.name.now) c.loop-walk.invariant.kept.same_objects ∙ told in
          window_at (part object c.args.index.now.at (24 * c.args.index.now.rows)) _ c.loop-walk.walk c.args.id _ _ c.in-Ok.ensures.before (c.loop-walk.invariant.at object told fits) (c.in-Ok.ensures.read object now fits);
      behind = λ object told fits. goes_on _ _ c.loop-walk.walk c.args.id c.in-Ok.ensures.before (c.loop-walk.invariant.at object told fits);
      kept = record {
        same_objects = c.in-Ok.ensures.reads.kept.same_objects ∙ c.loop-walk.invariant.kept.same_objects;
        same_draft = c.in-Ok.ensures.reads.kept.same_draft ∙ c.loop-walk.invariant.kept.same_draft;
      };
      history = c.in-Ok.ensures.reads.history ∙ c.loop-walk.invariant.history;
      asked = omega (arith, c.in-Ok.ensures.asked, c.loop-walk.invariant.asked, on);
      later = omega (arith, c.in-Ok.ensures.reads.cause.stands, c.loop-walk.invariant.later);
    }

pub returns-clause-found : goal.returns-clause-found
returns-clause-found g c = λ object told fits.
    let bytes = part object c.args.index.now.at (24 * c.args.index.now.rows) in
    tells_end (columns_of bytes) c.args.id c.loop-walk.walk (c.loop-walk.invariant.at object told fits)
    (omega (arith, part_rows object c.args.index.now.at c.args.index.now.rows fits, c.loop-walk.invariant.within, c.loop-walk-test.false))

pub returns-in-Ok-Answer-clause-ends : goal.returns-in-Ok-Answer-clause-ends
returns-in-Ok-Answer-clause-ends g c =
    on_some c.in-Ok-Answer.row (OnIndex (g.S.Source.objects c.args.store.now) c.args.name.now c.args.index.now.at c.args.index.now.rows (λ bytes. EndsIn (columns_of bytes) c.args.id c.args.self.now.before.rows c.args.self.now.count))
    (λ object told fits.
    ends_first object c.args.self.now.columns.bytes c.args.index.now.at c.args.index.now.rows c.args.id c.args.self.now.count c.args.self.now.before c.duplicate-walk.result c.look.result c.in-Ok-Answer.field-0 c.in-Ok-Answer.row
    fits c.duplicate-walk.ensures c.requires.behind c.requires.within (c.requires.window object told fits) c.in-Ok-Answer.is c.in-Ok-Answer.field-0-is c.look.ensures.ends)

pub returns-in-Ok-Answer-look-clause-ends : goal.returns-in-Ok-Answer-look-clause-ends
returns-in-Ok-Answer-look-clause-ends g c =
    on_some c.in-Ok-Answer-look.row (OnIndex (g.S.Source.objects c.args.store.now) c.args.name.now c.args.index.now.at c.args.index.now.rows (λ bytes. EndsIn (columns_of bytes) c.args.id c.fill.new.self.before.rows c.fill.new.self.count))
    (λ object told fits.
    let bytes = part object c.args.index.now.at (24 * c.args.index.now.rows) in
    let now = ap (λ o. told_object o c.args.name.now) c.loop-walk.invariant.kept.same_objects ∙ told in
    ends_on (columns_of bytes) c.args.id c.look-in-loop-walk.result c.in-Ok-Answer-look.field-0 c.in-Ok-Answer-look.row c.fill.new.self.before c.loop-walk.walk c.fill.new.self.count c.in-Ok-Answer-look.is c.in-Ok-Answer-look.field-0-is c.in-Ok.ensures.before
    (c.look-in-loop-walk.ensures.ends (columns_of bytes) (c.loop-walk.invariant.at object told fits) (c.in-Ok.ensures.read object now fits)
    (omega (arith, c.in-Ok.ensures.within, part_rows object c.args.index.now.at c.args.index.now.rows fits))))

pub returns-in-Err-look-clause-behind : goal.returns-in-Err-look-clause-behind
returns-in-Err-look-clause-behind g c = λ object told fits. goes_on _ _ c.loop-walk.walk c.args.id c.in-Ok.ensures.before (c.loop-walk.invariant.at object told fits)

pub returns-in-Ok-Answer-look-clause-behind : goal.returns-in-Ok-Answer-look-clause-behind
returns-in-Ok-Answer-look-clause-behind g c = λ object told fits. goes_on _ _ c.loop-walk.walk c.args.id c.in-Ok.ensures.before (c.loop-walk.invariant.at object told fits)
