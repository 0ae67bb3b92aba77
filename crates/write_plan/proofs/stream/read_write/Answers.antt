use Rattle.std.proofs.Common.{ℕ, Ok, Err, Global, Vec, arith, refl, subst}
use Rattle.std.proofs.lemmas.Result.{err_from_is_err_and}
use Rattle.vol_spec.specs.Raw.{raw_len}
use Rattle.write_plan.specs.Reading.{box_at, front, write_at}
use Rattle.write_plan.specs.Readers.{Reads}
use Rattle.write_plan.specs.declared.fault.PlanFault.TheVariants.{Truncated}
use Rattle.write_plan.proofs.FeedSteps.{read_first, read_given, read_then}
use Rattle.write_plan.proofs.stream.read_write.Goals as goal

pub returns-in_err-part-clause-read : goal.returns-in_err-part-clause-read
unfolding write_at
returns-in_err-part-clause-read g c =
    let p = err_from_is_err_and c.from_residual.result c.from_residual.ensures.1 in
    rw (p.1, p.2) (read_first g.F.Feed.left g.F.Feed.faults _ _ 48 _ (box_at c.args.scale.now c.args.number c.args.before) _ _ _ _ c.in_err-part.ensures.read (omega arith))

pub returns-in_err-bytes-clause-read : goal.returns-in_err-bytes-clause-read
unfolding write_at
returns-in_err-bytes-clause-read g c =
    let p = err_from_is_err_and c.from_residual-in_err-bytes.result c.from_residual-in_err-bytes.ensures.1 in
    let s = c.args.scale.now in
    let n : ℕ = raw_len c.in_ok-part.part s.channels s.width in
    rw (p.1, p.2)
    (read_then g.F.Feed.left g.F.Feed.faults _ _ _ 48 n _ (box_at s c.args.number c.args.before) _ _ _ _ _ c.in_ok-part.ensures.read
    (read_first g.F.Feed.left g.F.Feed.faults _ _ n n (front n (Truncated c.args.number)) _ (λ (v : Vec ℕ Global). v.items) _ _
    (subst (λ (m : ℕ). Reads {A = Vec ℕ Global} g.F.Feed.left g.F.Feed.faults c.read_part.new.feed c.read_values.new.feed m (front m (Truncated c.args.number)) (λ v. v.items) (Err c.in_err-bytes.field-0.0)) c.in_ok-part.ensures.fits.bytes c.in_err-bytes.ensures.read) (omega arith))
    (omega (arith, c.in_ok-part.ensures.fits.room, c.in_ok-part.ensures.fits.bytes)))

pub returns-clause-read : goal.returns-clause-read
unfolding write_at
returns-clause-read g c =
    let s = c.args.scale.now in
    let n : ℕ = raw_len c.in_ok-part.part s.channels s.width in
    read_then g.F.Feed.left g.F.Feed.faults _ _ _ 48 n _ (box_at s c.args.number c.args.before) _ _ _ _ _ c.in_ok-part.ensures.read
    (read_then g.F.Feed.left g.F.Feed.faults _ _ _ n 0 n (front n (Truncated c.args.number)) _ (λ (v : Vec ℕ Global). v.items) _ _ _
    (subst (λ (m : ℕ). Reads {A = Vec ℕ Global} g.F.Feed.left g.F.Feed.faults c.read_part.new.feed c.read_values.new.feed m (front m (Truncated c.args.number)) (λ v. v.items) (Ok c.in_ok-bytes.bytes)) c.in_ok-part.ensures.fits.bytes c.in_ok-bytes.ensures.read)
    (read_given g.F.Feed.left g.F.Feed.faults _ 0 _ _ _ (λ rest. refl)) (omega arith))
    (omega (arith, c.in_ok-bytes.ensures.len, c.in_ok-part.ensures.fits.bytes))

pub returns-clause-fits : goal.returns-clause-fits
returns-clause-fits g c =
    let fits = c.in_ok-part.ensures.fits in
    record {
      fits = record { inside = fits.inside; bytes = omega (arith, c.in_ok-bytes.ensures.len, fits.bytes) };
      bytes = c.in_ok-bytes.ensures.bytes;
      room = omega (arith, c.in_ok-bytes.ensures.len, fits.room);
    }
