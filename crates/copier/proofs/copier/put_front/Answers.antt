use Rattle.std.proofs.Common.{◌≡◌, ◌≤◌, ◌-◌, ◌∙◌, ℕ, List, [], Vec, Global, ap, arith, length, length-take, map, subst, sym, take}
use Rattle.std.specs.Prelude.{slice_index_or}
use Rattle.std.proofs.lemmas.List.{get_or-map, length-map}
use Rattle.copier.specs.Held.{HasFront}
use Rattle.copier.proofs.copier.put_front.Goals as goal

-- the bytes of the job's frame, which are long enough
front_at : (frames : List (Vec ℕ Global)) (first job n : ℕ) (v : Vec ℕ Global) (bytes : List ℕ) → HasFront first job n (map (λ f. f.items) frames) → v ≡ slice_index_or frames (job - first) v → bytes ≡ v.items
    → (slice_index_or (map (λ f. f.items) frames) (job - first) [] ≡ bytes) × (n ≤ length bytes)
front_at frames first job n v bytes has here is =
    let all = length-map frames (λ (f : Vec ℕ Global). f.items) in
    let within = has.within in
    let frame : slice_index_or (map (λ f. f.items) frames) (job - first) [] ≡ bytes =
    get_or-map (λ (f : Vec ℕ Global). f.items) frames (job - first) v [] (omega (arith, within, all)) ∙ ap (λ (f : Vec ℕ Global). f.items) (sym here) ∙ sym is in
    (frame, subst (λ xs. n ≤ length xs) frame has.long)

pub overflow_sub-frame : goal.overflow_sub-frame
overflow_sub-frame c = let low = c.requires.low in omega (arith, low)

pub bounds-frames-job : goal.bounds-frames-job
bounds-frames-job c =
    let all = length-map c.args.frames.now (λ f. f.items) in
    let within = c.requires.within in
    omega (arith, within, all)

pub slice_bounds-copy_from_slice-end : goal.slice_bounds-copy_from_slice-end
slice_bounds-copy_from_slice-end c =
    let at = front_at c.args.frames.now c.args.first c.args.job (length c.args.raw.now) c.index-frames-job.result c.deref.result.now c.requires c.index-frames-job.is c.deref.ensures.value in
    let long = at.1 in
    omega (arith, long, length-take (length c.args.raw.now) c.deref.result.now)

pub copy_from_slice-requires : goal.copy_from_slice-requires
copy_from_slice-requires c =
    let at = front_at c.args.frames.now c.args.first c.args.job (length c.args.raw.now) c.index-frames-job.result c.deref.result.now c.requires c.index-frames-job.is c.deref.ensures.value in
    let long = at.1 in
    omega (arith, long, length-take (length c.args.raw.now) c.deref.result.now)

pub returns : goal.returns
returns c =
    let at = front_at c.args.frames.now c.args.first c.args.job (length c.args.raw.now) c.index-frames-job.result c.deref.result.now c.requires c.index-frames-job.is c.deref.ensures.value in
    c.copy_from_slice.ensures.after ∙ ap (take (length c.args.raw.now)) (sym at.0)
