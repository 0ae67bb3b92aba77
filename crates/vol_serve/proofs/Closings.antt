-- What `vol_serve` leaves, by how it ends.
use Rattle.std.proofs.Common.{◌≡◌, ◌<◌, ◌-◌, ℕ, inl, inr, refl, subst, sym, arith}
use Rattle.hall.specs.declared.outcome.HallEnd.{HallEnd}
use Rattle.hall.specs.declared.outcome.HallEnd.TheVariants as ended
use Rattle.hall.specs.Halls.{Accepts, is_short}
use Rattle.serve_cmd.specs.declared.refusal.ServeRefusal.{ServeRefusal}
use Rattle.serve_cmd.specs.declared.refusal.ServeRefusal.TheVariants as refused
use Rattle.vol_serve.specs.Statuses.{Accepted, ended_by, lacks_memory, refused_by}

pub lacks_by : (end : HallEnd) → lacks_memory (ended_by end) ≡ is_short end
lacks_by ended.All = refl
lacks_by ended.DoorFault = refl
lacks_by ended.OutOfMemory = refl

-- how many ends were accepted, behind a listen that left both counts
given_by : (end : HallEnd) (n before now accepted : ℕ) → Accepts end n before now accepted → Accepted (ended_by end) n before now accepted
given_by ended.All n before now accepted h = h
given_by ended.DoorFault n before now accepted h = h
given_by ended.OutOfMemory n before now accepted h = h

pub gives : (end : HallEnd) (n before mid now old middle new : ℕ) → mid ≡ before → middle ≡ old → Accepts end n mid now (new - middle) → Accepted (ended_by end) n before now (new - old)
gives end n before mid now old middle new stands same h =
    given_by end n before now (new - old) (subst (λ k. Accepts end n k now (new - old)) stands (subst (λ k. Accepts end n mid now (new - k)) same h))

-- and where the port couldn't be told
pub gives_none : (refusal : ServeRefusal) (n before now old new : ℕ) → new ≡ old → 0 < n → Accepted (refused_by refusal) n before now (new - old)
gives_none refused.OutFault n before now old new same some = omega (arith, same)
gives_none refused.NoMemory n before now old new same some = inr (inl (omega (arith, same)))
gives_none refused.DoorFault n before now old new same some = omega (arith, same, some)
