-- What `vol_fetch` answers (this project's).
use Rattle.std.specs.Prelude.{◌≡◌, ◌⊎◌, ℕ, List, Option, Some, IfSome, IsSomeAnd}
use Rattle.vol_base.specs.Causes.{Rose}
use Rattle.vol_base.specs.Outside.{Objects}
use Rattle.command_base.specs.Ending.{EndsWell}
use Rattle.command_base.specs.Outlets.{Outlets, Silent, Tells}
use Rattle.command_base.specs.Statuses.{fixed_line}
use Rattle.command_base.specs.declared.status.Status.{Status}
use Rattle.command_base.specs.declared.status.Status.TheVariants.{NoMemory, Usage}
use Rattle.cutout_cmd.specs.Cutouts.{CanCut, CutsOut}
use Rattle.vol_fetch.specs.declared.words.Request.{Request}

-- nothing was asked: the words are refused, or there was no memory, and that is told
pub record Untried (status : Status) (o : Outlets) : Type 0 where
  pub why : (status ≡ Usage) ⊎ (status ≡ NoMemory)
  pub silent : Silent o
  pub told : IfSome (fixed_line status) (Tells o)

-- something was asked, and the answer is that of a cutout from the objects that are shown, where they are told
abbrev pub Fetches : Option Request → Status → (Request → Option Objects) → Outlets → Type 0
Fetches asked status shown o = IsSomeAnd asked (λ r. CutsOut status (shown r) r.dataset r.key r.part o)

-- where the box can be cut out of them, and nothing that is used fails, it succeeds or wants memory
abbrev pub Completes : Option Request → Status → (Request → Option Objects) → ℕ → ℕ → ℕ → ℕ → Type 0
Completes asked status shown dial dial_now out out_now =
    IfSome asked (λ r. (m : Objects) → shown r ≡ Some m → CanCut m r.dataset r.key r.part
    → (Rose dial dial_now → ⊥) → (Rose out out_now → ⊥) → EndsWell status)

-- the store is one of the host, the port and the data set of the words: each request that it sends names them
abbrev pub IsMade : Option Request → List ℕ → List ℕ → ℕ → List ℕ → Type 0
IsMade asked word host port dataset = IfSome asked (λ r. (host ≡ word) × (port ≡ r.port) × (dataset ≡ r.dataset))
