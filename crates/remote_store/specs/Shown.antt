-- The objects that a remote store has: those of the peer below one data set (this project's).
use Rattle.std.specs.Prelude.{◌≡◌, ℕ, ◌+◌, Bool, ◌&&◌, List, length, drop, filter, Option, Some, None, if◌then◌else◌, bytes_eq}
use Rattle.std.specs.FinMap as map
use Rattle.vol_base.specs.Causes.{IsCount, counted, is_count}
use Rattle.vol_base.specs.Names.{is_name}
use Rattle.vol_base.specs.Outside.{Objects, is_under}
use Rattle.remote_store.specs.Dials.{Peer}

-- what stands behind a data set and a `/`
abbrev pub key_of : List ℕ → List ℕ → List ℕ
key_of dataset name = drop (length dataset + 1) name

-- the name is the data set's, a `/`, and a name
abbrev pub has_key : List ℕ → List ℕ → Bool
has_key dataset name = is_under dataset name && is_name (key_of dataset name)

abbrev pub key_in : List ℕ → List ℕ → Option (List ℕ)
key_in dataset name = if has_key dataset name then Some (key_of dataset name) else None

-- the objects of such names
abbrev pub under : List ℕ → Objects → Objects
under dataset m = map.from_entries (filter (λ e. has_key dataset e.0) (map.entries m))

-- those of a peer that is told, and that serves this data set
abbrev pub shown : List ℕ → Option Peer → Option Objects
shown dataset None = None
shown dataset (Some p) = if bytes_eq p.dataset dataset then Some (under dataset p.objects) else None

-- the peer is told, and serves the data set
abbrev pub IsServed : List ℕ → Option Peer → Type 0
IsServed dataset peer = (p : Peer) × (peer ≡ Some p) × (p.dataset ≡ dataset)

-- the count of faults of a store: where the peer is told and serves the data set, its dial's
abbrev pub count_at : Option Objects → ℕ → ℕ → ℕ
count_at None dial own = counted own
count_at (Some objects) dial own = dial

pub count_at_is : (o : Option Objects) (dial own : ℕ) → IsCount dial → IsCount (count_at o dial own)
count_at_is None dial own is = is_count own
count_at_is (Some objects) dial own is = is
