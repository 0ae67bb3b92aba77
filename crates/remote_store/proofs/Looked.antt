-- A look-up among the objects of one data set.
use Rattle.std.proofs.Common.{◌≡◌, ◌∙◌, ℕ, Bool, true, false, List, length, option_map, Option, Some, None, IfSome, if◌then◌else◌, bytes_eq, ap, sym, refl}
use Rattle.std.specs.FinMap as map
use Rattle.vol_base.specs.Outside.{Objects, Reads, got_of, read_of}
use Rattle.vol_base.specs.declared.outside.Got.TheVariants.{Absent}
use Rattle.remote_store.specs.Dials.{Peer}
use Rattle.remote_store.specs.Shown.{has_key, key_in, key_of, shown, under}
use Rattle.remote_store.specs.ShownBytes.{looked}

-- a name that is none of the data set's has no object
pub none_shown : (dataset : List ℕ) (peer : Option Peer) (name : List ℕ) → has_key dataset name ≡ false → IfSome (shown dataset peer) (λ m. map.get m name ≡ None)
none_shown dataset None name out = tt
none_shown dataset (Some p) name out = by_test (bytes_eq p.dataset dataset)
  where
    by_test : (t : Bool) → IfSome (if t then Some (under dataset p.objects) else None) (λ m. map.get m name ≡ None)
    by_test true = looked dataset p.objects name ∙ (λ i. if out i then map.get p.objects name else None)
    by_test false = tt

-- one that is has the peer's
pub same_shown : (dataset : List ℕ) (p : Peer) (name : List ℕ) → has_key dataset name ≡ true → IfSome (shown dataset (Some p)) (λ m. map.get m name ≡ map.get p.objects name)
same_shown dataset p name kept = by_test (bytes_eq p.dataset dataset)
  where
    by_test : (t : Bool) → IfSome (if t then Some (under dataset p.objects) else None) (λ m. map.get m name ≡ map.get p.objects name)
    by_test true = looked dataset p.objects name ∙ (λ i. if kept i then map.get p.objects name else None)
    by_test false = tt

no_key : (t : Bool) (key : List ℕ) → (if t then Some key else None) ≡ None → t ≡ false
no_key true key e = absurd (cc e)
no_key false key e = refl

pub if_shown : {P Q : Objects → Type 0} → (o : Option Objects) → IfSome o P → ((m : Objects) → P m → Q m) → IfSome o Q
if_shown None x f = tt
if_shown (Some m) x f = f m x

pub no_length : (dataset : List ℕ) (peer : Option Peer) (name : List ℕ) → key_in dataset name ≡ None → IfSome (shown dataset peer) (λ m. None ≡ option_map length (map.get m name))
no_length dataset peer name e =
    if_shown (shown dataset peer) (none_shown dataset peer name (no_key (has_key dataset name) (key_of dataset name) e)) (λ m x. sym (ap (option_map length) x))

pub no_bytes : (dataset : List ℕ) (peer : Option Peer) (name : List ℕ) (at : ℕ) (out : List ℕ) → key_in dataset name ≡ None → IfSome (shown dataset peer) (λ m. Reads (map.get m name) at out out Absent)
no_bytes dataset peer name at out e =
    if_shown (shown dataset peer) (none_shown dataset peer name (no_key (has_key dataset name) (key_of dataset name) e))
    (λ m x. record { got = ap (λ o. got_of o at (length out)) (sym x); bytes = ap (λ o. read_of o at out) (sym x) })
