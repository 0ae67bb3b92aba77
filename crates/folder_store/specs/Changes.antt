-- Files in memory as the changes that made them (this project's).
use Rattle.std.specs.Prelude.{refl, suc, ℕ, Bool, true, false, ◌==◌, List, [], ◌∷◌, ◌++◌, Option, Some, None, string_bytes, if◌then◌else◌, cond, drop}
use Rattle.std.proofs.Math.Dec.{lit<}
use Rattle.std.specs.List.{AllByRecursion}
use Rattle.std.specs.Str.{bytes_eq}
use Rattle.std.specs.FinMap as map
use Rattle.vol_base.specs.Bytes.{AreBytes}
use Rattle.vol_base.specs.Outside.{is_under}
use Rattle.folder_store.specs.Disks.{Disk, Moment, HoldBytes, with_bytes, made, removed, IsLast}
use Rattle.folder_store.specs.Power.{KeepsKept, Lasts}
use Rattle.folder_store.specs.declared.memory.Change.{Change}
use Rattle.folder_store.specs.declared.memory.Change.TheVariants.{Made, Wrote, Synced, Moved, Removed}

abbrev pub no_files : Disk
no_files = record { files = map.empty; holds = λ _. [] }

abbrev pub changed : Change → Disk → Disk
changed (Made path number) d = made d (string_bytes path) number
changed (Wrote number content) d = with_bytes d number content.bytes.items
changed (Synced number) d = d
changed (Moved from to number) d = record { files = map.insert (map.remove d.files (string_bytes from)) (string_bytes to) number; holds = d.holds }
changed (Removed path) d = removed d (string_bytes path)

-- the files after these changes, of which the newest is the first
abbrev pub disk_of : List Change → Disk
disk_of [] = no_files
disk_of (c ∷ cs) = changed c (disk_of cs)

-- a file is kept once it is synced, until it is written again
abbrev pub kept_by : Change → (ℕ → Bool) → ℕ → Bool
kept_by (Made path number) kept n = if n == number then false else kept n
kept_by (Wrote number content) kept n = if n == number then false else kept n
kept_by (Synced number) kept n = if n == number then true else kept n
kept_by (Moved from to number) kept n = kept n
kept_by (Removed path) kept n = kept n

-- the files that are kept after these changes
abbrev pub kept_of : List Change → ℕ → Bool
kept_of [] n = false
kept_of (c ∷ cs) n = kept_by c (kept_of cs) n

abbrev pub moment_of : List Change → Moment
moment_of cs = record { disk = disk_of cs; kept = kept_of cs }

-- and what stood before and after each of them
abbrev pub moments_of : List Change → List Moment
moments_of [] = moment_of [] ∷ []
moments_of (c ∷ cs) = moments_of cs ++ moment_of (c ∷ cs) ∷ []

-- no change takes an object away that is kept, or writes to it
abbrev pub SpareKept : List Change → Type 0
SpareKept cs = (n : ℕ) → KeepsKept (moment_of (drop (suc n) cs)) (moment_of (drop n cs))

pub moments_end : (cs : List Change) → IsLast (moments_of cs) (moment_of cs)
moments_end [] = ([], refl)
moments_end (c ∷ cs) = (moments_of cs, refl)

-- what a change says of a path
abbrev pub told_path : Change → List ℕ → Option (Option ℕ)
told_path (Made path number) q = if bytes_eq q (string_bytes path) then Some (Some number) else None
told_path (Wrote number content) q = None
told_path (Synced number) q = None
told_path (Moved from to number) q = if bytes_eq q (string_bytes to) then Some (Some number) else (if bytes_eq q (string_bytes from) then Some None else None)
told_path (Removed path) q = if bytes_eq q (string_bytes path) then Some None else None

-- what a change says of what a file holds
abbrev pub told_bytes : Change → ℕ → Option (List ℕ)
told_bytes (Made path number) n = if number == n then Some [] else None
told_bytes (Wrote number content) n = if number == n then Some content.bytes.items else None
told_bytes (Synced number) n = None
told_bytes (Moved from to number) n = None
told_bytes (Removed path) n = None

-- a change gives this file a path
abbrev pub gives_number : ℕ → Change → Bool
gives_number n (Made path number) = number == n
gives_number n (Wrote number content) = false
gives_number n (Synced number) = false
gives_number n (Moved from to number) = number == n
gives_number n (Removed path) = false

-- a change gives a file a path below this one
abbrev pub gives_below : List ℕ → Change → Bool
gives_below q (Made path number) = is_under q (string_bytes path)
gives_below q (Wrote number content) = false
gives_below q (Synced number) = false
gives_below q (Moved from to number) = is_under q (string_bytes to)
gives_below q (Removed path) = false

-- the path that a change gives a file, if it is below this one
abbrev pub given_lower : List ℕ → Change → Option (List ℕ)
given_lower q (Made path number) = if is_under q (string_bytes path) then Some (string_bytes path) else None
given_lower q (Wrote number content) = None
given_lower q (Synced number) = None
given_lower q (Moved from to number) = if is_under q (string_bytes to) then Some (string_bytes to) else None
given_lower q (Removed path) = None

-- what is written is bytes, so each file holds bytes
cond_bytes : (b : Bool) (xs ys : List ℕ) → AreBytes xs → AreBytes ys → AreBytes (cond b xs ys)
cond_bytes true xs ys h k = h
cond_bytes false xs ys h k = k

no_bytes : AreBytes []
no_bytes i = lit< tt

pub all_hold : (cs : List Change) → HoldBytes (disk_of cs)
all_hold [] n = no_bytes
all_hold (Made path number ∷ cs) n = cond_bytes (n == number) [] ((disk_of cs).holds n) no_bytes (all_hold cs n)
all_hold (Wrote number content ∷ cs) n = cond_bytes (n == number) content.bytes.items ((disk_of cs).holds n) content.plain (all_hold cs n)
all_hold (Synced number ∷ cs) n = all_hold cs n
all_hold (Moved from to number ∷ cs) n = all_hold cs n
all_hold (Removed path ∷ cs) n = all_hold cs n

-- and so what is kept lasts
module _ {X : Type 0} (P : X → Type 0) where
  all_more : (xs : List X) (x : X) → AllByRecursion P xs → P x → AllByRecursion P (xs ++ x ∷ [])
  all_more [] x h k = (k, tt)
  all_more (y ∷ ys) x h k = (h.0, all_more ys x h.1 k)

  all_by : (Q : X → Type 0) → ((x : X) → P x → Q x) → (xs : List X) → AllByRecursion P xs → AllByRecursion Q xs
  all_by Q f [] h = tt
  all_by Q f (x ∷ xs) h = (f x h.0, all_by Q f xs h.1)

lasts_more : (ms : List Moment) (x : Moment) → Lasts ms → AllByRecursion (λ m. KeepsKept m x) ms → Lasts (ms ++ x ∷ [])
lasts_more [] x h k = (tt, tt)
lasts_more (m ∷ ms) x h k = (all_more (KeepsKept m) ms x h.0 k.0, lasts_more ms x h.1 k.1)

kept_since : (c : Change) (cs : List Change) → SpareKept (c ∷ cs) → AllByRecursion (λ m. KeepsKept m (moment_of cs)) (moments_of cs) → AllByRecursion (λ m. KeepsKept m (moment_of (c ∷ cs))) (moments_of cs)
kept_since c cs s h = all_by (λ m. KeepsKept m (moment_of cs)) (λ m. KeepsKept m (moment_of (c ∷ cs))) (λ m k path is there. s 0 path is (k path is there)) (moments_of cs) h

kept_at_end : (cs : List Change) → SpareKept cs → AllByRecursion (λ m. KeepsKept m (moment_of cs)) (moments_of cs)
kept_at_end [] s = (λ path is there. there, tt)
kept_at_end (c ∷ cs) s =
    all_more (λ m. KeepsKept m (moment_of (c ∷ cs))) (moments_of cs) (moment_of (c ∷ cs)) (kept_since c cs s (kept_at_end cs (λ n. s (suc n)))) (λ path is there. there)

pub moments_last : (cs : List Change) → SpareKept cs → Lasts (moments_of cs)
moments_last [] s = (tt, tt)
moments_last (c ∷ cs) s =
    lasts_more (moments_of cs) (moment_of (c ∷ cs)) (moments_last cs (λ n. s (suc n))) (kept_since c cs s (kept_at_end cs (λ n. s (suc n))))
