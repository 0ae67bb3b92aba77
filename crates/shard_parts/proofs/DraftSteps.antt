-- The object being written, one piece on.
use Rattle.std.proofs.Common.{◌≡◌, ℕ, zero, suc, ◌+◌, ◌*◌, ◌^◌, ◌≤◌, List, [], ◌∷◌, ◌++◌, length, Option, Some, None, arith, refl, ap, ◌∙◌, sym, length-append, append_assoc}
use Rattle.std.specs.Prelude.{replicate, flat_map}
use Rattle.std.specs.List.{range_with_len}
use Rattle.std.specs.Option.{option_map}
use Rattle.std.specs.FinMap as fin
use Rattle.std.proofs.lemmas.Grind.{common_steps, flat_map-append}
use Rattle.std.proofs.lemmas.List.{append-nil, replicate-append-replicate}
use Rattle.vol_base.specs.Outside.{Draft, Objects, appended, finished, overwritten, patched}
use Rattle.vol_spec.specs.Entries.{entry_bytes}
use Rattle.vol_spec.specs.Shards.{Chunk, bodies, body, entries, entry_at, shard_bytes}
use Rattle.shard_parts.specs.Parts.{all_bytes, draft_of, run, so_far}
use Rattle.shard_parts.proofs.BodySteps.{length-entry_bytes, length-flat}
use Rattle.shard_parts.proofs.RunSteps.{run_more}

pub appended_to : (o : Option Objects) (name xs ys : List ℕ) → appended (draft_of o name xs) ys ≡ draft_of o name (xs ++ ys)
appended_to None name xs ys = ap (λ n. let d : Draft = record { len = n; told = None } in d) (sym (length-append xs ys))
appended_to (Some m) name xs ys = ap (λ n. let d : Draft = record { len = n; told = Some (name, xs ++ ys) } in d) (sym (length-append xs ys))

-- where nothing is told, bytes count by their length alone
pub appended_like : (o : Option Objects) (name xs ys zs : List ℕ) → length ys ≡ length zs → ((m : Objects) → o ≡ Some m → ys ≡ zs) → appended (draft_of o name xs) ys ≡ draft_of o name (xs ++ zs)
appended_like None name xs ys zs e same = let n : length xs + length ys ≡ length (xs ++ zs) = omega (arith, length-append xs zs) in ap (λ n. let d : Draft = record { len = n; told = None } in d) n
appended_like (Some m) name xs ys zs e same = appended_to (Some m) name xs ys ∙ ap (λ bs. draft_of (Some m) name (xs ++ bs)) (same m refl)

pub length-overwritten : (xs e : List ℕ) (at : ℕ) → at + length e ≤ length xs → length xs ≡ length (overwritten xs at e)
length-overwritten xs e at h = grind (arith, common_steps)

pub patched_in : (o : Option Objects) (name xs e : List ℕ) (at : ℕ) → at + length e ≤ length xs → patched (draft_of o name xs) at e ≡ draft_of o name (overwritten xs at e)
patched_in None name xs e at h = ap (λ n. let d : Draft = record { len = n; told = None } in d) (length-overwritten xs e at h)
patched_in (Some m) name xs e at h = ap (λ n. let d : Draft = record { len = n; told = Some (name, overwritten xs at e) } in d) (length-overwritten xs e at h)

pub finished_as : (o now : Option Objects) (f : Objects → Objects) (name xs : List ℕ) → now ≡ option_map f o → option_map (finished (draft_of o name xs).told) now ≡ option_map (λ m. fin.insert (f m) name xs) o
finished_as None now f name xs e = ap (option_map (finished None)) e
finished_as (Some m) now f name xs e = ap (option_map (finished (Some (name, xs)))) e

-- objects that are told after some are put in are told before
pub told_alike : (o now : Option Objects) (f : Objects → Objects) (name xs : List ℕ) → now ≡ option_map f o → draft_of now name xs ≡ draft_of o name xs
told_alike None now f name xs e = ap (λ n. draft_of n name xs) e
told_alike (Some m) now f name xs e = ap (λ n. draft_of n name xs) e

-- a shard without chunks is entries of empty minishards
zero_entries : (a n : ℕ) → flat_map (λ m. entry_bytes (entry_at [] m)) (range_with_len a n) ≡ replicate (16 * n) 0
unfolding entry_bytes
zero_entries a zero = refl
zero_entries a (suc n) =
    let e : 16 * suc n ≡ 16 + 16 * n = omega arith in
    ap (λ xs. entry_bytes (record { start = 0; end = 0 }) ++ xs) (zero_entries (a + 1) n) ∙ replicate-append-replicate 16 (16 * n) 0 ∙ ap (λ k. replicate k 0) (sym e)

no_bodies : (a n : ℕ) → flat_map (body []) (range_with_len a n) ≡ []
no_bodies a zero = refl
no_bodies a (suc n) = no_bodies (a + 1) n

pub begun_bytes : (bits : ℕ) → shard_bytes bits [] ≡ replicate (16 * 2 ^ bits) 0
unfolding shard_bytes
begun_bytes bits = ap (λ xs. entries [] (2 ^ bits) ++ xs) (no_bodies 0 (2 ^ bits)) ∙ append-nil (entries [] (2 ^ bits)) ∙ zero_entries 0 (2 ^ bits)

-- a shard has room for its entries
pub entries_within : (bits : ℕ) (cs os : List Chunk) → 16 * 2 ^ bits ≤ length (so_far bits cs os)
unfolding shard_bytes
entries_within bits cs os =
    omega (
      arith,
      length-append (entries cs (2 ^ bits) ++ bodies cs (2 ^ bits)) (all_bytes os),
      length-append (entries cs (2 ^ bits)) (bodies cs (2 ^ bits)),
      length-flat (λ m. entry_bytes (entry_at cs m)) 16 0 (2 ^ bits) (λ m. length-entry_bytes (entry_at cs m)),
    )

-- the bytes so far of one job more
pub so_far_more : (bits : ℕ) (cs : List Chunk) (chunk : ℕ → Chunk) (b k : ℕ) → b ≤ k → so_far bits cs (run chunk b k) ++ (chunk k).bytes ≡ so_far bits cs (run chunk b (k + 1))
so_far_more bits cs chunk b k h =
    append_assoc (shard_bytes bits cs) (all_bytes (run chunk b k)) (chunk k).bytes
    ∙ ap (λ xs. shard_bytes bits cs ++ xs) (ap (λ xs. all_bytes (run chunk b k) ++ xs) (sym (append-nil (chunk k).bytes))
    ∙ sym (ap all_bytes (run_more chunk b k h) ∙ flat_map-append (λ (c : Chunk). c.bytes) (run chunk b k) (chunk k ∷ [])))
