-- The objects of shards, once they are put in.
use Rattle.std.proofs.Common.{◌≡◌, ◌≢◌, ℕ, zero, suc, ◌+◌, ◌^◌, ◌<◌, ◌≤◌, Bool, true, false, if◌then◌else◌, List, [], ◌∷◌, map, Option, Some, refl, ap, ◌∙◌, sym, subst, arith, ⊎_elim, ◌/◌}
use Rattle.std.specs.Prelude.{filter}
use Rattle.std.specs.FinMap as fin
use Rattle.std.specs.List.{range_with_len}
use Rattle.std.specs.Option.{option_map_or}
use Rattle.std.proofs.lemmas.Bool.{cases_eq}
use Rattle.vol_base.specs.Outside.{Objects}
use Rattle.vol_spec.proofs.PutSteps.{insert-other, insert-same}
use Rattle.std.proofs.lemmas.Nat.{mod_below, pow_pos}
use Rattle.vol_spec.specs.Places.{hashed, shard_of}
use Rattle.vol_spec.specs.ShardNames.{shard_bits_of, shard_name}
use Rattle.vol_spec.specs.Shards.{shard_bytes}
use Rattle.vol_spec.specs.StoredCells.{put_in}
use Rattle.vol_spec.specs.StoredShards.{has_chunk, in_shard, objects_in, shard_object}
use Rattle.vol_spec.specs.declared.scale.Scale.{Scale}
use Rattle.vol_spec.specs.declared.sharding.Sharding.{Sharding}
use Rattle.shard_index.proofs.NameSteps.{shard_name-tells}

module _ (dataset : List ℕ) (s : Scale) (sharding : Sharding) (es : List (List ℕ × List ℕ)) (is : s.sharding ≡ Some sharding) where
  bits_are : shard_bits_of s ≡ sharding.shard_bits
  bits_are = ap (λ (o : Option Sharding). option_map_or (λ (q : Sharding). q.shard_bits) o 0) is

  below : (k : ℕ) → k < 2 ^ sharding.shard_bits → k < 2 ^ shard_bits_of s
  below k h = subst (λ b. k < 2 ^ b) (sym bits_are) h

  names_apart : (j k : ℕ) → j < 2 ^ sharding.shard_bits → k < 2 ^ sharding.shard_bits → j ≢ k → shard_name dataset s k ≢ shard_name dataset s j
  names_apart j k hj hk apart e = apart (sym (shard_name-tells dataset s k j (below k hk) (below j hj) e))

  abbrev listed : ℕ → ℕ → List (List ℕ × List ℕ)
  listed a n = objects_in dataset s sharding es (range_with_len a n)

  with_first : (a n : ℕ) → has_chunk es a ≡ true → listed a (suc n) ≡ shard_object dataset s sharding es a ∷ listed (a + 1) n
  with_first a n e = ap (λ b. map (shard_object dataset s sharding es) (if b then a ∷ filter (has_chunk es) (range_with_len (a + 1) n) else filter (has_chunk es) (range_with_len (a + 1) n))) e

  without_first : (a n : ℕ) → has_chunk es a ≡ false → listed a (suc n) ≡ listed (a + 1) n
  without_first a n e = ap (λ b. map (shard_object dataset s sharding es) (if b then a ∷ filter (has_chunk es) (range_with_len (a + 1) n) else filter (has_chunk es) (range_with_len (a + 1) n))) e

  -- a shard that none of these is has what it had
  other : (m : Objects) (n a k : ℕ) → a + n ≤ 2 ^ sharding.shard_bits → k < 2 ^ sharding.shard_bits → ((j : ℕ) → a ≤ j → j < a + n → has_chunk es j ≡ true → j ≢ k)
      → fin.get (put_in m (listed a n)) (shard_name dataset s k) ≡ fin.get m (shard_name dataset s k)
  other m zero a k fits hk out = refl
  other m (suc n) a k fits hk out =
      by (has_chunk es a) refl (λ (q : Objects). other q n (a + 1) k (omega arith) hk (λ j low high. out j (omega arith) (omega arith)))
    where
      by : (b : Bool) → has_chunk es a ≡ b → ((q : Objects) → fin.get (put_in q (listed (a + 1) n)) (shard_name dataset s k) ≡ fin.get q (shard_name dataset s k))
          → fin.get (put_in m (listed a (suc n))) (shard_name dataset s k) ≡ fin.get m (shard_name dataset s k)
      by true e rest =
          ap (λ list. fin.get (put_in m list) (shard_name dataset s k)) (with_first a n e)
          ∙ rest (fin.insert m (shard_name dataset s a) (shard_object dataset s sharding es a).1)
          ∙ insert-other m (shard_name dataset s a) (shard_object dataset s sharding es a).1 (shard_name dataset s k) (names_apart a k (omega arith) hk (out a (omega arith) (omega arith) e))
      by false e rest = ap (λ list. fin.get (put_in m list) (shard_name dataset s k)) (without_first a n e) ∙ rest m

  there : (m : Objects) (n a k : ℕ) → a + n ≤ 2 ^ sharding.shard_bits → a ≤ k → k < a + n → has_chunk es k ≡ true
      → fin.get (put_in m (listed a n)) (shard_name dataset s k) ≡ Some (shard_bytes sharding.minishard_bits (in_shard es k))
  there m zero a k fits low high has = absurd (omega arith)
  there m (suc n) a k fits low high has =
      ⊎_elim
      (λ (e : a ≡ k). first (subst (λ j. has_chunk es j ≡ true) (sym e) has) e)
      (λ (apart : a ≢ k). later apart (has_chunk es a) refl (λ (q : Objects). there q n (a + 1) k (omega arith) (omega arith) (omega arith) has))
      (cases_eq a k)
    where
      first : has_chunk es a ≡ true → a ≡ k → fin.get (put_in m (listed a (suc n))) (shard_name dataset s k) ≡ Some (shard_bytes sharding.minishard_bits (in_shard es k))
      first e same =
          subst (λ j. fin.get (put_in m (listed a (suc n))) (shard_name dataset s j) ≡ Some (shard_bytes sharding.minishard_bits (in_shard es j))) same
          (ap (λ list. fin.get (put_in m list) (shard_name dataset s a)) (with_first a n e)
          ∙ other (fin.insert m (shard_name dataset s a) (shard_object dataset s sharding es a).1) n (a + 1) a (omega arith) (omega arith) (λ j l h t. (λ (x : j ≡ a). omega arith))
          ∙ insert-same m (shard_name dataset s a) (shard_object dataset s sharding es a).1)

      later : a ≢ k → (b : Bool) → has_chunk es a ≡ b
          → ((q : Objects) → fin.get (put_in q (listed (a + 1) n)) (shard_name dataset s k) ≡ Some (shard_bytes sharding.minishard_bits (in_shard es k)))
          → fin.get (put_in m (listed a (suc n))) (shard_name dataset s k) ≡ Some (shard_bytes sharding.minishard_bits (in_shard es k))
      later apart true e rest = ap (λ list. fin.get (put_in m list) (shard_name dataset s k)) (with_first a n e) ∙ rest (fin.insert m (shard_name dataset s a) (shard_object dataset s sharding es a).1)
      later apart false e rest = ap (λ list. fin.get (put_in m list) (shard_name dataset s k)) (without_first a n e) ∙ rest m

  -- of all shards
  pub get-put_shard : (m : Objects) (k : ℕ) → k < 2 ^ sharding.shard_bits → has_chunk es k ≡ true
      → fin.get (put_in m (listed 0 (2 ^ sharding.shard_bits))) (shard_name dataset s k) ≡ Some (shard_bytes sharding.minishard_bits (in_shard es k))
  get-put_shard m k h has = there m (2 ^ sharding.shard_bits) 0 k (omega arith) (omega arith) (omega arith) has

  pub get-kept_shard : (m : Objects) (k : ℕ) → k < 2 ^ sharding.shard_bits → has_chunk es k ≡ false
      → fin.get (put_in m (listed 0 (2 ^ sharding.shard_bits))) (shard_name dataset s k) ≡ fin.get m (shard_name dataset s k)
  get-kept_shard m k h none =
      other m (2 ^ sharding.shard_bits) 0 k (omega arith) h (λ j low high has same. let has_it : has_chunk es k ≡ true = subst (λ i. has_chunk es i ≡ true) same has in absurd (cc (none, has_it)))

-- ids whose shards have one name have one shard
pub same_shard : (dataset : List ℕ) (s : Scale) (sharding : Sharding) → s.sharding ≡ Some sharding → (a b : ℕ) → shard_name dataset s (shard_of sharding a) ≡ shard_name dataset s (shard_of sharding b) → shard_of sharding a ≡ shard_of sharding b
same_shard dataset s sharding is a b e =
    shard_name-tells dataset s (shard_of sharding a) (shard_of sharding b)
    (below dataset s sharding [] is (shard_of sharding a) (mod_below (hashed sharding a / 2 ^ sharding.minishard_bits) (2 ^ sharding.shard_bits) (pow_pos sharding.shard_bits)))
    (below dataset s sharding [] is (shard_of sharding b) (mod_below (hashed sharding b / 2 ^ sharding.minishard_bits) (2 ^ sharding.shard_bits) (pow_pos sharding.shard_bits))) e
