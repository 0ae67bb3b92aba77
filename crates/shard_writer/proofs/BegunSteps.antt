-- The object that is being written where a writer of shards gives up.
use Rattle.std.proofs.Common.{◌≡◌, ◌∙◌, ℕ, zero, suc, ◌<◌, ◌≤◌, List, [], ◌∷◌, ◌++◌, length, length-append, take, Option, Some, None, IfSome, arith, refl, ap, sym, subst, ◌⊎◌, inl, inr, ⊎_elim}
use Rattle.std.specs.List.{slice_get}
use Rattle.std.specs.Option.{option_map}
use Rattle.std.proofs.lemmas.Bool.{cases_lt}
use Rattle.std.proofs.lemmas.List.{take_at}
use Rattle.vol_base.specs.Outside.{Draft, Objects}
use Rattle.vol_spec.specs.ShardNames.{shard_name}
use Rattle.vol_spec.specs.StoredCells.{put_in}
use Rattle.vol_spec.specs.declared.row.Row.{Row}
use Rattle.vol_spec.specs.declared.scale.Scale.{Scale}
use Rattle.vol_spec.specs.declared.sharding.Sharding.{Sharding}
use Rattle.write_plan.specs.declared.jobs.Job.{Job}
use Rattle.shard_writer.specs.ShardRuns.{AreOrdered, chunk_of, shards_between}
use Rattle.shard_writer.specs.States.{IsBetween, IsPlace}
use Rattle.shard_writer.specs.Writing.{BeginsNext, Drops}
use Rattle.shard_writer.specs.Works.{raw_in}
use Rattle.shard_writer.proofs.ObjectSteps.{first_between}
use Rattle.shard_writer.proofs.StateSteps.{front_of as split_front}

get_behind : {X : Type 0} (xs ys : List X) (n : ℕ) → n ≡ length xs → slice_get (xs ++ ys) n ≡ slice_get ys 0
get_behind [] ys zero e = refl
get_behind [] ys (suc n) e = absurd (omega (arith, e))
get_behind (x ∷ xs) ys zero e = absurd (omega (arith, e))
get_behind (x ∷ xs) ys (suc n) e = get_behind xs ys n (omega (arith, e))

-- behind the shards of the jobs before one comes the shard that is open
next_named : (dataset : List ℕ) (s : Scale) (sharding : Sharding) (jobs : ℕ → Job) (raw : ℕ → List ℕ) (count a b k : ℕ) → AreOrdered sharding count jobs → IsPlace count jobs a b k → a < k → k < count
    → option_map (λ (o : List ℕ × List ℕ). o.0) (slice_get (shards_between dataset s sharding jobs raw 0 count) (length (shards_between dataset s sharding jobs raw 0 a))) ≡ Some (shard_name dataset s (jobs k).place.shard)
next_named dataset s sharding jobs raw count a b k order place l h =
    let front : List (List ℕ × List ℕ) = shards_between dataset s sharding jobs raw 0 a in
    let back : List (List ℕ × List ℕ) = shards_between dataset s sharding jobs raw a count in
    ap (λ list. option_map (λ (o : List ℕ × List ℕ). o.0) (slice_get list (length front))) (split_front dataset s sharding jobs raw count a b k order place)
    ∙ ap (option_map (λ (o : List ℕ × List ℕ). o.0)) (get_behind front back (length front) refl)
    ∙ first_between dataset s sharding jobs raw a count (jobs k).place.shard (omega arith) (order.in_shards k h) (place.same_shard a (omega arith) (omega arith) h) (λ i li ui. behind i li ui)
  where
    behind : (i : ℕ) → a ≤ i → i < count → (jobs k).place.shard ≤ (jobs i).place.shard
    behind i li ui = ⊎_elim (λ (x : k < i). order.shards k i x ui) (λ (x : i ≤ k). let same : (jobs i).place.shard ≡ (jobs k).place.shard = place.same_shard i li x h in omega arith) (cases_lt k i)

-- between two jobs nothing is being written, or what was before, or it is the next shard
pub begun_between : (o now new : Option Objects) (dataset : List ℕ) (s : Scale) (sharding : Sharding) (jobs : ℕ → Job) (raw : Objects → ℕ → List ℕ) (len : ℕ → ℕ) (count a k at : ℕ) (rows : List Row) (first draft last : Option Draft)
    → AreOrdered sharding count jobs → k < count
    → IsBetween o (λ i. shard_name dataset s (jobs i).place.shard) sharding.minishard_bits (chunk_of jobs (raw_in o raw len)) count jobs a k at rows draft
    → now ≡ option_map (λ m. put_in m (shards_between dataset s sharding jobs (raw_in o raw len) 0 a)) o → new ≡ now → last ≡ draft → (a ≡ k → Drops first draft)
    → Drops first last ⊎ IfSome o (λ m. BeginsNext (shards_between dataset s sharding jobs (raw m) 0 count) m new last)
begun_between None now new dataset s sharding jobs raw len count a k at rows first draft last order h between was is kept drops = inr tt
begun_between (Some m) now new dataset s sharding jobs raw len count a k at rows first draft last order h between was is kept drops = by (cases_lt a k)
  where
    begins : a < k → BeginsNext (shards_between dataset s sharding jobs (raw m) 0 count) m new last
    begins l =
        let list : List (List ℕ × List ℕ) = shards_between dataset s sharding jobs (raw m) 0 count in
        let front : List (List ℕ × List ℕ) = shards_between dataset s sharding jobs (raw m) 0 a in
        let back : List (List ℕ × List ℕ) = shards_between dataset s sharding jobs (raw m) a count in
        let split : list ≡ front ++ back = split_front dataset s sharding jobs (raw m) count a between.b k order between.place in
        let P : Option Draft → Type 0 = λ x. IfSome x (λ d. IfSome d.told (λ (told : List ℕ × List ℕ). option_map (λ (o : List ℕ × List ℕ). o.0) (slice_get list (length front)) ≡ Some told.0)) in
        record {
          front = record {
            count = length front;
            within = omega (arith, ap length split, length-append front back);
            put = is ∙ was ∙ ap (λ xs. Some (put_in m xs)) (sym (ap (take (length front)) split ∙ take_at front back (length front) refl));
          };
          named = subst P (sym (kept ∙ (between.some l).draft_is)) (next_named dataset s sharding jobs (raw m) count a between.b k order between.place l h);
        }

    by : ((a < k) ⊎ (k ≤ a)) → Drops first last ⊎ BeginsNext (shards_between dataset s sharding jobs (raw m) 0 count) m new last
    by (inl l) = inr (begins l)
    by (inr g) = inl (subst (Drops first) (sym kept) (drops (let x = between.place.order_a in let y = between.place.order_b in omega arith)))
