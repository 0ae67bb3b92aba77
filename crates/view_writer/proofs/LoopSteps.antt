-- One view more.
use Rattle.std.proofs.Common.{◌≡◌, ℕ, ◌+◌, ◌-◌, ◌^◌, ◌<◌, ◌≤◌, ◌++◌, List, [], ◌∷◌, length, get_or, min, take, drop, Option, Some, None, ap, ◌∙◌, sym, subst, arith}
use Rattle.std.specs.Prelude.{All, OnErr, Result, Ok, Err}
use Rattle.std.proofs.lemmas.Grind.{flat_map-append}
use Rattle.std.proofs.lemmas.List.{append-nil, length-append, length-take, take-append-drop, take-append-le, take_all, take_more}
use Rattle.std.proofs.lemmas.List.Concat.{flat_map-cons}
use Rattle.std.proofs.lemmas.List.Elements.{All-take, All-weaker}
use Rattle.std.proofs.lemmas.List.Sums.{sum_by-append, sum_by-cons, sum_by_more}
use Rattle.std.proofs.Math.Seq.{take-append-add}
use Rattle.vol_base.specs.Outside.{Objects}
use Rattle.vol_base.proofs.Moments.{passes_weaker}
use Rattle.vol_spec.proofs.PutSteps.{put_in-append}
use Rattle.vol_spec.specs.StoredCells.{met_cells, put_in}
use Rattle.vol_spec.specs.Types.{Listed, Name, Writes}
use Rattle.vol_spec.specs.Views.{view}
use Rattle.vol_spec.specs.declared.scale.Scale.{Scale}
use Rattle.shard_writer.specs.Writing.{PutsFront, joint_len}
use Rattle.shard_writer.specs.Works.{PassesFronts}
use Rattle.shard_writer.specs.declared.written.Written.{Written}
use Rattle.write_plan.specs.Plans.{pairs}
use Rattle.write_plan.specs.WriteLists.{BoxWrite, IsWriteOf}
use Rattle.size_laws.specs.Further.{all_views}
use Rattle.size_laws.specs.Sizes.{stored_all}
use Rattle.vol_spec.specs.Writable.{IsWritable}
use Rattle.view_writer.proofs.PairSteps.{all_length, few_each, view_at}
use Rattle.view_writer.proofs.SmallSteps.{AreFew, IsSmall, all_small, no_shards, views_small}
use Rattle.view_writer.specs.Views.{ArePut, IsFront, IsPut, cells_all, first_many, of_view}

-- fronts of lists that are put one after the other
front_next : (xs ys : Listed) (m : Objects) (now : Option Objects) → PutsFront ys (put_in m xs) now → PutsFront (xs ++ ys) m now
front_next xs ys m now h = record {
  count = length xs + h.count;
  within = (let long = length-append xs ys in let few = h.within in omega (arith, long, few));
  put = h.put ∙ ap Some (sym (put_in-append m xs (take h.count ys))) ∙ ap (λ list. Some (put_in m list)) (sym (take-append-add xs ys h.count));
}

front_before : (xs ys : Listed) (m : Objects) (now : Option Objects) → PutsFront xs m now → PutsFront (xs ++ ys) m now
front_before xs ys m now h = record {
  count = h.count;
  within = (let long = length-append xs ys in let few = h.within in omega (arith, long, few));
  put = h.put ∙ ap (λ list. Some (put_in m list)) (sym (take-append-le h.count xs ys h.within));
}

-- the objects of one view more
stored_more : (dataset : Name) (views : List Scale) (writes : Writes) (k : ℕ) (d : Scale) → k < length views
    → stored_all dataset (take (k + 1) views) writes ≡ stored_all dataset (take k views) writes ++ of_view dataset (get_or views k d) writes
stored_more dataset views writes k d l =
    ap (λ vs. stored_all dataset vs writes) (take_more views k d l)
    ∙ flat_map-append (λ v. of_view dataset v writes) (take k views) (get_or views k d ∷ [])
    ∙ ap (λ rest. stored_all dataset (take k views) writes ++ rest) (flat_map-cons (λ v. of_view dataset v writes) (get_or views k d) [] ∙ append-nil (of_view dataset (get_or views k d) writes))

stored_split : (dataset : Name) (views : List Scale) (writes : Writes) (k : ℕ)
    → stored_all dataset (take k views) writes ++ stored_all dataset (drop k views) writes ≡ stored_all dataset views writes
stored_split dataset views writes k =
    sym (flat_map-append (λ v. of_view dataset v writes) (take k views) (drop k views))
    ∙ ap (λ vs. stored_all dataset vs writes) (take-append-drop k views)

-- what was put of the first views
abbrev pub IsDone : ℕ → Option Objects → Option Objects → Name → Scale → Writes → Written → Type 0
IsDone j old now dataset s writes written =
    IsPut old now (stored_all dataset (take j (all_views s)) writes) (cells_all (take j (all_views s)) writes) written

-- the first one
first_list : (dataset : Name) (s : Scale) (writes : Writes) → stored_all dataset (take 1 (all_views s)) writes ≡ of_view dataset s writes
first_list dataset s writes = flat_map-cons (λ v. of_view dataset v writes) s [] ∙ append-nil (of_view dataset s writes)

add_none : (n : ℕ) → n + 0 ≡ n
add_none n = omega arith

first_cells : (s : Scale) (writes : Writes) → cells_all (take 1 (all_views s)) writes ≡ length (met_cells s writes)
first_cells s writes = sum_by-cons (λ v. length (met_cells v writes)) s [] ∙ add_none (length (met_cells s writes))

pub first_done : (written : Written) (o now : Option Objects) (dataset : Name) (s : Scale) (writes : Writes) → IsPut o now (of_view dataset s writes) (length (met_cells s writes)) written
    → IsDone 1 o now dataset s writes written
first_done written None now dataset s writes h = tt
first_done written (Some m) now dataset s writes h = record {
  put = h.put ∙ ap (λ list. Some (put_in m list)) (sym (first_list dataset s writes));
  objects_are = h.objects_are ∙ ap length (sym (first_list dataset s writes));
  cells_are = h.cells_are ∙ sym (first_cells s writes);
  bytes_are = h.bytes_are ∙ ap joint_len (sym (first_list dataset s writes));
}

-- sums that aren't cut off
pub record AreAdded (a b sum : Written) : Type 0 where
  pub objects_sum : sum.objects ≡ min (a.objects + b.objects) (2 ^ 64 - 1)
  pub cells_sum : sum.cells ≡ min (a.cells + b.cells) (2 ^ 64 - 1)
  pub bytes_sum : sum.bytes ≡ min (a.bytes + b.bytes) (2 ^ 64 - 1)

uncut : (sum a b total : ℕ) → sum ≡ min (a + b) (2 ^ 64 - 1) → total ≡ a + b → total ≤ 2 ^ 53 → sum ≡ total
uncut sum a b total e is small = omega (arith, e, is, small)

-- and one more
module _ (dataset : Name) (s v : Scale) (writes : Writes) (k j : ℕ) (l : k < length s.more) (e : k + 1 ≡ j) (is : v ≡ view s j) (seven : length s.more ≤ 7)
    (can : All IsWritable (all_views s)) (few : first_many (all_views s) writes ≡ None) where
  within : j < length (all_views s)
  within = let n = all_length s in omega (arith, n, l, e)

  at_j : get_or (all_views s) j s ≡ v
  at_j = view_at s k j s l e ∙ sym is

  list_more : stored_all dataset (take (j + 1) (all_views s)) writes ≡ stored_all dataset (take j (all_views s)) writes ++ of_view dataset v writes
  list_more = stored_more dataset (all_views s) writes j s within ∙ ap (λ u. stored_all dataset (take j (all_views s)) writes ++ of_view dataset u writes) at_j

  cells_more : cells_all (take (j + 1) (all_views s)) writes ≡ cells_all (take j (all_views s)) writes + length (met_cells v writes)
  cells_more = sum_by_more (λ u. length (met_cells u writes)) (all_views s) j s within ∙ ap (λ u. cells_all (take j (all_views s)) writes + length (met_cells u writes)) at_j

  joint_more : joint_len (stored_all dataset (take (j + 1) (all_views s)) writes) ≡ joint_len (stored_all dataset (take j (all_views s)) writes) + joint_len (of_view dataset v writes)
  joint_more = ap joint_len list_more ∙ sum_by-append (λ (o : Name × List ℕ). length o.1) (stored_all dataset (take j (all_views s)) writes) (of_view dataset v writes)

  number_more : length (stored_all dataset (take (j + 1) (all_views s)) writes) ≡ length (stored_all dataset (take j (all_views s)) writes) + length (of_view dataset v writes)
  number_more = ap length list_more ∙ length-append (stored_all dataset (take j (all_views s)) writes) (of_view dataset v writes)

  small : AreFew (length (stored_all dataset (take (j + 1) (all_views s)) writes)) (cells_all (take (j + 1) (all_views s)) writes) (joint_len (stored_all dataset (take (j + 1) (all_views s)) writes)) (length (take (j + 1) (all_views s)))
  small = all_small dataset (take (j + 1) (all_views s)) writes (All-take (IsSmall writes) (j + 1) (all_views s) (views_small s writes (no_shards s k l) can (few_each (λ v. pairs v writes) (all_views s) few)))

  eight : length (take (j + 1) (all_views s)) ≤ 8
  eight = let n = all_length s in let m = length-take (j + 1) (all_views s) in omega (arith, n, m, seven)

  counted_more : (m : Objects) (mid now : Option Objects) (a more sum : Written) → IsDone j (Some m) mid dataset s writes a → AreAdded a more sum
      → ArePut (put_in m (stored_all dataset (take j (all_views s)) writes)) now (of_view dataset v writes) (length (met_cells v writes)) more
      → IsDone (j + 1) (Some m) now dataset s writes sum
  counted_more m mid now a more sum before added own =
      let fewer = small in
      let most = eight in
      record {
        put = own.put ∙ ap Some (sym (put_in-append m (stored_all dataset (take j (all_views s)) writes) (of_view dataset v writes))) ∙ ap (λ list. Some (put_in m list)) (sym list_more);
        objects_are = uncut sum.objects a.objects more.objects (length (stored_all dataset (take (j + 1) (all_views s)) writes)) added.objects_sum
            (number_more ∙ ap (λ n. n + length (of_view dataset v writes)) (sym before.objects_are) ∙ ap (λ n. a.objects + n) (sym own.objects_are)) (let x = fewer.few_objects in omega (arith, x, most));
        cells_are = uncut sum.cells a.cells more.cells (cells_all (take (j + 1) (all_views s)) writes) added.cells_sum
            (cells_more ∙ ap (λ n. n + length (met_cells v writes)) (sym before.cells_are) ∙ ap (λ n. a.cells + n) (sym own.cells_are)) (let x = fewer.few_cells in omega (arith, x, most));
        bytes_are = uncut sum.bytes a.bytes more.bytes (joint_len (stored_all dataset (take (j + 1) (all_views s)) writes)) added.bytes_sum
            (joint_more ∙ ap (λ n. n + joint_len (of_view dataset v writes)) (sym before.bytes_are) ∙ ap (λ n. a.bytes + n) (sym own.bytes_are)) (let x = fewer.few_bytes in omega (arith, x, most));
      }

  pub next_done : (o mid now : Option Objects) (a more sum : Written) → IsDone j o mid dataset s writes a → AreAdded a more sum
      → IsPut mid now (of_view dataset v writes) (length (met_cells v writes)) more → IsDone (j + 1) o now dataset s writes sum
  next_done None mid now a more sum before added own = tt
  next_done (Some m) mid now a more sum before added own =
      counted_more m mid now a more sum before added
      (subst (λ o. IsPut o now (of_view dataset v writes) (length (met_cells v writes)) more) before.put own)

  -- where a view isn't written whole, a front of all objects stands
  pub next_failed : (o mid now : Option Objects) (a : Written) → IsDone j o mid dataset s writes a → IsFront mid now (of_view dataset v writes) → IsFront o now (stored_all dataset (all_views s) writes)
  next_failed None mid now a before own = tt
  next_failed (Some m) mid now a before own =
      let here : PutsFront (of_view dataset v writes) (put_in m (stored_all dataset (take j (all_views s)) writes)) now = subst (λ o. IsFront o now (of_view dataset v writes)) before.put own in
      subst (λ xs. PutsFront xs m now) (stored_split dataset (all_views s) writes (j + 1))
      (front_before (stored_all dataset (take (j + 1) (all_views s)) writes) (stored_all dataset (drop (j + 1) (all_views s)) writes) m now
      (subst (λ xs. PutsFront xs m now) (sym list_more) (front_next (stored_all dataset (take j (all_views s)) writes) (of_view dataset v writes) m now here)))

  -- and so it is at each moment
  pub next_passed : (o mid : Option Objects) (a : Written) (was now : List Objects) → IsDone j o mid dataset s writes a → PassesFronts (λ m. of_view dataset v writes) mid was now → PassesFronts (λ m. stored_all dataset (all_views s) writes) o was now
  next_passed o mid a was now before =
      passes_weaker (λ x. IsFront mid (Some x) (of_view dataset v writes)) (λ x. IsFront o (Some x) (stored_all dataset (all_views s) writes)) (λ x h. next_failed o mid (Some x) a before h) was now

pub first_failed : (o now : Option Objects) (dataset : Name) (s : Scale) (writes : Writes) → IsFront o now (of_view dataset s writes) → IsFront o now (stored_all dataset (all_views s) writes)
first_failed None now dataset s writes own = tt
first_failed (Some m) now dataset s writes own =
    subst (λ xs. PutsFront xs m now) (stored_split dataset (all_views s) writes 1)
    (front_before (stored_all dataset (take 1 (all_views s)) writes) (stored_all dataset (drop 1 (all_views s)) writes) m now (subst (λ xs. PutsFront xs m now) (sym (first_list dataset s writes)) own))

pub first_passed : (o : Option Objects) (dataset : Name) (s : Scale) (writes : Writes) (was now : List Objects) → PassesFronts (λ m. of_view dataset s writes) o was now → PassesFronts (λ m. stored_all dataset (all_views s) writes) o was now
first_passed o dataset s writes was now =
    passes_weaker (λ x. IsFront o (Some x) (of_view dataset s writes)) (λ x. IsFront o (Some x) (stored_all dataset (all_views s) writes)) (λ x h. first_failed o (Some x) dataset s writes h) was now

-- behind the last one
pub all_done : (written : Written) (o now : Option Objects) (dataset : Name) (s : Scale) (writes : Writes) (j : ℕ) → length s.more < j → IsDone j o now dataset s writes written
    → IsPut o now (stored_all dataset (all_views s) writes) (cells_all (all_views s) writes) written
all_done written o now dataset s writes j l h =
    subst (λ vs. IsPut o now (stored_all dataset vs writes) (cells_all vs writes) written) (take_all j (all_views s) (let n = all_length s in omega (arith, n, l))) h

-- what holds anyhow holds of an error
pub on_err : {A E P : Type 0} (r : Result A E) → P → OnErr r P
on_err (Ok a) h = tt
on_err (Err e) h = h

-- writes into a scale are writes into each view
pub writes_of_view : (s : Scale) (k : ℕ) (writes : List BoxWrite) → All (IsWriteOf s) writes → All (IsWriteOf (view s k)) writes
unfolding view
writes_of_view s k writes each =
    All-weaker (IsWriteOf s) (IsWriteOf (view s k))
    (λ w is. record { inside = record { some = is.inside.some; within = is.inside.within }; bytes = is.bytes })
    writes each
