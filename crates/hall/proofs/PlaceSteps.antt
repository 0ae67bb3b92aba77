-- Seats in their places, one after the other.
use Rattle.std.proofs.Common.{take, ◌≡◌, ◌<◌, ◌≤◌, ◌+◌, ◌-◌, drop, option_map, ℕ, zero, suc, List, [], ◌∷◌, ◌++◌, length, get_or, map, inl, inr, refl, sym, ap, ◌∙◌, subst, append_assoc, append-nil, arith}
use Rattle.std.specs.Prelude.{Option, Some, None, IfSome, IsSome, slice_set}
use Rattle.std.proofs.lemmas.Option.{same_Some}
use Rattle.std.proofs.lemmas.Bool.Decides.{eqb_tells}
use Rattle.std.proofs.lemmas.List.{length-set, get_or-set_same, get_or-set_other, get_or_append_left, get_or-append_right, get_or-drop, take_more}
use Rattle.vol_base.specs.Outside.{Draft, Objects}
use Rattle.hall.specs.declared.outcome.Outcome.{Outcome}
use Rattle.hall.specs.Halls.{IsIdle, IsRested, TellAll, TellsAs, Turned, kept_count, kept_weight}
use Rattle.job_log.specs.Replay.{some_count}
use Rattle.std.proofs.lemmas.Bool.{cases_lt}
use Rattle.hall.proofs.Fronts.{some_is}

-- a store in its place tells what all tell
pub tells_at : (told : List (Option Objects)) (i : ℕ) (o : Option Objects) → i < length told → o ≡ get_or told i None → TellsAs told o
tells_at told i o below is = λ m all. is ∙ all i None below

alone : (m : Objects) (o : Option Objects) → o ≡ Some m → TellAll (o ∷ []) m
alone m o is = at
  where
    at : TellAll (o ∷ []) m
    at zero d l = is
    at (suc k) d l = absurd (omega (arith, l))

-- what serving an end from a store leaves, by what all stores tell
pub turned_all : (told : List (Option Objects)) (o : Option Objects) (dataset : List ℕ) (outcome : Outcome) (stream sent : Option (List ℕ)) (faults before now : ℕ) → TellsAs told o
    → Turned (o ∷ []) dataset outcome stream sent faults before now → Turned told dataset outcome stream sent faults before now
turned_all told o dataset outcome stream sent faults before now tells turned = record {
  fits = λ m all. turned.fits m (alone m o (tells m all));
  later = turned.later;
  rose = turned.rose;
}

-- a list begins with another
abbrev pub IsFront : {X : Type 0} → List X → List X → Type 0
IsFront {X} new whole = (rest : List X) × (whole ≡ new ++ rest)

pub front_self : {X : Type 0} (xs : List X) → IsFront xs xs
front_self xs = ([], sym (append-nil xs))

pub front_pop : {X : Type 0} (whole old new : List X) (x : X) → IsFront old whole → old ≡ new ++ x ∷ [] → IsFront new whole
front_pop whole old new x front is = (x ∷ front.0, front.1 ∙ ap (λ xs. xs ++ front.0) is ∙ append_assoc new (x ∷ []) front.0)

map_at : {X Y : Type 0} (f : X → Y) (ys rest : List X) (x : X) (d : Y) → get_or (map f (ys ++ x ∷ rest)) (length ys) d ≡ f x
map_at f [] rest x d = refl
map_at f (y ∷ ys) rest x d = map_at f ys rest x d

-- what the last of the front is made to, by its place in the whole
pub at_pop : {X Y : Type 0} (f : X → Y) (whole old new : List X) (x : X) (d : Y) → IsFront old whole → old ≡ new ++ x ∷ [] → f x ≡ get_or (map f whole) (length new) d
at_pop f whole old new x d front is =
    let rest = front.0 in
    let whole_is : whole ≡ new ++ x ∷ rest = front.1 ∙ ap (λ xs. xs ++ rest) is ∙ append_assoc new (x ∷ []) rest in
    sym (ap (λ xs. get_or (map f xs) (length new) d) whole_is ∙ map_at f new rest x d)

-- one place more, from the last to the first
pub put_below : {X : Type 0} (xs : List X) (n : ℕ) (x : X) (Q : ℕ → X → Type 0) → n < length xs → Q n x → ((k : ℕ) (d : X) → n + 1 ≤ k → k < length xs → Q k (get_or xs k d))
    → (k : ℕ) (d : X) → n ≤ k → k < length (slice_set xs n x) → Q k (get_or (slice_set xs n x) k d)
put_below xs n x Q below is had k d from l = elim (eqb_tells k n) [
  | inl same ↦
      let at : get_or (slice_set xs n x) k d ≡ x = ap (λ j. get_or (slice_set xs n x) j d) same.1 ∙ get_or-set_same xs n x d below in
      subst (λ o. Q k o) (sym at) (subst (λ j. Q j x) (sym same.1) is)
  | inr other ↦
      let at : get_or (slice_set xs n x) k d ≡ get_or xs k d = get_or-set_other xs n k x d other.1 in
      subst (λ o. Q k o) (sym at) (had k d (omega (arith, from, other.1)) (omega (arith, l, length-set xs n x)))
]

-- the places behind one that was taken in
pub after_take : {X : Type 0} (xs : List X) (n : ℕ) (x : X) (Q : ℕ → X → Type 0) → ((k : ℕ) (d : X) → n ≤ k → k < length xs → Q k (get_or xs k d))
    → (k : ℕ) (d : X) → n + 1 ≤ k → k < length (slice_set xs n x) → Q k (get_or (slice_set xs n x) k d)
after_take xs n x Q had k d from l =
    let at : get_or (slice_set xs n x) k d ≡ get_or xs k d = get_or-set_other xs n k x d (λ e. absurd (omega (arith, e, from))) in
    subst (λ o. Q k o) (sym at) (had k d (omega (arith, from)) (omega (arith, l, length-set xs n x)))

-- what is said of the value in a place
pub at_place : {X : Type 0} (xs : List (Option X)) (i : ℕ) (o : Option X) (x : X) (Q : X → Type 0) → o ≡ get_or xs i o → o ≡ Some x → IfSome (get_or xs i o) Q → Q x
at_place xs i o x Q is some h = some_is Q o x some (subst (λ q. IfSome q Q) (sym is) h)

-- one store more, in its place
pub told_more : {X : Type 0} (told : List X) (before now : List X) (i : ℕ) (x d : X) → i < length told → before ≡ take i told → x ≡ get_or told i d → now ≡ before ++ x ∷ [] → now ≡ take (i + 1) told
told_more told before now i x d below was at is = is ∙ ap (λ xs. xs ++ x ∷ []) was ∙ ap (λ y. take i told ++ y ∷ []) at ∙ sym (take_more told i d below)

-- a seat that did nothing
pub rested_none : (told : List (Option Objects)) (drafts : List (Option Draft)) (counts : List ℕ) (i number : ℕ) (job : Option ℕ) (kept : Option Outcome) (o : Option Objects) (draft : Option Draft) (now parts amount : ℕ) → IsIdle told drafts counts i number job kept o draft now parts amount → IsRested told drafts counts i job kept o draft now parts amount
rested_none told drafts counts i number job kept o draft now parts amount idle = record {
  out = ap some_count idle.out ∙ sym (ap kept_count idle.back);
  store = idle.store;
  writes = idle.writes;
  later = omega (arith, idle.stands);
  paid = inr (omega (arith, idle.stands, idle.none, ap kept_weight idle.back));
  part = idle.part;
}

-- no end came back where no outcome did
pub none_back : {X : Type 0} (f : X → Outcome) (P : X → Type 0) (kept : Option X) → option_map f kept ≡ None → IfSome kept P
none_back f P None is = tt
none_back f P (Some x) is = absurd (cc is)

-- what is so of those in front, and of those behind
pub joined_places : {X : Type 0} (front old : List X) (n : ℕ) (Q : ℕ → X → Type 0) → length front ≡ n → n ≤ length old → ((k : ℕ) (d : X) → k < n → Q k (get_or front k d)) → ((k : ℕ) (d : X) → n ≤ k → k < length old → Q k (get_or old k d))
    → (k : ℕ) (d : X) → k < length old → Q k (get_or (front ++ drop n old) k d)
joined_places front old n Q len few here there k d below = elim (cases_lt k n) [
  | inl less ↦ subst (λ o. Q k o) (sym (get_or_append_left front (drop n old) d k (omega (arith, less, len)))) (here k d less)
  | inr past ↦
      let at : get_or (front ++ drop n old) k d ≡ get_or old k d =
      get_or-append_right front (drop n old) n k d len past ∙ get_or-drop n old (k - n) d ∙ ap (λ j. get_or old j d) (omega (arith, past)) in
      subst (λ o. Q k o) (sym at) (there k d past below)
]

-- of a value, where there is one
pub some_more : {X : Type 0} (o : Option X) (P Q : X → Type 0) → ((x : X) → P x → Q x) → IfSome o P → IfSome o Q
some_more None P Q f h = tt
some_more (Some x) P Q f h = f x h

pub some_both : {X : Type 0} (o : Option X) (P Q R : X → Type 0) → ((x : X) → P x → Q x → R x) → IfSome o P → IfSome o Q → IfSome o R
some_both None P Q R f h k = tt
some_both (Some x) P Q R f h k = f x h k

-- a seat keeps its number, which is that of its place
pub number_kept : {X : Type 0} (f : X → ℕ) (old new : Option X) (i : ℕ) → option_map f new ≡ option_map f old → IfSome old (λ x. f x ≡ i) → IfSome new (λ x. f x ≡ i)
number_kept f old None i same h = tt
number_kept f None (Some y) i same h = absurd (cc same)
number_kept f (Some x) (Some y) i same h = same_Some (f y) (f x) same ∙ h

pub some_kept : {X : Type 0} (f : X → ℕ) (old new : Option X) → option_map f new ≡ option_map f old → IsSome old → IsSome new
some_kept f (Some x) None same h = absurd (cc same)
some_kept f old (Some y) same h = refl
some_kept f None None same h = h

pub idle_own : (told : List (Option Objects)) (drafts : List (Option Draft)) (counts : List ℕ) (i number : ℕ) (job : Option ℕ) (kept : Option Outcome) (o : Option Objects) (draft : Option Draft) (now parts amount : ℕ) → IsIdle told drafts counts i number job kept o draft now parts amount → IsIdle told drafts counts number number job kept o draft now parts amount
idle_own told drafts counts i number job kept o draft now parts amount idle = subst (λ j. IsIdle told drafts counts j number job kept o draft now parts amount) (sym idle.mine) idle
