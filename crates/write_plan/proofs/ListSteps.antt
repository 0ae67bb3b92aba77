-- A list of writes that grows, and the rest of a stream.
use Rattle.std.proofs.Common.{◌≡◌, ℕ, suc, ◌+◌, ◌-◌, ◌<◌, ◌≤◌, List, [], ◌∷◌, ◌++◌, length, map, sum, Option, Err, ap, ◌∙◌, sym, subst, arith, append_assoc}
use Rattle.std.specs.Option.{option_map}
use Rattle.std.proofs.lemmas.List.{map-append}
use Rattle.std.proofs.lemmas.Grind.{common_steps}
use Rattle.vol_spec.specs.declared.scale.Scale.{Scale}
use Rattle.write_plan.specs.Reading.{write_at, writes_at}
use Rattle.write_plan.specs.Readers.{Gave, Reads, gives}
use Rattle.write_plan.specs.WriteLists.{BoxWrite, write_in, writes_in, total}
use Rattle.write_plan.specs.declared.fault.PlanFault.{PlanFault}
use Rattle.write_plan.specs.declared.writes.Write.{Write}
use Rattle.write_plan.proofs.FeedSteps.{gave_then, read_first}

pub sum_last : (xs : List ℕ) (x : ℕ) → sum (xs ++ x ∷ []) ≡ sum xs + x
sum_last xs x = grind (arith, common_steps)

pub total_last : (ws : List BoxWrite) (w : BoxWrite) → total (ws ++ w ∷ []) ≡ total ws + length w.1
total_last ws w = ap sum (map-append (λ (v : BoxWrite). length v.1) ws (w ∷ [])) ∙ sum_last (map (λ (v : BoxWrite). length v.1) ws) (length w.1)

pub writes_last : (ws : List Write) (w : Write) → writes_in (ws ++ w ∷ []) ≡ writes_in ws ++ write_in w ∷ []
writes_last ws w = map-append write_in ws (w ∷ [])

-- what is pushed for each element
pub pushed_more : {X Y : Type 0} (f : X → Y) (old now : List Y) (done : List X) (x : X) → now ≡ old ++ map f done → now ++ f x ∷ [] ≡ old ++ map f (done ++ x ∷ [])
pushed_more f old now done x e = ap (λ ys. ys ++ f x ∷ []) e ∙ append_assoc old (map f done) (f x ∷ []) ∙ ap (λ ys. old ++ ys) (sym (map-append f done (x ∷ [])))

-- one write more
writes_next : (s : Scale) (n : ℕ) (ws : List BoxWrite) (o p : Option (List ℕ)) (w : BoxWrite) → Gave (write_at s (length ws) (total ws)) o p w → option_map (writes_at s (suc n) ws) o ≡ option_map (writes_at s n (ws ++ w ∷ [])) p
unfolding writes_at
writes_next s n ws o p w h = gave_then (write_at s (length ws) (total ws)) (λ r. writes_at s n (ws ++ r.0 ∷ []) r.1) o p w h

one_left : (count number : ℕ) → number < count → count - number ≡ suc (count - (number + 1))
one_left count number h = omega arith

pub list_more : (s : Scale) (count number before : ℕ) (ws : List BoxWrite) (w : BoxWrite) (o m p : Option (List ℕ)) → option_map (writes_at s count []) o ≡ option_map (writes_at s (count - number) ws) m → number < count → number ≡ length ws → before ≡ total ws → Gave (write_at s number before) m p w → option_map (writes_at s count []) o ≡ option_map (writes_at s (count - (number + 1)) (ws ++ w ∷ [])) p
list_more s count number before ws w o m p steps below len size h =
    let g : Gave (write_at s (length ws) (total ws)) m p w = subst (λ (i : ℕ). Gave (write_at s i (total ws)) m p w) len (subst (λ (b : ℕ). Gave (write_at s number b) m p w) size h) in
    steps ∙ ap (λ n. option_map (writes_at s n ws) m) (one_left count number below) ∙ writes_next s (count - (number + 1)) ws m p w g

writes_stopped : {F C D : Type 0} (see : C → BoxWrite) (all : D → List BoxWrite) (left : F → Option (List ℕ)) (faults : F → ℕ) (old new : F) (m n : ℕ) (s : Scale) (k : ℕ) (ws : List BoxWrite) (e : PlanFault) → Reads left faults old new m (write_at s (length ws) (total ws)) see (Err e) → m ≤ n
    → Reads left faults old new n (writes_at s (suc k) ws) all (Err e)
unfolding writes_at
writes_stopped see all left faults old new m n s k ws e h l = read_first left faults old new m n (write_at s (length ws) (total ws)) (λ r. writes_at s k (ws ++ r.0 ∷ []) r.1) see all e h l

-- the write that is wrong
pub list_stopped : {F C D : Type 0} (see : C → BoxWrite) (all : D → List BoxWrite) (left : F → Option (List ℕ)) (faults : F → ℕ) (old new : F) (m n : ℕ) (s : Scale) (count number before : ℕ) (ws : List BoxWrite) (e : PlanFault) → number < count → number ≡ length ws → before ≡ total ws
    → Reads left faults old new m (write_at s number before) see (Err e) → m ≤ n → Reads left faults old new n (writes_at s (count - number) ws) all (Err e)
list_stopped see all left faults old new m n s count number before ws e below len size h l =
    let own : Reads left faults old new m (write_at s (length ws) (total ws)) see (Err e) =
    subst (λ (i : ℕ). Reads left faults old new m (write_at s i (total ws)) see (Err e)) len (subst (λ (b : ℕ). Reads left faults old new m (write_at s number b) see (Err e)) size h) in
    subst (λ (k : ℕ). Reads left faults old new n (writes_at s k ws) all (Err e)) (sym (one_left count number below)) (writes_stopped see all left faults old new m n s (count - (number + 1)) ws e own l)

-- no write is left
pub list_done : (s : Scale) (count number : ℕ) (ws : List BoxWrite) (rest : List ℕ) → number ≡ count → writes_at s (count - number) ws rest ≡ gives ws rest
unfolding writes_at
list_done s count number ws rest e = let z : count - number ≡ 0 = omega arith in ap (λ n. writes_at s n ws rest) z
