-- What readers of a feed do, one behind another.
use Rattle.std.proofs.Common.{◌≡◌, ℕ, ◌+◌, ◌<◌, ◌≤◌, List, length, take, drop, length-take, Option, Some, None, IfSome, Result, Ok, Err, IsTrue, Bool, if◌then◌else◌, true, false, nat_lt, refl, ap, subst, ◌++◌, ◌∙◌, sym, arith}
use Rattle.std.specs.Option.{option_map}
use Rattle.std.proofs.Math.Seq.{take-add, take-append-add}
use Rattle.std.proofs.lemmas.List.{take-append-le}
use Rattle.std.proofs.lemmas.Grind.{common_steps}
use Rattle.std.proofs.lemmas.Bool.Decides.{nat_tests}
use Rattle.vol_base.specs.Causes.{HasCauseOf}
use Rattle.vol_base.specs.Outside.{Gives}
use Rattle.chunk_grid.proofs.MeetSteps.{true_from}
use Rattle.write_plan.specs.Stream.{box_of}
use Rattle.write_plan.specs.Reading.{◌>>=◌, front, limited, judged}
use Rattle.write_plan.specs.Readers.{IsFront, always, Took, gives, Gave, Reading, Reads, Refused, Answers, of_stream}
use Rattle.write_plan.specs.declared.fault.PlanFault.{PlanFault}
use Rattle.write_plan.specs.declared.fault.PlanFault.TheVariants.{FeedFault, OutOfMemory, TooManyWrites}
use Rattle.vol_base.specs.declared.boxes.Box3.{Box3}
use Rattle.vol_spec.specs.declared.scale.Scale.{Scale}
use borrow.Rule.Slice.PartMut.{put_mid, post_of}

pub drop_twice : (o : Option (List ℕ)) (m n : ℕ) → option_map (drop n) (option_map (drop m) o) ≡ option_map (drop (m + n)) o
drop_twice None m n = refl
drop_twice (Some w) m n = ap Some (grind (arith, common_steps))

pub took_more : (a b m : ℕ) (x y z : Option (List ℕ)) → Took a x y → Took b y z → a + b ≤ m → Took m x z
took_more a b m x y z p q l = record {
  count = p.count + q.count;
  small = omega (arith, p.small, q.small);
  left = q.left ∙ ap (option_map (drop q.count)) p.left ∙ drop_twice x p.count q.count;
}

pub map_same : {A : Type 0} (o : Option (List ℕ)) (f g : List ℕ → A) → ((x : List ℕ) → f x ≡ g x) → option_map f o ≡ option_map g o
map_same None f g h = refl
map_same (Some x) f g h = ap Some (h x)

pub if_some_each : (o : Option (List ℕ)) (P : List ℕ → Type 0) → ((x : List ℕ) → P x) → IfSome o P
if_some_each None P h = tt
if_some_each (Some x) P h = h x

-- a reader, and then what goes on from its value
pub gave_by : {X B : Type 0} (f : List ℕ → X) (r : List ℕ → Result X PlanFault) (k : X → Result B PlanFault) (o p : Option (List ℕ)) → option_map r o ≡ option_map (λ y. Ok (f y)) p → option_map (λ bytes. r bytes >>= k) o ≡ option_map (λ y. k (f y)) p
gave_by f r k None None e = refl
gave_by f r k None (Some y) e = absurd (cc e)
gave_by f r k (Some x) None e = absurd (cc e)
gave_by f r k (Some x) (Some y) e = let h : r x ≡ Ok (f y) = cc in ap (λ q. Some (q >>= k)) h

pub gave_then : {A B : Type 0} (r : List ℕ → Result (A × List ℕ) PlanFault) (k : A × List ℕ → Result B PlanFault) (o p : Option (List ℕ)) (a : A) → Gave r o p a → option_map (λ bytes. r bytes >>= k) o ≡ option_map (λ rest. k (a, rest)) p
gave_then r k o p a e = gave_by (λ rest. (a, rest)) r k o p e

pub refused_first : {A B : Type 0} (r : List ℕ → Result A PlanFault) (k : A → Result B PlanFault) (o : Option (List ℕ)) (e : PlanFault) → Refused r o e → Refused (λ bytes. r bytes >>= k) o e
refused_first r k None e h t = tt
refused_first r k (Some x) e h t = ap (λ q. q >>= k) (h t)

pub refused_along : {A : Type 0} (f g : List ℕ → Result A PlanFault) (o p : Option (List ℕ)) (e : PlanFault) → option_map f o ≡ option_map g p → Refused g p e → Refused f o e
refused_along f g None p e q h t = tt
refused_along f g (Some x) None e q h t = absurd (cc q)
refused_along f g (Some x) (Some y) e q h t = let same : f x ≡ g y = cc in same ∙ h t

pub refused_then : {A B : Type 0} (r : List ℕ → Result (A × List ℕ) PlanFault) (k : A × List ℕ → Result B PlanFault) (o p : Option (List ℕ)) (a : A) (e : PlanFault) → Gave r o p a → Refused (λ rest. k (a, rest)) p e → Refused (λ bytes. r bytes >>= k) o e
refused_then r k o p a e g h = refused_along (λ bytes. r bytes >>= k) (λ rest. k (a, rest)) o p e (gave_then r k o p a g) h

pub answer_err : {A : Type 0} (f : List ℕ → Result A PlanFault) (o : Option (List ℕ)) (e : PlanFault) → Refused f o e → IfSome o (λ bytes. Answers (Err e) (f bytes))
answer_err f None e h = tt
answer_err f (Some x) e h = h

pub answer_ok : {A : Type 0} (f : List ℕ → Result A PlanFault) (o p : Option (List ℕ)) (a : A) → option_map f o ≡ option_map (λ _. Ok a) p → IfSome o (λ bytes. f bytes ≡ Ok a)
answer_ok f None p a e = tt
answer_ok f (Some x) None a e = absurd (cc e)
answer_ok f (Some x) (Some y) a e = cc

-- at most so many bytes were taken
took_within : (a m : ℕ) (x y : Option (List ℕ)) → Took a x y → a ≤ m → Took m x y
took_within a m x y h l = record { count = h.count; small = omega (arith, h.small); left = h.left }

took_none : (m : ℕ) (x : Option (List ℕ)) → Took m x x
took_none m None = record { count = 0; small = omega arith; left = refl }
took_none m (Some w) = record { count = 0; small = omega arith; left = refl }

-- the cause of a fault stays where another call passes it on
cause_first : {A B : Type 0} (e : PlanFault) (a b : ℕ) → HasCauseOf {T = A} FeedFault a b (Err e) → HasCauseOf {T = B} FeedFault a b (Err e)
cause_first e a b h = record { later = h.later; failed = λ is. (let same : e ≡ FeedFault = cc in h.failed (ap Err same)); stands = tt }

-- a call that reads, as the first one of several, where it refuses
pub read_first : {F A B C D : Type 0} (left : F → Option (List ℕ)) (faults : F → ℕ) (old new : F) (m n : ℕ) (r : List ℕ → Result (A × List ℕ) PlanFault) (k : A × List ℕ → Result (B × List ℕ) PlanFault) (see : C → A) (all : D → B) (e : PlanFault)
    → Reads left faults old new m r see (Err e) → m ≤ n → Reads left faults old new n (λ bytes. r bytes >>= k) all (Err e)
read_first left faults old new m n r k see all e h l = record {
  answer = refused_first r k (left old) e h.answer;
  took = took_within m n (left old) (left new) h.took l;
  cause = cause_first e (faults old) (faults new) h.cause;
}

-- a reader that goes on behind what was taken
reading_on : {B D : Type 0} (whole rest : List ℕ → Result (B × List ℕ) PlanFault) (all : D → B) (o p q : Option (List ℕ)) (result : Result D PlanFault) → option_map whole o ≡ option_map rest p → Reading rest all p q result → Reading whole all o q result
reading_on whole rest all o p q (Ok d) e h = e ∙ h
reading_on whole rest all o p q (Err fault) e h = refused_along whole rest o p fault e h

pub read_on : {F B D : Type 0} (left : F → Option (List ℕ)) (faults : F → ℕ) (old mid new : F) (m n most : ℕ) (whole rest : List ℕ → Result (B × List ℕ) PlanFault) (all : D → B) (result : Result D PlanFault)
    → option_map whole (left old) ≡ option_map rest (left mid) → Took m (left old) (left mid) → faults mid ≡ faults old → Reads left faults mid new n rest all result → m + n ≤ most → Reads left faults old new most whole all result
read_on left faults old mid new m n most whole rest all result e took same next l = record {
  answer = reading_on whole rest all (left old) (left mid) (left new) result e next.answer;
  took = took_more m n most (left old) (left mid) (left new) took next.took l;
  cause = subst (λ w. HasCauseOf FeedFault w (faults new) result) same next.cause;
}

pub read_then : {F A B C D : Type 0} (left : F → Option (List ℕ)) (faults : F → ℕ) (old mid new : F) (m n most : ℕ) (r : List ℕ → Result (A × List ℕ) PlanFault) (k : A × List ℕ → Result (B × List ℕ) PlanFault) (see : C → A) (all : D → B) (c : C) (result : Result D PlanFault)
    → Reads left faults old mid m r see (Ok c) → Reads left faults mid new n (λ rest. k (see c, rest)) all result → m + n ≤ most → Reads left faults old new most (λ bytes. r bytes >>= k) all result
read_then left faults old mid new m n most r k see all c result h next l =
    read_on left faults old mid new m n most (λ bytes. r bytes >>= k) (λ rest. k (see c, rest)) all result (gave_then r k (left old) (left mid) (see c) h.answer) h.took h.cause.stands next l

-- what needs nothing more of the feed
pub read_given : {F B D : Type 0} (left : F → Option (List ℕ)) (faults : F → ℕ) (feed : F) (n : ℕ) (read : List ℕ → Result (B × List ℕ) PlanFault) (all : D → B) (d : D) → ((rest : List ℕ) → read rest ≡ gives (all d) rest) → Reads left faults feed feed n read all (Ok d)
read_given left faults feed n read all d h = record {
  answer = map_same (left feed) read (gives (all d)) h;
  took = took_none n (left feed);
  cause = record { later = omega arith; failed = λ is. absurd (cc is); stands = refl };
}

pub read_stopped : {F B D : Type 0} (left : F → Option (List ℕ)) (faults : F → ℕ) (feed : F) (n : ℕ) (read : List ℕ → Result (B × List ℕ) PlanFault) (all : D → B) (e : PlanFault) → (e ≡ FeedFault → ⊥) → (IsTrue (of_stream e) → (rest : List ℕ) → read rest ≡ Err e) → Reads left faults feed feed n read all (Err e)
read_stopped left faults feed n read all e other h = record {
  answer = λ t. if_some_each (left feed) (λ rest. read rest ≡ Err e) (h t);
  took = took_none n (left feed);
  cause = record { later = omega arith; failed = λ is. (let same : e ≡ FeedFault = cc in absurd (other same)); stands = tt };
}

pub read_no_memory : {F B D : Type 0} (left : F → Option (List ℕ)) (faults : F → ℕ) (old new : F) (most : ℕ) (read : List ℕ → Result (B × List ℕ) PlanFault) (all : D → B) → Took most (left old) (left new) → faults new ≡ faults old → Reads left faults old new most read all (Err OutOfMemory)
read_no_memory left faults old new most read all took same = record {
  answer = λ t. absurd (cc t);
  took = took;
  cause = record { later = omega arith; failed = λ is. absurd (cc is); stands = tt };
}

-- a reader that is the same as another
pub read_alike : {F B D : Type 0} (left : F → Option (List ℕ)) (faults : F → ℕ) (old new : F) (n : ℕ) (f g : List ℕ → Result (B × List ℕ) PlanFault) (all : D → B) (result : Result D PlanFault) → ((rest : List ℕ) → f rest ≡ g rest) → Reads left faults old new n g all result → Reads left faults old new n f all result
read_alike left faults old new n f g all result same h = read_on left faults old old new 0 n n f g all result (map_same (left old) f g same) (took_none 0 (left old)) refl h (omega arith)

-- a fault of the stream is none of the feed
pub not_feed : (e : PlanFault) → IsTrue (of_stream e) → e ≡ FeedFault → ⊥
not_feed e t is = cc (ap of_stream is, true_from (of_stream e) t)

-- a buffer that is filled from its front
front_more : (n m k : ℕ) (buffer out bytes : List ℕ) → n + m ≤ length buffer → m ≤ k → m ≤ length out → IsFront n buffer bytes → Gives m out (drop n bytes) → IsFront (n + m) (put_mid n k buffer out) bytes
front_more n m k buffer out bytes l j i h g =
    let e : length (take n buffer) ≡ n = omega (arith, length-take n buffer) in
    let a : take (n + m) (put_mid n k buffer out) ≡ take n buffer ++ take m out =
    ap (λ j. take (j + m) (put_mid n k buffer out)) (sym e) ∙ take-append-add (take n buffer) (out ++ post_of n k buffer) m ∙ ap (λ x. take n buffer ++ x) (take-append-le m out (post_of n k buffer) i) in
    record {
      same = a ∙ ap (λ x. x ++ take m out) h.same ∙ ap (λ x. take n bytes ++ x) g.front ∙ sym (take-add n m bytes);
      within = grind (arith, common_steps, g.within);
    }

pub came_more : (o p : Option (List ℕ)) (n m k : ℕ) (buffer out : List ℕ) → p ≡ option_map (drop n) o → n + m ≤ length buffer → m ≤ k → m ≤ length out → IfSome o (IsFront n buffer) → IfSome p (Gives m out) → IfSome o (IsFront (n + m) (put_mid n k buffer out))
came_more None p n m k buffer out e l j i h g = tt
came_more (Some bytes) p n m k buffer out e l j i h g = front_more n m k buffer out bytes l j i h (subst (λ q. IfSome q (Gives m out)) e g)

-- the count
pub limited_err : (m n : ℕ) (rest : List ℕ) → n ≡ m → 65536 < n → limited m rest ≡ Err (TooManyWrites n)
limited_err m n rest e h = let t : nat_lt 65536 m ≡ true = grind (arith, nat_tests) in rw t (ap (λ k. Err (TooManyWrites k)) (sym e))

pub limited_ok : (m n : ℕ) (rest : List ℕ) → n ≡ m → n ≤ 65536 → limited m rest ≡ gives n rest
limited_ok m n rest e h = let t : nat_lt 65536 m ≡ false = grind (arith, nat_tests) in rw t (ap (λ k. gives k rest) (sym e))

-- the box of a write

pub box_refused : (s : Scale) (i before : ℕ) (head : List ℕ) (b : Box3) (e : PlanFault) (rest : List ℕ) → b ≡ box_of head → judged s i before b ≡ Err e → (judged s i before (box_of head) >>= λ b. gives b rest) ≡ Err e
box_refused s i before head b e rest q j = ap (λ r. r >>= λ b. gives b rest) (ap (judged s i before) (sym q) ∙ j)

pub box_gave : (s : Scale) (i before : ℕ) (head : List ℕ) (b : Box3) (rest : List ℕ) → b ≡ box_of head → judged s i before b ≡ Ok b → (judged s i before (box_of head) >>= λ b. gives b rest) ≡ gives b rest
box_gave s i before head b rest q j = ap (λ r. r >>= λ b. gives b rest) (ap (judged s i before) (sym q) ∙ j)

pub if_some_any : {A : Type 0} (o : Option A) (P : A → Type 0) → ((x : A) → P x) → IfSome o P
if_some_any None P h = tt
if_some_any (Some x) P h = h x

-- a front that came piece by piece
front_if : (c : Bool) (n : ℕ) (fault : PlanFault) (w v rest : List ℕ) → nat_lt (length w) n ≡ c → (if c then Err fault else Ok (take n w, drop n w)) ≡ gives v rest → IsFront n v w × (drop n w ≡ rest)
front_if true n fault w v rest t e = absurd (cc e)
front_if false n fault w v rest t e =
    let cut : List ℕ × List ℕ = (take n w, drop n w) in
    let given : List ℕ × List ℕ = (v, rest) in
    let pair : cut ≡ given = cc in
    let front : take n w ≡ v = ap (λ x. x.0) pair in
    let l : n ≤ length w = grind (arith, nat_tests, t) in
    let twice : take n (take n w) ≡ take n w = grind (arith, common_steps) in
    (record { same = ap (take n) (sym front) ∙ twice; within = l }, ap (λ x. x.1) pair)

front_on : (n : ℕ) (old new bytes : List ℕ) → IsFront (length old) old bytes → take (length old) new ≡ old → length new ≡ length old + n → IsFront n (drop (length old) new) (drop (length old) bytes) → IsFront (length new) new bytes
front_on n old new bytes h t l more =
    let k : ℕ = length old in
    let whole : take k old ≡ old = grind (arith, common_steps) in
    record {
      same = ap (λ j. take j new) l ∙ take-add k n new ∙ ap (λ x. x ++ take n (drop k new)) (t ∙ sym whole ∙ h.same) ∙ ap (λ x. take k bytes ++ x) more.same ∙ sym (take-add k n bytes) ∙ ap (λ j. take j bytes) (sym l);
      within = grind (arith, common_steps, l, h.within, more.within);
    }

none_is : {A : Type 0} (f : List ℕ → A) (q : Option (List ℕ)) → None ≡ option_map f q → q ≡ None
none_is f None e = refl
none_is f (Some x) e = absurd (cc e)

pub came_on : (o p q : Option (List ℕ)) (n : ℕ) (fault : PlanFault) (old new : List ℕ) → p ≡ option_map (drop (length old)) o → IfSome o (IsFront (length old) old) → Gave (front n fault) p q (drop (length old) new) → take (length old) new ≡ old → length new ≡ length old + n → IfSome o (IsFront (length new) new) × (q ≡ option_map (drop (length new)) o)
came_on None None q n fault old new e h g t l = (tt, none_is (gives (drop (length old) new)) q g)
came_on None (Some w) q n fault old new e h g t l = absurd (cc e)
came_on (Some bytes) p None n fault old new e h g t l = absurd (cc (e, g))
came_on (Some bytes) p (Some rest) n fault old new e h g t l =
    let w : List ℕ = drop (length old) bytes in
    let gave : front n fault w ≡ gives (drop (length old) new) rest = cc in
    let more : IsFront n (drop (length old) new) w × (drop n w ≡ rest) = front_if (nat_lt (length w) n) n fault w (drop (length old) new) rest refl gave in
    (front_on n old new bytes h t l more.0, ap Some (sym (more.1)) ∙ drop_twice (Some bytes) (length old) n ∙ ap (λ j. Some (drop j bytes)) (sym l))

-- a piece that fails the front of which it is a part
refused_if : (c : Bool) (n : ℕ) (fault e : PlanFault) (w : List ℕ) (x : List ℕ × List ℕ) → nat_lt (length w) n ≡ c → (if c then Err fault else Ok x) ≡ Err e → (length w < n) × (fault ≡ e)
refused_if true n fault e w x t q = (grind (arith, nat_tests, t), cc)
refused_if false n fault e w x t q = absurd (cc q)

front_short : (n : ℕ) (fault e : PlanFault) (bytes : List ℕ) → length bytes < n → fault ≡ e → front n fault bytes ≡ Err e
front_short n fault e bytes l q = let t : nat_lt (length bytes) n ≡ true = grind (arith, nat_tests) in rw t (ap Err q)

pub refused_on : (o p : Option (List ℕ)) (k n m : ℕ) (fault e : PlanFault) → p ≡ option_map (drop k) o → k + n ≤ m → Refused (front n fault) p e → Refused (front m fault) o e
refused_on None p k n m fault e q l h t = tt
refused_on (Some bytes) p k n m fault e q l h t =
    let here : front n fault (drop k bytes) ≡ Err e = subst (λ x. IfSome x (λ w. front n fault w ≡ Err e)) q (h t) in
    let short : (length (drop k bytes) < n) × (fault ≡ e) = refused_if (nat_lt (length (drop k bytes)) n) n fault e (drop k bytes) _ refl here in
    front_short m fault e bytes (grind (arith, common_steps, short.0, l)) short.1

pub read_short : {F C D : Type 0} (left : F → Option (List ℕ)) (faults : F → ℕ) (old mid new : F) (k n m : ℕ) (fault : PlanFault) (see : C → List ℕ) (all : D → List ℕ) (e : PlanFault)
    → left mid ≡ option_map (drop k) (left old) → faults mid ≡ faults old → k + n ≤ m → Reads left faults mid new n (front n fault) see (Err e) → Reads left faults old new m (front m fault) all (Err e)
read_short {D = D} left faults old mid new k n m fault see all e behind same l h = record {
  answer = refused_on (left old) (left mid) k n m fault e behind l h.answer;
  took = took_more k n m (left old) (left mid) (left new) (record { count = k; small = omega arith; left = behind }) h.took l;
  cause = subst (λ w. HasCauseOf {T = D} FeedFault w (faults new) (Err e)) same (cause_first e (faults mid) (faults new) h.cause);
}

-- a reader of a front whose value is seen at another place
pub read_placed : {F A : Type 0} (left : F → Option (List ℕ)) (faults : F → ℕ) (old new : F) (m n : ℕ) (fault : PlanFault) (seen all : List ℕ) (result : Result A PlanFault)
    → m ≡ n → seen ≡ all → Reads left faults old new m (front m fault) (always seen) result → Reads left faults old new n (front n fault) (always all) result
read_placed left faults old new m n fault seen all result e same h =
    subst (λ (v : List ℕ). Reads left faults old new n (front n fault) (always v) result) same (subst (λ (k : ℕ). Reads left faults old new k (front k fault) (always seen) result) e h)
