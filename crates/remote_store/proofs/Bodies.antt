-- Bodies of replies, piece by piece.
use Rattle.std.proofs.Common.{◌≡◌, ◌∙◌, ℕ, ◌+◌, ◌-◌, ◌<◌, ◌≤◌, ◌==◌, min, Bool, true, List, [], ◌++◌, length, length-append, length-drop, length-take, take, drop, append_assoc, append-nil, IfSome, IfOk, OnOk, Option, Some, None, option_map, Result, Ok, Err, inl, inr, ap, sym, refl, subst, arith}
use Rattle.std.proofs.Math.Seq.{drop-append_seam, drop-append-add, take-append-add}
use Rattle.std.proofs.lemmas.Bool.{cases_lt, eqb-true}
use Rattle.std.proofs.Math.ListN.{drop_of_length-le}
use borrow.Rule.Slice.PartMut.{mid_of, post_of}
use Rattle.std.proofs.lemmas.List.{drop-append-le, take-append-le}
use Rattle.vol_base.specs.Outside.{part}
use Rattle.std.proofs.lemmas.Grind.{common_steps}
use Rattle.vol_base.specs.Causes.{HasCause}
use Rattle.vol_base.specs.Gains.{Gains}
use Rattle.vol_base.proofs.Gained.{gained-more}
use Rattle.request_heads.specs.Heads.{pending}
use Rattle.remote_store.specs.Bodies.{Came, Ended, Passed, Taken}
use Rattle.remote_store.specs.Dials.{Line, given_more}
use Rattle.remote_store.proofs.Received.{given_twice, take_join}

pub cancel : (p a b : List ℕ) → p ++ a ≡ p ++ b → a ≡ b
cancel p a b e = sym (drop-append_seam p a) ∙ ap (drop (length p)) e ∙ drop-append_seam p b

-- what came behind those that were there
pub came_behind : (b0 b : List ℕ) (t0 t : ℕ) (left0 left : Option (List ℕ)) → t0 ≤ t → take t0 b ≡ take t0 b0 → pending b t left ≡ pending b0 t0 left0
    → option_map (λ bytes. drop t0 (take t b) ++ bytes) left ≡ left0
came_behind b0 b t0 t None None le same e = refl
came_behind b0 b t0 t None (Some y) le same e = absurd (cc e)
came_behind b0 b t0 t (Some x) None le same e = absurd (cc e)
came_behind b0 b t0 t (Some y) (Some x) le same e =
    let g = drop t0 (take t b) in
    let whole : take t b ++ x ≡ take t0 b0 ++ y = cc in
    let front : take t b ≡ take t0 b0 ++ g = sym (take_join t0 t b le) ∙ ap (λ p. p ++ g) same in
    let all : take t0 b0 ++ (g ++ x) ≡ take t0 b0 ++ y = sym (append_assoc (take t0 b0) g x) ∙ ap (λ p. p ++ x) (sym front) ∙ whole in
    ap Some (cancel (take t0 b0) (g ++ x) y all)

pub nothing_left : (left0 left : Option (List ℕ)) (g : List ℕ) → option_map (λ bytes. g ++ bytes) left ≡ left0 → IfSome left (λ bytes. bytes ≡ []) → IfSome left0 (λ stream. stream ≡ g)
nothing_left None None g e end = tt
nothing_left (Some y) None g e end = absurd (cc e)
nothing_left None (Some x) g e end = tt
nothing_left (Some y) (Some x) g e end =
    let is : g ++ x ≡ y = cc in
    sym is ∙ ap (λ b. g ++ b) end ∙ append-nil g

-- one call behind another
pub came_twice : (a b : List ℕ) (left0 left1 left2 : Option (List ℕ)) (line0 line1 line2 : Option Line) → Came a left0 left1 line0 line1 → Came b left1 left2 line1 line2 → Came (a ++ b) left0 left2 line0 line2
came_twice a b left0 left1 left2 line0 line1 line2 x y = record {
  left = by_left left2 ∙ ap (option_map (λ bytes. a ++ bytes)) y.left ∙ x.left;
  line = y.line ∙ ap (option_map (given_more b)) x.line ∙ given_twice line0 a b;
}
  where
    by_left : (o : Option (List ℕ)) → option_map (λ bytes. (a ++ b) ++ bytes) o ≡ option_map (λ bytes. a ++ bytes) (option_map (λ bytes. b ++ bytes) o)
    by_left None = refl
    by_left (Some x) = ap Some (append_assoc a b x)

pub came_none : (left0 : Option (List ℕ)) (line0 : Option Line) → Came [] left0 left0 line0 line0
came_none left0 line0 = record { left = by_left left0; line = by_line line0 }
  where
    by_left : (o : Option (List ℕ)) → option_map (λ bytes. [] ++ bytes) o ≡ o
    by_left None = refl
    by_left (Some x) = refl

    by_line : (o : Option Line) → o ≡ option_map (given_more []) o
    by_line None = refl
    by_line (Some l) = ap (λ z. Some (record l { given = z })) (sym (append-nil l.given))

pub gains_twice : (a b : List ℕ) (r0 r1 r2 : Option (List ℕ)) → Gains r0 r1 a → Gains r1 r2 b → Gains r0 r2 (a ++ b)
gains_twice a b r0 r1 r2 x y = y ∙ ap (option_map (λ w. w ++ b)) x ∙ gained-more r0 a b

pub gains_none : (r : Option (List ℕ)) → Gains r r []
gains_none None = refl
gains_none (Some w) = ap Some (sym (append-nil w))

pub ended_behind : (a b : List ℕ) (left0 left1 left2 : Option (List ℕ)) (line0 line1 : Option Line) (ends0 ends1 ends2 : ℕ) → Came a left0 left1 line0 line1 → ends0 ≤ ends1 → Ended b left1 ends1 ends2
    → Ended (a ++ b) left0 ends0 ends2
ended_behind a b left0 left1 left2 line0 line1 ends0 ends1 ends2 came later x = record { rose = omega (arith, later, x.rose); all = by_left left0 left1 came.left x.all }
  where
    by_left : (o p : Option (List ℕ)) → option_map (λ bytes. a ++ bytes) p ≡ o → IfSome p (λ stream. stream ≡ b) → IfSome o (λ stream. stream ≡ a ++ b)
    by_left None p e all = tt
    by_left (Some y) None e all = absurd (cc e)
    by_left (Some y) (Some x) e all =
        let is : a ++ x ≡ y = cc in
        sym is ∙ ap (λ s. a ++ s) all

pub gained_length : (b : List ℕ) (t0 t : ℕ) → t ≤ length b → length (drop t0 (take t b)) ≡ t - t0
gained_length b t0 t within = omega (arith, length-drop t0 (take t b), length-take t b, within)

pub nothing_there : (b : List ℕ) (t : ℕ) → drop t (take t b) ≡ []
nothing_there b t = grind (arith, common_steps)

join_from : (t0 t n : ℕ) (b : List ℕ) → t0 ≤ t → t ≤ n → drop t0 (take t b) ++ drop t (take n b) ≡ drop t0 (take n b)
join_from t0 t n b l m =
    let far : t0 ≤ n = omega (arith, l, m) in
    cancel (take t0 b) (drop t0 (take t b) ++ drop t (take n b)) (drop t0 (take n b))
    (sym (append_assoc (take t0 b) (drop t0 (take t b)) (drop t (take n b))) ∙ ap (λ p. p ++ drop t (take n b)) (take_join t0 t b l) ∙ take_join t n b m ∙ sym (take_join t0 n b far))

pub gains_from : (o p q : Option (List ℕ)) (t0 t n : ℕ) (a b : List ℕ) → Gains o p (drop t0 (take t a)) → Gains p q (drop t (take n b)) → take t b ≡ take t a → t0 ≤ t → t ≤ n → Gains o q (drop t0 (take n b))
gains_from o p q t0 t n a b x y same l m =
    gains_twice (drop t0 (take t a)) (drop t (take n b)) o p q x y ∙ ap (λ z. option_map (λ w. w ++ z) o) (ap (λ z. drop t0 z ++ drop t (take n b)) (sym same) ∙ join_from t0 t n b l m)

pub given_from : (o p q : Option Line) (t0 t n : ℕ) (a b : List ℕ) → p ≡ option_map (given_more (drop t0 (take t a))) o → q ≡ option_map (given_more (drop t (take n b))) p → take t b ≡ take t a → t0 ≤ t → t ≤ n
    → q ≡ option_map (given_more (drop t0 (take n b))) o
given_from o p q t0 t n a b x y same l m =
    y ∙ ap (option_map (given_more (drop t (take n b)))) x ∙ given_twice o (drop t0 (take t a)) (drop t (take n b))
    ∙ ap (λ z. option_map (given_more z) o) (ap (λ z. drop t0 z ++ drop t (take n b)) (sym same) ∙ join_from t0 t n b l m)

pub kept_from : (t0 t : ℕ) (b0 a b : List ℕ) → t0 ≤ t → take t b ≡ take t a → take t0 a ≡ take t0 b0 → take t0 b ≡ take t0 b0
kept_from t0 t b0 a b l same kept =
    let one : take t0 (take t b) ≡ take t0 b = grind (arith, common_steps, l) in
    let two : take t0 (take t a) ≡ take t0 a = grind (arith, common_steps, l) in
    sym one ∙ ap (take t0) same ∙ two ∙ kept

-- so many bytes came so far
pub record Sofar (gained : List ℕ) (done : ℕ) (r0 r1 left0 left1 : Option (List ℕ)) (line0 line1 : Option Line) : Type 0 where
  pub long : length gained ≡ done
  pub received : Gains r0 r1 gained
  pub came : Came gained left0 left1 line0 line1

-- a piece more, of k bytes at most
pub passed_more : {T E : Type 0} (n k done : ℕ) (a b : List ℕ) (r0 r1 r2 left0 left1 left2 : Option (List ℕ)) (line0 line1 line2 : Option Line) (ends0 ends1 ends2 : ℕ) (result : Result T E)
    → Sofar a done r0 r1 left0 left1 line0 line1 → done + k ≤ n → ends0 ≤ ends1 → Passed k b r1 r2 left1 left2 line1 line2 ends1 ends2 result
    → IfOk result (λ _. length (a ++ b) < n → length b < k) → Passed n (a ++ b) r0 r2 left0 left2 line0 line2 ends0 ends2 result
passed_more n k done a b r0 r1 r2 left0 left1 left2 line0 line1 line2 ends0 ends1 ends2 (Ok t) s fits later p short = record {
  within = omega (arith, s.long, p.within, fits, length-append a b);
  received = gains_twice a b r0 r1 r2 s.received p.received;
  came = came_twice a b left0 left1 left2 line0 line1 line2 s.came p.came;
  ended = λ less. ended_behind a b left0 left1 left2 line0 line1 ends0 ends1 ends2 s.came later (p.ended (short less));
  later = omega (arith, later, p.later);
}
passed_more n k done a b r0 r1 r2 left0 left1 left2 line0 line1 line2 ends0 ends1 ends2 (Err e) s fits later p short = record {
  within = omega (arith, s.long, p.within, fits, length-append a b);
  received = gains_twice a b r0 r1 r2 s.received p.received;
  came = tt;
  ended = tt;
  later = omega (arith, later, p.later);
}

pub sofar_more : (done got : ℕ) (a b : List ℕ) (r0 r1 r2 left0 left1 left2 : Option (List ℕ)) (line0 line1 line2 : Option Line) → Sofar a done r0 r1 left0 left1 line0 line1
    → length b ≡ got → Gains r1 r2 b → Came b left1 left2 line1 line2 → Sofar (a ++ b) (done + got) r0 r2 left0 left2 line0 line2
sofar_more done got a b r0 r1 r2 left0 left1 left2 line0 line1 line2 s long x y = record {
  long = omega (arith, s.long, long, length-append a b);
  received = gains_twice a b r0 r1 r2 s.received x;
  came = came_twice a b left0 left1 left2 line0 line1 line2 s.came y;
}

pub sofar_none : (r left : Option (List ℕ)) (line : Option Line) → Sofar [] 0 r r left left line line
sofar_none r left line = record { long = refl; received = gains_none r; came = came_none left line }

pub passed_sofar : {T E : Type 0} (n done : ℕ) (a : List ℕ) (r0 r1 left0 left1 : Option (List ℕ)) (line0 line1 : Option Line) (ends0 ends1 : ℕ) (t : T) → Sofar a done r0 r1 left0 left1 line0 line1
    → done ≤ n → n ≤ done → ends0 ≤ ends1 → Passed {T = T} {E = E} n a r0 r1 left0 left1 line0 line1 ends0 ends1 (Ok t)
passed_sofar n done a r0 r1 left0 left1 line0 line1 ends0 ends1 t s most least later = record {
  within = omega (arith, s.long, most);
  received = s.received;
  came = s.came;
  ended = λ less. absurd (omega (arith, s.long, least, less));
  later = later;
}

pub two_long : (a b : List ℕ) (n got : ℕ) → length a ≡ n → length b ≡ got → length (a ++ b) ≡ n + got
two_long a b n got x y = omega (arith, x, y, length-append a b)

pub passed_as : {T E : Type 0} {n : ℕ} {a : List ℕ} {r0 r1 left0 left1 : Option (List ℕ)} {line0 line1 : Option Line} {ends0 ends1 : ℕ} {r s : Result T E} → r ≡ s
    → Passed n a r0 r1 left0 left1 line0 line1 ends0 ends1 r → Passed n a r0 r1 left0 left1 line0 line1 ends0 ends1 s
passed_as {n = n} {a = a} {r0 = r0} {r1 = r1} {left0 = left0} {left1 = left1} {line0 = line0} {line1 = line1} {ends0 = ends0} {ends1 = ends1} e p = subst (λ r. Passed n a r0 r1 left0 left1 line0 line1 ends0 ends1 r) e p

-- as far as a call came that was to receive fewer bytes, or that failed
pub passed_err : {T U E : Type 0} {n : ℕ} {a : List ℕ} {r0 r1 left0 left1 : Option (List ℕ)} {line0 line1 : Option Line} {ends0 ends1 : ℕ} {r : Result T E} (m : ℕ) (e : E) → n ≤ m
    → Passed n a r0 r1 left0 left1 line0 line1 ends0 ends1 r → Passed {T = U} {E = E} m a r0 r1 left0 left1 line0 line1 ends0 ends1 (Err e)
passed_err {n = n} {a = a} m e wide p = record { within = omega (arith, wide, p.within); received = p.received; came = tt; ended = tt; later = p.later }

pub passed_ok : {T U E : Type 0} {n : ℕ} {a : List ℕ} {r0 r1 left0 left1 : Option (List ℕ)} {line0 line1 : Option Line} {ends0 ends1 : ℕ} {r : Result T E} (m : ℕ) (t : T) (u : U) → r ≡ Ok t → n ≤ m → (length a < m → length a < n)
    → Passed n a r0 r1 left0 left1 line0 line1 ends0 ends1 r → Passed {T = U} {E = E} m a r0 r1 left0 left1 line0 line1 ends0 ends1 (Ok u)
passed_ok {n = n} {a = a} m t u e wide short p =
    let q = passed_as e p in
    record { within = omega (arith, wide, p.within); received = p.received; came = q.came; ended = λ less. q.ended (short less); later = p.later }

pub sofar_of : {T E : Type 0} {n : ℕ} {a : List ℕ} {r0 r1 left0 left1 : Option (List ℕ)} {line0 line1 : Option Line} {ends0 ends1 : ℕ} {r : Result T E} (done : ℕ) (t : T) → r ≡ Ok t → length a ≡ done
    → Passed n a r0 r1 left0 left1 line0 line1 ends0 ends1 r → Sofar a done r0 r1 left0 left1 line0 line1
sofar_of done t e long p = let q = passed_as e p in record { long = long; received = p.received; came = q.came }

pub more_err : {T U E : Type 0} {k done : ℕ} {a b : List ℕ} {r0 r1 r2 left0 left1 left2 : Option (List ℕ)} {line0 line1 line2 : Option Line} {ends0 ends1 ends2 : ℕ} {r : Result T E} (n : ℕ) (e : E)
    → Sofar a done r0 r1 left0 left1 line0 line1 → done + k ≤ n → ends0 ≤ ends1 → Passed k b r1 r2 left1 left2 line1 line2 ends1 ends2 r → Passed {T = U} {E = E} n (a ++ b) r0 r2 left0 left2 line0 line2 ends0 ends2 (Err e)
more_err {a = a} {b = b} {r0 = r0} {r1 = r1} {r2 = r2} n e s fits later p = record {
  within = omega (arith, s.long, p.within, fits, length-append a b);
  received = gains_twice a b r0 r1 r2 s.received p.received;
  came = tt;
  ended = tt;
  later = omega (arith, later, p.later);
}

pub more_ok : {T U E : Type 0} {k done : ℕ} {a b : List ℕ} {r0 r1 r2 left0 left1 left2 : Option (List ℕ)} {line0 line1 line2 : Option Line} {ends0 ends1 ends2 : ℕ} {r : Result T E} (n : ℕ) (t : T) (u : U) → r ≡ Ok t
    → Sofar a done r0 r1 left0 left1 line0 line1 → done + k ≤ n → ends0 ≤ ends1 → Passed k b r1 r2 left1 left2 line1 line2 ends1 ends2 r → (length (a ++ b) < n → length b < k)
    → Passed {T = U} {E = E} n (a ++ b) r0 r2 left0 left2 line0 line2 ends0 ends2 (Ok u)
more_ok {a = a} {b = b} {r0 = r0} {r1 = r1} {r2 = r2} {left0 = left0} {left1 = left1} {left2 = left2} {line0 = line0} {line1 = line1} {line2 = line2} {ends0 = ends0} {ends1 = ends1} {ends2 = ends2} n t u e s fits later p short =
    let q = passed_as e p in
    record {
      within = omega (arith, s.long, p.within, fits, length-append a b);
      received = gains_twice a b r0 r1 r2 s.received p.received;
      came = came_twice a b left0 left1 left2 line0 line1 line2 s.came q.came;
      ended = λ less. ended_behind a b left0 left1 left2 line0 line1 ends0 ends1 ends2 s.came later (q.ended (short less));
      later = omega (arith, later, p.later);
    }

-- what stands in a buffer that was filled behind bytes that were passed over
pub taken_whole : (a buf out : List ℕ) (before there : ℕ) → length a ≡ before → length buf ≡ length out → there ≡ length buf → buf ≡ part (a ++ drop 0 (take there buf)) before (length out)
taken_whole a buf out before there la lb e =
    let all : take there buf ≡ buf = grind (arith, common_steps, e) in
    let front : take (length out) buf ≡ buf = grind (arith, common_steps, lb) in
    sym (ap (λ k. take (length out) (drop k (a ++ take there buf))) (sym la) ∙ ap (take (length out)) (drop-append_seam a (take there buf)) ∙ ap (take (length out)) all ∙ front)

-- a part of a body of three pieces
pub stretch : (front a b : List ℕ) (at n c : ℕ) → c ≡ min (length front - at) n → length a ≡ (at - length front) + (n - c) → part front at c ++ part a (at - length front) (n - c) ≡ part (front ++ (a ++ b)) at n
stretch front a b at n c ec la = elim (cases_lt (length front) at) [
  | inl past ↦
      let none : c ≡ 0 = omega (arith, ec, past) in
      let there : at ≡ length front + (at - length front) = omega (arith, past) in
      let behind : drop at (front ++ (a ++ b)) ≡ drop (at - length front) (a ++ b) = ap (λ k. drop k (front ++ (a ++ b))) there ∙ drop-append-add front (a ++ b) (at - length front) in
      let apart : drop (at - length front) (a ++ b) ≡ drop (at - length front) a ++ b = drop-append-le (at - length front) a b (omega (arith, la)) in
      let cut : take n (drop (at - length front) a ++ b) ≡ take n (drop (at - length front) a) = take-append-le n (drop (at - length front) a) b (omega (arith, la, none, length-drop (at - length front) a)) in
      let all_n : n - 0 ≡ n = omega arith in
      (λ i. take (none i) (drop at front) ++ take (n - none i) (drop (at - length front) a)) ∙ ap (λ k. take k (drop (at - length front) a)) all_n ∙ sym (ap (take n) (behind ∙ apart) ∙ cut)
  | inr within ↦
      let d = drop at front in
      let ld : length d ≡ length front - at = length-drop at front in
      let zero_before : at - length front ≡ 0 = omega (arith, within) in
      let behind : drop at (front ++ (a ++ b)) ≡ d ++ (a ++ b) = drop-append-le at front (a ++ b) within in
      let one : take c d ≡ take n d = grind (arith, common_steps, ec, ld) in
      let two : take (n - length d) (a ++ b) ≡ take (n - c) a = ap (λ k. take k (a ++ b)) (omega (arith, ec, ld)) ∙ take-append-le (n - c) a b (omega (arith, la, zero_before)) in
      let three : part a (at - length front) (n - c) ≡ take (n - c) a = ap (λ k. take (n - c) (drop k a)) zero_before in
      (λ i. one i ++ three i) ∙ (λ i. take n d ++ sym two i) ∙ sym (ap (take n) behind ∙ take_over n d (a ++ b))
]
  where
    take_over : (n : ℕ) (x y : List ℕ) → take n (x ++ y) ≡ take n x ++ take (n - length x) y
    take_over n x y = elim (cases_lt n (length x)) [
      | inl lt ↦
          let zero_left : n - length x ≡ 0 = omega (arith, lt) in
          take-append-le n x y (omega (arith, lt)) ∙ sym (append-nil (take n x)) ∙ (λ i. take n x ++ take (sym zero_left i) y)
      | inr le ↦
          let e : n ≡ length x + (n - length x) = omega (arith, le) in
          let whole : take n x ≡ x = grind (arith, common_steps, le) in
          ap (λ k. take k (x ++ y)) e ∙ take-append-add x y (n - length x) ∙ (λ i. sym whole i ++ take (n - length x) y)
    ]

pub stretch_put : (front a b whole piece sub : List ℕ) (at n c before : ℕ) → c ≡ min (length front - at) n → length whole ≡ n → take c whole ≡ part front at c → before ≡ at - length front → length sub ≡ n - c
    → length a ≡ before + length sub → piece ≡ part a before (length sub) → take c whole ++ (piece ++ post_of c (length whole - c) whole) ≡ part (front ++ (a ++ b)) at n
stretch_put front a b whole piece sub at n c before ec lw front_is eb ls la is =
    let none : post_of c (length whole - c) whole ≡ [] = drop_of_length-le (drop c whole) (omega (arith, length-drop c whole)) in
    let piece_is : piece ≡ part a (at - length front) (n - c) = is ∙ (λ i. part a (eb i) (ls i)) in
    ap (λ x. take c whole ++ (piece ++ x)) none ∙ ap (λ x. take c whole ++ x) (append-nil piece) ∙ (λ i. front_is i ++ piece_is i) ∙ stretch front a b at n c ec (omega (arith, la, eb, ls))

pub taken_true : {E : Type 0} {n at got : ℕ} {body old new : List ℕ} {r : Result Bool E} → r ≡ Ok true → Taken n at got body old new r → (got ≡ n) × (new ≡ part body at (length old))
taken_true {E = E} {n = n} {at = at} {got = got} {body = body} {old = old} {new = new} e t =
    let whole : true ≡ (got == n) = subst (λ r. IfOk {E = E} r (λ whole. whole ≡ (got == n))) e t.whole in
    let bytes : true ≡ true → new ≡ part body at (length old) = subst (λ r. IfOk {E = E} r (λ whole. whole ≡ true → new ≡ part body at (length old))) e t.bytes in
    (eqb-true got n (sym whole), bytes refl)

-- the front of a body is copied, and what stands behind it is received in two calls, of which the first gave all that it was to give
module _ {E : Type 0} (front whole out : List ℕ) (len at copied : ℕ) {before got more : ℕ} {piece a b : List ℕ} {r0 r1 r2 left0 left1 left2 : Option (List ℕ)} {line0 line1 line2 : Option Line} {ends0 ends1 ends2 : ℕ} {first : Result Bool E} {last : Result (Unit {0}) E}
    (long : length whole ≡ length out) (copies : copied ≡ min (length front - at) (length out)) (bytes : take copied whole ≡ part front at copied) (behind : before ≡ at - length front) (few : length front ≤ len) (fits : at + length out ≤ len) (yes : first ≡ Ok true)
    (taken : Taken (before + length (mid_of copied (length whole - copied) whole)) before got a (mid_of copied (length whole - copied) whole) piece first)
    (passed : Passed (before + length (mid_of copied (length whole - copied) whole)) a r0 r1 left0 left1 line0 line1 ends0 ends1 first)
    (b_long : length b ≡ more) (rest : Passed (len - (length front + got)) b r1 r2 left1 left2 line1 line2 ends1 ends2 last) where
  sub_long : length (mid_of copied (length whole - copied) whole) ≡ length out - copied
  sub_long = omega (arith, length-take (length whole - copied) (drop copied whole), length-drop copied whole, long, copies)

  all_got : (got ≡ before + length (mid_of copied (length whole - copied) whole)) × (piece ≡ part a before (length (mid_of copied (length whole - copied) whole)))
  all_got = taken_true yes taken

  all_fits : got + (len - (length front + got)) ≤ len - length front
  all_fits = omega (arith, all_got.0, sub_long, behind, copies, few, fits)

  all_long : length (front ++ (a ++ b)) ≡ length front + got + more
  all_long = omega (arith, taken.long, b_long, length-append front (a ++ b), length-append a b)

  pub stretch_ok : last ≡ Ok tt
      → Taken {E = E} len at (length front + got + more) (front ++ (a ++ b)) out (take copied whole ++ (piece ++ post_of copied (length whole - copied) whole)) (Ok (length front + got + more == len))
      × Passed {T = Bool} {E = E} (len - length front) (a ++ b) r0 r2 left0 left2 line0 line2 ends0 ends2 (Ok (length front + got + more == len))
  stretch_ok is = (
    record {
      long = all_long;
      whole = refl;
      bytes = λ _. stretch_put front a b whole piece (mid_of copied (length whole - copied) whole) at (length out) copied before copies long bytes behind sub_long (taken.long ∙ all_got.0) all_got.1;
    },
    more_ok (len - length front) _ _ is (sofar_of got true yes taken.long passed) all_fits passed.later rest (λ less. omega (arith, less, taken.long, length-append a b)),
  )

  pub stretch_err : (e : E) (new : List ℕ)
      → Taken {E = E} len at (length front + got + more) (front ++ (a ++ b)) out new (Err e) × Passed {T = Bool} {E = E} (len - length front) (a ++ b) r0 r2 left0 left2 line0 line2 ends0 ends2 (Err e)
  stretch_err e new = (record { long = all_long; whole = tt; bytes = tt }, more_err (len - length front) e (sofar_of got true yes taken.long passed) all_fits passed.later rest)

-- what came into the front of a buffer, behind what was there
pub joined : (stop t0 t1 : ℕ) (old buf : List ℕ) → t0 ≤ t1 → t1 ≤ length buf → t0 ≤ stop → take t0 buf ≡ take t0 (take stop old) → take t1 (buf ++ drop stop old) ≡ take t0 old ++ drop t0 (take t1 buf)
joined stop t0 t1 old buf le within below kept =
    let front : take t0 (take stop old) ≡ take t0 old = grind (arith, common_steps, below) in
    take-append-le t1 buf (drop stop old) within ∙ sym (take_join t0 t1 buf le) ∙ ap (λ x. x ++ drop t0 (take t1 buf)) (kept ∙ front)

pub came_as : {a b : List ℕ} {left0 left1 : Option (List ℕ)} {line0 line1 : Option Line} → a ≡ b → Came b left0 left1 line0 line1 → Came a left0 left1 line0 line1
came_as {left0 = left0} {left1 = left1} {line0 = line0} {line1 = line1} e x = subst (λ z. Came z left0 left1 line0 line1) (sym e) x

-- a count stands where a call succeeded
pub stood : {T E : Type 0} {before now : ℕ} {r : Result T E} (t : T) → r ≡ Ok t → HasCause before now r → now ≡ before
stood {E = E} {before = before} {now = now} t e cause = subst (λ r. OnOk {E = E} r (now ≡ before)) e cause.stands
