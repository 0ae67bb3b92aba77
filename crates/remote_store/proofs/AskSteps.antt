-- What calls sent on whichever connection.
use Rattle.std.proofs.Common.{◌≡◌, All, IfSome, OnErr, ◌∙◌, ℕ, ◌+◌, ◌-◌, ◌<◌, ◌≤◌, List, [], ◌∷◌, ◌++◌, length, length-append, length-take, take, append-nil, Option, Some, None, IsTrue, OnOk, option_map, Result, Ok, Err, inl, inr, ap, sym, refl, subst, arith}
use Rattle.std.proofs.Math.Seq.{take-append-add, take-length}
use Rattle.std.proofs.lemmas.Bool.{cases_lt}
use Rattle.std.proofs.lemmas.List.{flat_map_more, take-append-le}
use Rattle.std.proofs.lemmas.List.Elements.{All-push}
use Rattle.std.specs.List.{flat_map}
use Rattle.std.specs.Result.{result_ok}
use Rattle.vol_base.specs.Causes.{HasCause, Rose}
use Rattle.vol_base.specs.Gains.{Gains, GainsFront}
use Rattle.vol_base.specs.Names.{is_name}
use Rattle.vol_base.proofs.Gained.{gained-more}
use Rattle.remote_store.specs.Sent.{AsksOnly, OnceAtMost, OnceOrTwice, Piece, SendsRequest, cut_by, piece_bytes, request_bytes}
use Rattle.remote_store.specs.Talks.{promise_in}
use Rattle.remote_store.specs.declared.wanted.Promise.{Promise}
use Rattle.remote_store.specs.declared.wanted.Wanted.{Wanted}

pub gains_none : (s : Option (List ℕ)) → Gains s s []
gains_none None = refl
gains_none (Some w) = ap Some (sym (append-nil w))

pub gains_then : (s0 s1 s2 : Option (List ℕ)) (a b : List ℕ) → Gains s0 s1 a → Gains s1 s2 b → Gains s0 s2 (a ++ b)
gains_then s0 s1 s2 a b x y = y ∙ ap (option_map (λ w. w ++ b)) x ∙ gained-more s0 a b

pub front_twice : (text : List ℕ) (old new : Option (List ℕ)) → GainsFront old new text → GainsFront old new (text ++ text)
front_twice text old new front =
    (front.0, omega (arith, front.1, length-append text text), subst (Gains old new) (sym (take-append-le front.0 text text front.1)) front.2)

pub whole_front : (text : List ℕ) (old new : Option (List ℕ)) → Gains old new text → GainsFront old new text
whole_front text old new whole = (length text, omega arith, subst (Gains old new) (sym (take-length text)) whole)

-- nothing was sent
pub front_none : (text : List ℕ) (old new : Option (List ℕ)) → new ≡ old → GainsFront old new text
front_none text old new same = (0, omega arith, subst (λ s. Gains old s []) (sym same) (gains_none old))

pub once_front : (text : List ℕ) (old new : Option (List ℕ)) → OnceAtMost text old new → GainsFront old new (text ++ text)
once_front text old new (inl same) = front_none (text ++ text) old new same
once_front text old new (inr once) = front_twice text old new (whole_front text old new once)

twice_front : (text : List ℕ) (s0 s1 s2 : Option (List ℕ)) → Gains s0 s1 text → GainsFront s1 s2 text → GainsFront s0 s2 (text ++ text)
twice_front text s0 s1 s2 once front =
    (length text + front.0, omega (arith, front.1, length-append text text), subst (Gains s0 s2) (sym (take-append-add text text front.0)) (gains_then s0 s1 s2 text (take front.0 text) once front.2))

-- on a new connection, behind a try on the one that was kept
pub asks_last : {T E : Type 0} (r : Result T E) (text : List ℕ) (s0 s1 s2 s3 : Option (List ℕ)) → OnceAtMost text s0 s1 → s2 ≡ s1 → OnOk r (Gains s2 s3 text) → GainsFront s2 s3 text → SendsRequest text s0 s3 r
asks_last r text s0 s1 s2 s3 (inl none) same whole front = record {
  whole = whole_by r whole;
  front = subst (λ s. GainsFront s s3 (text ++ text)) (same ∙ none) (front_twice text s2 s3 front);
}
  where
    whole_by : {T E : Type 0} (r : Result T E) → OnOk r (Gains s2 s3 text) → OnOk r (OnceOrTwice text s0 s3)
    whole_by (Ok t) h = inl (subst (λ s. Gains s s3 text) (same ∙ none) h)
    whole_by (Err e) h = tt
asks_last r text s0 s1 s2 s3 (inr once) same whole front = record {
  whole = whole_by r whole;
  front = twice_front text s0 s2 s3 (same ∙ once) front;
}
  where
    whole_by : {T E : Type 0} (r : Result T E) → OnOk r (Gains s2 s3 text) → OnOk r (OnceOrTwice text s0 s3)
    whole_by (Ok t) h = inr (gains_then s0 s2 s3 text text (same ∙ once) h)
    whole_by (Err e) h = tt

-- what was received behind it changes nothing of it
pub front_still : (text : List ℕ) (s0 s1 s2 : Option (List ℕ)) → s2 ≡ s1 → GainsFront s0 s1 text → GainsFront s0 s2 text
front_still text s0 s1 s2 same front = subst (λ s. GainsFront s0 s text) (sym same) front

pub whole_still : {T E : Type 0} (r : Result T E) (text : List ℕ) (s0 s1 s2 : Option (List ℕ)) → s2 ≡ s1 → Gains s0 s1 text → OnOk r (Gains s0 s2 text)
whole_still (Ok t) text s0 s1 s2 same whole = same ∙ whole
whole_still (Err e) text s0 s1 s2 same whole = tt

pub asks_still : {T E U V : Type 0} (q : Result U V) (r : Result T E) (text : List ℕ) (s0 s1 s2 : Option (List ℕ)) → s2 ≡ s1 → (OnOk q (OnceOrTwice text s0 s1) → OnOk r (OnceOrTwice text s0 s1)) → SendsRequest text s0 s1 q → SendsRequest text s0 s2 r
asks_still q r text s0 s1 s2 same on asks = subst (λ s. SendsRequest text s0 s r) (sym same) (record { whole = on asks.whole; front = asks.front })

-- the same of another answer, and of the request that the text is
pub asks_text : {T E : Type 0} (r : Result T E) (text request : List ℕ) (s0 s1 : Option (List ℕ)) → text ≡ request → SendsRequest text s0 s1 r → SendsRequest request s0 s1 r
asks_text r text request s0 s1 is asks = subst (λ t. SendsRequest t s0 s1 r) is asks

-- what a store counts as failed
pub asks_settled : {E : Type 0} (q : Result (Option Promise) E) (r : Result Promise E) (text : List ℕ) (s0 s1 : Option (List ℕ)) → result_ok r ≡ promise_in q → SendsRequest text s0 s1 q → SendsRequest text s0 s1 r
asks_settled (Ok o) (Ok p) text s0 s1 said asks = record { whole = asks.whole; front = asks.front }
asks_settled (Err e) (Ok p) text s0 s1 said asks = absurd (cc said)
asks_settled q (Err e) text s0 s1 said asks = record { whole = tt; front = asks.front }

-- of the key that a name has
pub asks_key : {T E U V : Type 0} (o : Option (List ℕ)) (key : List ℕ) (to : List ℕ × ℕ) (wanted other : Wanted) (s0 s1 : Option (List ℕ)) (q : Result U V) (r : Result T E) → o ≡ Some key → other ≡ wanted
    → (OnOk q (OnceOrTwice (request_bytes to key wanted) s0 s1) → OnOk r (OnceOrTwice (request_bytes to key wanted) s0 s1)) → SendsRequest (request_bytes to key wanted) s0 s1 q
    → IfSome o (λ k. SendsRequest (request_bytes to k other) s0 s1 r)
asks_key o key to wanted other s0 s1 q r e same on asks =
    subst (λ x. IfSome x (λ k. SendsRequest (request_bytes to k other) s0 s1 r)) (sym e)
    (subst (λ w. SendsRequest (request_bytes to key w) s0 s1 r) (sym same) (record { whole = on asks.whole; front = asks.front }))

pub asks_no_key : {T E : Type 0} (o : Option (List ℕ)) (to : List ℕ × ℕ) (wanted : Wanted) (s0 s1 : Option (List ℕ)) (r : Result T E) → o ≡ None → IfSome o (λ k. SendsRequest (request_bytes to k wanted) s0 s1 r)
asks_no_key o to wanted s0 s1 r e = subst (λ x. IfSome x (λ k. SendsRequest (request_bytes to k wanted) s0 s1 r)) (sym e) tt

-- one piece more
flat_one : (f : Piece → List ℕ) (ps : List Piece) (p : Piece) → flat_map f (ps ++ p ∷ []) ≡ flat_map f ps ++ f p
flat_one f ps p = sym (flat_map_more f [] ps p)

module _ (to : List ℕ × ℕ) (count : ℕ) where
  more_sent : (s s0 s1 : Option (List ℕ)) (ps : List Piece) (p : Piece) → Gains s s0 (flat_map (piece_bytes to) ps) → Gains s0 s1 (piece_bytes to p) → Gains s s1 (flat_map (piece_bytes to) (ps ++ p ∷ []))
  more_sent s s0 s1 ps p x y = subst (Gains s s1) (sym (flat_one (piece_bytes to) ps p)) (gains_then s s0 s1 (flat_map (piece_bytes to) ps) (piece_bytes to p) x y)

  quiet_before : (before now : ℕ) → before ≤ now → (Rose count now → ⊥) → Rose count before → ⊥
  quiet_before before now le quiet rose = quiet (omega (arith, le, rose))

  -- a request that was sent whole
  pub asks_whole : (before now : ℕ) (s s0 s1 : Option (List ℕ)) (key : List ℕ) (wanted : Wanted) → IsTrue (is_name key) → before ≤ now → AsksOnly to count before s s0 → Gains s0 s1 (request_bytes to key wanted) → AsksOnly to count now s s1
  asks_whole before now s s0 s1 key wanted named le a g =
      let p : Piece = record { key = key; named = named; wanted = wanted; cut = None } in record {
        later = omega (arith, a.later, le);
        pieces = a.pieces ++ p ∷ [];
        sent = more_sent s s0 s1 a.pieces p a.sent g;
        whole = λ quiet. All-push (λ q. q.cut ≡ None) a.pieces p (a.whole (quiet_before before now le quiet)) refl;
      }

  -- a front of one, whose call failed
  asks_cut : (before now k : ℕ) (s s0 s1 : Option (List ℕ)) (key : List ℕ) (wanted : Wanted) → IsTrue (is_name key) → before ≤ now → Rose count now → AsksOnly to count before s s0 → Gains s0 s1 (take k (request_bytes to key wanted)) → AsksOnly to count now s s1
  asks_cut before now k s s0 s1 key wanted named le rose a g =
      let p : Piece = record { key = key; named = named; wanted = wanted; cut = Some k } in record {
        later = omega (arith, a.later, le);
        pieces = a.pieces ++ p ∷ [];
        sent = more_sent s s0 s1 a.pieces p a.sent g;
        whole = λ quiet. absurd (quiet rose);
      }

  -- a front of one that was sent twice: as if the first had been sent, and then a front of the second
  asks_front : (before now : ℕ) (s s0 s1 : Option (List ℕ)) (key : List ℕ) (wanted : Wanted) → IsTrue (is_name key) → before ≤ now → Rose count now → AsksOnly to count before s s0 → GainsFront s0 s1 (request_bytes to key wanted ++ request_bytes to key wanted)
      → AsksOnly to count now s s1
  asks_front before now s s0 s1 key wanted named le rose a (k, fits, g) =
      let text = request_bytes to key wanted in
      elim (cases_lt (length text) k) [
        | inl more ↦
            let n = k - length text in
            let is : k ≡ length text + n = omega (arith, more) in
            let both : take k (text ++ text) ≡ text ++ take n text = ap (λ j. take j (text ++ text)) is ∙ take-append-add text text n in
            let mid = option_map (λ w. w ++ text) s0 in
            let first : AsksOnly to count now s mid = asks_whole before now s s0 mid key wanted named le a refl in
            asks_cut now now n s mid s1 key wanted named (omega arith) rose first (g ∙ ap (λ b. option_map (λ w. w ++ b) s0) both ∙ sym (gained-more s0 text (take n text)))
        | inr less ↦ asks_cut before now k s s0 s1 key wanted named le rose a (subst (Gains s0 s1) (take-append-le k text text less) g)
      ]

  asks_nothing : (before now : ℕ) (s s0 s1 : Option (List ℕ)) → before ≤ now → s1 ≡ s0 → AsksOnly to count before s s0 → AsksOnly to count now s s1
  asks_nothing before now s s0 s1 le same a = record {
    later = omega (arith, a.later, le);
    pieces = a.pieces;
    sent = same ∙ a.sent;
    whole = λ quiet. a.whole (quiet_before before now le quiet);
  }

  asks_call : {T E : Type 0} (r : Result T E) (before now : ℕ) (s s0 s1 : Option (List ℕ)) (key : List ℕ) (wanted : Wanted) → IsTrue (is_name key) → HasCause before now r → AsksOnly to count before s s0 → SendsRequest (request_bytes to key wanted) s0 s1 r → AsksOnly to count now s s1
  asks_call (Err e) before now s s0 s1 key wanted named cause a x =
      asks_front before now s s0 s1 key wanted named cause.later (omega (arith, a.later, cause.failed)) a x.front
  asks_call (Ok t) before now s s0 s1 key wanted named cause a x = by_whole x.whole
    where
      by_whole : OnceOrTwice (request_bytes to key wanted) s0 s1 → AsksOnly to count now s s1
      by_whole (inl once) = asks_whole before now s s0 s1 key wanted named cause.later a once
      by_whole (inr twice) =
          let text = request_bytes to key wanted in
          let mid = option_map (λ w. w ++ text) s0 in
          asks_whole now now s mid s1 key wanted named (omega arith) (asks_whole before now s s0 mid key wanted named cause.later a refl) (twice ∙ sym (gained-more s0 text text))

-- what a call of a store leaves of all that was sent, by the key that a name has; the host and the port are the peer's
pub asks_more : {T E : Type 0} (r : Result T E) (o : Option (List ℕ)) (to : List ℕ × ℕ) (host : List ℕ) (port count before now : ℕ) (s s0 s1 : Option (List ℕ)) (wanted : Wanted) → host ≡ to.0 → port ≡ to.1 → HasCause before now r
    → IfSome o (λ key. IsTrue (is_name key))
    → (o ≡ None → s1 ≡ s0) → IfSome o (λ key. SendsRequest (request_bytes (host, port) key wanted) s0 s1 r) → AsksOnly to count before s s0 → AsksOnly to count now s s1
asks_more r None to host port count before now s s0 s1 wanted h p cause named none x a = asks_nothing to count before now s s0 s1 cause.later (none refl) a
asks_more r (Some key) to host port count before now s s0 s1 wanted h p cause named none x a =
    asks_call to count r before now s s0 s1 key wanted named cause a
    (subst (λ q. SendsRequest (request_bytes (to.0, q) key wanted) s0 s1 r) p (subst (λ q. SendsRequest (request_bytes (q, port) key wanted) s0 s1 r) h x))

-- where nothing was sent
pub asks_begin : (to : List ℕ × ℕ) (count now : ℕ) (s s0 : Option (List ℕ)) → now ≡ count → s0 ≡ s → AsksOnly to count now s s0
asks_begin to count now s s0 stands same = record {
  later = omega (arith, stands);
  pieces = [];
  sent = subst (λ x. Gains s x []) (sym same) (gains_none s);
  whole = λ quiet. λ k d less. absurd (omega (arith, less));
}
