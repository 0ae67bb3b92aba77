-- The ends of a door, one after the other.
use Rattle.std.proofs.Common.{◌≡◌, ◌∙◌, ℕ, ◌+◌, ◌<◌, ◌≤◌, List, [], ◌∷◌, ◌++◌, length, length-append, append_assoc, append-nil, Option, Some, None, IfSome, IsSome, is_some, option_map, Result, Ok, Err, IfErr, OnOk, inl, inr, ap, sym, refl, subst, arith}
use Rattle.vol_base.specs.Outside.{Ended, IsCourse, Notes, Objects}
use Rattle.range_server.specs.Bodies.{HasServeCause, WhereTold}
use Rattle.range_server.specs.Replies.{Gained, Served, Stopped}
use Rattle.range_server.specs.Serving.{AddsBy, AddsEnd, AddsServed, EndServed, EndsBy, EndsServed, GaveBefore, NotesGiven}
use Rattle.range_server.specs.declared.fault.DoorRefusal.{DoorRefusal}
use Rattle.range_server.specs.declared.fault.DoorRefusal.TheVariants as refusal
use Rattle.range_server.specs.declared.fault.ServeFault.{ServeFault}
use Rattle.range_server.specs.declared.fault.ServeFault.TheVariants as fault

-- an end that was told is noted
noted : (list : List Ended) (a f : ℕ) (s out : List ℕ) (served new : Option (List Ended)) (stream sent : Option (List ℕ)) → served ≡ Some list → length list < a → stream ≡ Some s → sent ≡ Some out
    → Notes served a stream sent f new → new ≡ Some (list ++ (s, out, f) ∷ [])
noted list a f s out served new stream sent es lt et eo n =
    subst (λ o. Notes (Some list) a (Some s) o f new) eo (subst (λ o. Notes (Some list) a o sent f new) et (subst (λ o. Notes o a stream sent f new) es n)) lt

told_some : {A : Type 0} (o : Option A) → IsSome o → (x : A) × (o ≡ Some x)
told_some None h = absurd (cc h)
told_some (Some x) h = (x, refl)

module _ (list : List Ended) (given accepted : ℕ) (served after new : Option (List Ended)) (f : ℕ) (left stream sent stream_now sent_now : Option (List ℕ))
    (is : served ≡ Some list) (few : IfSome served (λ l. length l ≤ given)) (more : accepted ≡ given + 1) (same : after ≡ served) (told : IsSome served → IsSome stream)
    (fresh : left ≡ stream) (unsent : sent ≡ option_map (λ _. []) stream) (stays : stream_now ≡ stream) (notes : Notes after accepted stream_now sent_now f new) where
  -- what was sent to an end that was closed is noted with its stream
  pub closed : (P : Ended → Type 0) → ((s : List ℕ) → left ≡ Some s → Gained (λ out. P (s, out, f)) sent sent_now) → AddsEnd list new P
  closed P step =
      let some = told_some stream (told (subst IsSome (sym is) known)) in
      let s = some.0 in
      let got = step s (fresh ∙ some.1) in
      let out : sent_now ≡ Some got.0 = got.2 ∙ ap (option_map (λ w. w ++ got.0)) (unsent ∙ ap (option_map (λ _. [])) some.1) in
      let least : length list ≤ given = subst (λ o. IfSome o (λ l. length l ≤ given)) is few in
      let below : length list < accepted = omega (arith, least, more) in
      ((s, got.0, f), noted list accepted f s got.0 after new stream_now sent_now (same ∙ is) below (stays ∙ some.1) out notes, got.1)
    where
      known : IsSome (Some list)
      known = refl

module _ (list : List Ended) (given accepted accepted_now : ℕ) (served after new : Option (List Ended)) (f : ℕ) (stream stream_now left_now sent_now : Option (List ℕ))
    (few : IfSome served (λ l. length l ≤ given)) (more : accepted ≡ given + 1) (stands : accepted_now ≡ accepted) (same : after ≡ served) (told : IsSome served → IsSome stream) (stays : stream_now ≡ stream)
    (course : IsCourse stream_now left_now sent_now) (notes : Notes after accepted stream_now sent_now f new) where
  -- an end that was closed is noted, whatever was sent to it
  pub noted_one : served ≡ Some list → (ends : List Ended) × (new ≡ Some (list ++ ends)) × (accepted_now ≡ given + length ends)
  noted_one is =
      let some = told_some stream (told (subst IsSome (sym is) known)) in
      let sent = told_some sent_now (course.sent_told ∙ ap is_some (stays ∙ some.1)) in
      let least : length list ≤ given = subst (λ o. IfSome o (λ l. length l ≤ given)) is few in
      let below : length list < accepted = omega (arith, least, more) in
      ((some.0, sent.0, f) ∷ [], noted list accepted f some.0 sent.0 after new stream_now sent_now (same ∙ is) below (stays ∙ some.1) sent.1 notes, omega (arith, more, stands))
    where
      known : IsSome (Some list)
      known = refl

pub noted_none : (served : Option (List Ended)) (given : ℕ) → NotesGiven served served given given
noted_none served given = λ list is. ([], is ∙ ap Some (sym (append-nil list)), omega arith)

-- the ends of two calls, one after the other
pub noted_more : (served mid now : Option (List Ended)) (given given_mid given_now : ℕ) → NotesGiven served mid given given_mid → NotesGiven mid now given_mid given_now → NotesGiven served now given given_now
noted_more served mid now given given_mid given_now first second = λ list is.
    let a = first list is in
    let b = second (list ++ a.0) a.1 in
    (a.0 ++ b.0, b.1 ∙ ap Some (append_assoc list a.0 b.0), omega (arith, a.2, b.2, length-append a.0 b.0))

module _ (m : Objects) (dataset : List ℕ) (before now : ℕ) (objects : Option Objects) (left sent sent_now : Option (List ℕ)) (told : objects ≡ Some m) (s : List ℕ) (is : left ≡ Some s) where
  -- an end amid which memory ran out
  pub ended_short : {T : Type 0} (r : Result T ServeFault) → r ≡ Err fault.OutOfMemory
      → IfErr r (λ why. WhereTold objects (λ m. WhereTold left (λ stream. Gained (Stopped m dataset before now why stream) sent sent_now)))
      → Gained (Stopped m dataset before now fault.OutOfMemory s) sent sent_now
  ended_short r e stopped =
      subst (λ r. IfErr r (λ why. WhereTold objects (λ m. WhereTold left (λ stream. Gained (Stopped m dataset before now why stream) sent sent_now)))) e stopped m told s is

  -- any other
  pub ended : {T : Type 0} (r : Result T ServeFault) (link f : ℕ) → link ≡ 0 → (r ≡ Err fault.OutOfMemory → ⊥) → HasServeCause link f before now r
      → OnOk r (WhereTold objects (λ m. WhereTold left (λ stream. Gained (Served m dataset before now stream) sent sent_now)))
      → IfErr r (λ why. WhereTold objects (λ m. WhereTold left (λ stream. Gained (Stopped m dataset before now why stream) sent sent_now)))
      → Gained (λ out. EndServed m dataset before now (s, out, f)) sent sent_now
  ended (Ok t) link f zero other cause served stopped = let g = served m told s is in (g.0, inl g.1, g.2)
  ended (Err fault.LinkFault) link f zero other cause served stopped =
      let g = stopped m told s is in
      let rose = cause.link_rose refl in
      (g.0, inr (inl (omega (arith, rose, zero), g.1)), g.2)
  ended (Err fault.StoreFault) link f zero other cause served stopped = let g = stopped m told s is in (g.0, inr (inr (cause.store_rose refl, g.1)), g.2)
  ended (Err fault.OutOfMemory) link f zero other cause served stopped = absurd (other refl)

-- how many ends a door gave before a refusal, counted from the first
pub gave_later : (why : DoorRefusal) (most n first given accepted : ℕ) → given ≡ first + n → n < most → GaveBefore why 1 given accepted → GaveBefore why most first accepted
gave_later refusal.DoorFault most n first given accepted e lt gave = (omega (arith, gave.0, e), omega (arith, gave.1, e, lt))
gave_later refusal.OutOfMemory most n first given accepted e lt gave = (omega (arith, gave.0, e), omega (arith, gave.1, e, lt))

module _ (m : Objects) (dataset : List ℕ) where
  -- one end more
  ends_more : (before mid now : ℕ) (ends : List Ended) (end : Ended) → EndsServed m dataset before mid ends → mid ≤ now → EndServed m dataset mid now end → EndsServed m dataset before now (ends ++ end ∷ [])
  ends_more before mid now [] end h le e = (mid, now, h, le, e, omega arith)
  ends_more before mid now (x ∷ ends) end h le e = (h.0, h.1, h.2, h.3, h.4, ends_more h.1 mid now ends end h.5 le e)

  ends_later : (before mid now : ℕ) (ends : List Ended) → EndsServed m dataset before mid ends → mid ≤ now → EndsServed m dataset before now ends
  ends_later before mid now [] h le = omega (arith, h, le)
  ends_later before mid now (x ∷ ends) h le = (h.0, h.1, h.2, h.3, h.4, ends_later h.1 mid now ends h.5 le)

  pub served_none : (before : ℕ) (list : List Ended) (served : Option (List Ended)) → served ≡ Some list → AddsServed m dataset 0 before before list served
  served_none before list served is = ([], is ∙ ap Some (sym (append-nil list)), refl, omega arith)

  module _ (n before mid now : ℕ) (list : List Ended) (served new : Option (List Ended)) (h : AddsServed m dataset n before mid list served) (le : mid ≤ now) where
    pub served_more : ((l : List Ended) → served ≡ Some l → AddsEnd l new (EndServed m dataset mid now)) → AddsServed m dataset (n + 1) before now list new
    served_more step =
        let s = step (list ++ h.0) h.1 in (
          h.0 ++ s.0 ∷ [],
          s.1 ∙ ap Some (append_assoc list h.0 (s.0 ∷ [])),
          omega (arith, h.2, length-append h.0 (s.0 ∷ [])),
          ends_more before mid now h.0 s.0 h.3 le s.2,
        )

    -- a refusal ends the serving
    pub served_by : (why : DoorRefusal) (most first given accepted : ℕ) → given ≡ first + n → n < most → GaveBefore why 1 given accepted
        → ((l : List Ended) → served ≡ Some l → AddsBy m dataset why mid now l new)
        → (ends : List Ended) × (new ≡ Some (list ++ ends)) × (accepted ≡ first + length ends) × EndsBy m dataset why most before now ends
    served_by refusal.DoorFault most first given accepted e lt gave step =
        let s = step (list ++ h.0) h.1 in
        (h.0, s.0, omega (arith, gave.0, gave.1, e, h.2), (omega (arith, h.2, lt), ends_later before mid now h.0 h.3 le))
    served_by refusal.OutOfMemory most first given accepted e lt gave step =
        let s = step (list ++ h.0) h.1 in
        let one_more = length-append h.0 (s.0 ∷ []) in (
          h.0 ++ s.0 ∷ [],
          s.1 ∙ ap Some (append_assoc list h.0 (s.0 ∷ [])),
          omega (arith, gave.0, gave.1, e, h.2, one_more),
          (omega (arith, h.2, lt, one_more), (mid, h.0, s.0, refl, h.3, le, s.2)),
        )
