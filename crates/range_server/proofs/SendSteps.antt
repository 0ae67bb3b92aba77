-- Parts of an object that are sent, one behind the other.
use Rattle.std.proofs.Common.{◌≡◌, ◌∙◌, true, if◌then◌else◌, ℕ, ◌+◌, ◌-◌, ◌<◌, ◌≤◌, List, ◌++◌, length, length-take, append-nil, [], take, drop, Option, Some, None, ap, sym, refl, subst, arith}
use Rattle.std.specs.Option.{option_map}
use Rattle.std.proofs.Math.Seq.{take-append-add, take-length}
use Rattle.vol_base.specs.Outside.{part}
use Rattle.vol_base.specs.Gains.{Gains, GainsFront}
use Rattle.range_server.specs.Bodies.{CutsPart, HasBody, IsLead, IsPiece, SendsPart, body_in, object_in}
use Rattle.range_server.specs.declared.reply.Reply.{Reply}
use Rattle.vol_base.specs.Outside.{Objects}
use Rattle.range_server.specs.declared.fault.ServeFault.{ServeFault}
use Rattle.range_server.specs.declared.fault.ServeFault.TheVariants.{LinkFault, StoreFault}
use borrow.Rule.Slice.PartMut.{put_mid, post_of}
use Rattle.std.proofs.lemmas.List.{take-append-le}
use Rattle.vol_base.proofs.Gained.{gained-more}
use Rattle.range_server.proofs.PartSteps.{part_more, take_part, whole_inside}

-- nothing of it was sent
pub gains_none : (o : Option (List ℕ)) (bytes : List ℕ) → Gains o o (take 0 bytes)
gains_none o bytes = none o
  where
    none : (o : Option (List ℕ)) → Gains o o []
    none None = refl
    none (Some w) = ap Some (sym (append-nil w))

pub gains_more : (o p q : Option (List ℕ)) (a b : List ℕ) → Gains o p a → Gains p q b → Gains o q (a ++ b)
gains_more o p q a b e f = f ∙ ap (option_map (λ w. w ++ b)) e ∙ gained-more o a b

-- one piece: the read failed, the bytes were sent, or a front of them was
pub piece_unread : (object : List ℕ) (at n : ℕ) (sent : Option (List ℕ)) → 0 < n → CutsPart object at n sent sent StoreFault
piece_unread object at n sent some = λ full. (0, omega arith, (λ _. some), gains_none sent (part object at n))

pub piece_sent : (object : List ℕ) (at : ℕ) (room bytes : List ℕ) (old new : Option (List ℕ)) → IsPiece object at room bytes → Gains old new bytes → SendsPart object at (length room) old new
piece_sent object at room bytes old new is g = λ full. g ∙ ap (λ b. option_map (λ w. w ++ b) old) (is full)

pub piece_cut : (object : List ℕ) (at : ℕ) (room bytes : List ℕ) (old new : Option (List ℕ)) → IsPiece object at room bytes → length bytes ≡ length room → GainsFront old new bytes → CutsPart object at (length room) old new LinkFault
piece_cut object at room bytes old new is same g = λ full.
    (g.0, omega (arith, g.1, same), (λ e. absurd (cc e)), g.2 ∙ ap (λ b. option_map (λ w. w ++ take g.0 b) old) (is full))

-- pieces of one part
pub more_sent : (object : List ℕ) (from at n end : ℕ) (old mid new : Option (List ℕ)) → from ≤ at → at + n ≤ end
    → (length (part object from (end - from)) ≡ end - from → Gains old mid (part object from (at - from))) → SendsPart object at n mid new
    → length (part object from (end - from)) ≡ end - from → Gains old new (part object from (at + n - from))
more_sent object from at n end old mid new begun within gained sent full =
    let d = at - from in
    let place : from + d ≡ at = omega (arith, begun) in
    let whole : length (part object at n) ≡ n = subst (λ k. length (part object k n) ≡ n) place (whole_inside object from (end - from) d n full (omega (arith, begun, within))) in
    let joined : part object from (at + n - from) ≡ part object from d ++ part object at n =
    ap (part object from) (omega (arith, begun)) ∙ part_more object from d n ∙ ap (λ k. part object from d ++ part object k n) place in
    subst (Gains old new) (sym joined) (gains_more old mid new (part object from d) (part object at n) (gained full) (sent whole))

pub more_cut : (object : List ℕ) (from at n end : ℕ) (old mid new : Option (List ℕ)) (fault : ServeFault) → from ≤ at → at + n ≤ end
    → (length (part object from (end - from)) ≡ end - from → Gains old mid (part object from (at - from))) → CutsPart object at n mid new fault
    → CutsPart object from (end - from) old new fault
more_cut object from at n end old mid new fault begun within gained cut = λ full.
    let d = at - from in
    let place : from + d ≡ at = omega (arith, begun) in
    let whole : length (part object at n) ≡ n = subst (λ k. length (part object k n) ≡ n) place (whole_inside object from (end - from) d n full (omega (arith, begun, within))) in
    let c = cut whole in
    let long : length (part object from d) ≡ d = omega (arith, within, begun, full, length-take d (drop from object), length-take (end - from) (drop from object)) in
    let joined : take (d + c.0) (part object from (end - from)) ≡ part object from d ++ take c.0 (part object at n) =
    take_part object from (end - from) (d + c.0) (omega (arith, c.1, begun, within)) ∙ part_more object from d c.0 ∙ ap (λ k. part object from d ++ part object k c.0) place
    ∙ ap (λ x. part object from d ++ x) (sym (take_part object at n c.0 c.1)) in (
      d + c.0,
      omega (arith, c.1, begun, within),
      (λ e. let less = c.2 e in omega (arith, less, begun, within)),
      subst (Gains old new) (sym joined) (gains_more old mid new (part object from d) (take c.0 (part object at n)) (gained full) c.3),
    )

-- a head, and the first bytes of a body behind it
pub lead_is : (head body front lead bytes : List ℕ) (taken : ℕ) → take (length head) front ≡ head → length head ≤ length front → length bytes ≡ taken → bytes ≡ take taken body
    → lead ≡ take (length head + taken) (put_mid (length head) (length head + taken - length head) front bytes) → IsLead head body taken lead
lead_is head body front lead bytes taken eh room long eb el =
    let e : length (take (length head) front) ≡ length head = ap length eh in
    el ∙ ap (λ k. take (k + taken) (put_mid (length head) (length head + taken - length head) front bytes)) (sym e)
    ∙ take-append-add (take (length head) front) (bytes ++ post_of (length head) (length head + taken - length head) front) taken
    ∙ (λ i. eh i ++ take taken (bytes ++ post_of (length head) (length head + taken - length head) front))
    ∙ ap (λ x. head ++ x) (take-append-le taken bytes (post_of (length head) (length head + taken - length head) front) (omega (arith, long)) ∙ (ap (λ k. take k bytes) (sym long) ∙ take-length bytes) ∙ eb)

-- what follows the head of a reply whose bytes follow
pub body_is : (m : Objects) (r : Reply) (name : List ℕ) → r.body ≡ true → r.name ≡ Some name → body_in m r ≡ part (object_in m (Some name)) r.from r.count
unfolding body_in
body_is m r name b n = λ i. if b i then part (object_in m (n i)) r.from r.count else []

pub body_full : (m : Objects) (r : Reply) (name : List ℕ) → r.body ≡ true → r.name ≡ Some name → HasBody m r → length (part (object_in m (Some name)) r.from r.count) ≡ r.count
body_full m r name b n has = ap length (sym (body_is m r name b n)) ∙ has b

-- a body's first bytes are those of the object
pub body_front : (m : Objects) (r : Reply) (name old new : List ℕ) (k : ℕ) → r.body ≡ true → r.name ≡ Some name → HasBody m r → length old ≡ k → k ≤ r.count
    → IsPiece (object_in m (Some name)) r.from old new → (length new ≡ k) × (new ≡ take k (body_in m r))
body_front m r name old new k b n has long le is =
    let object = object_in m (Some name) in
    let full = body_full m r name b n has in
    let whole : length (part object r.from (length old)) ≡ length old = omega (arith, full, le, long, length-take r.count (drop r.from object), length-take (length old) (drop r.from object)) in
    let read : new ≡ part object r.from k = is whole ∙ ap (part object r.from) long in
    (ap length (is whole) ∙ whole ∙ long, read ∙ sym (take_part object r.from r.count k le) ∙ ap (take k) (sym (body_is m r name b n)))
