-- Replies that are sent: a head with the first bytes of a body, and then the rest.
use Rattle.std.proofs.Common.{◌≡◌, ◌≢◌, ◌∙◌, IsTrue, true, false, if◌then◌else◌, ℕ, zero, suc, ◌+◌, ◌-◌, ◌<◌, ◌≤◌, List, [], ◌++◌, length, length-take, length-append, length-drop, append_assoc, take, drop, take-append-drop, Option, Some, None, inl, inr, ap, sym, refl, subst, arith}
use Rattle.std.specs.Option.{option_map}
use Rattle.std.proofs.Math.Seq.{take-append-add, take-length}
use Rattle.std.proofs.lemmas.Bool.{cases_Bool}
use Rattle.std.proofs.lemmas.List.{take-append-le}
use Rattle.vol_base.specs.Outside.{Objects, part}
use Rattle.vol_base.specs.Gains.{Gains, GainsFront}
use Rattle.range_server.specs.Bodies.{CutsPart, CutsReply, HasBody, IsLead, SendsPart, body_in, held, object_in}
use Rattle.std.specs.FinMap as map
use Rattle.range_server.specs.declared.fault.ServeFault.{ServeFault}
use Rattle.range_server.specs.declared.fault.ServeFault.TheVariants.{LinkFault, OutOfMemory, StoreFault}
use Rattle.range_server.specs.Replies.{numbered}
use Rattle.range_server.specs.declared.reply.Reply.{Reply}
use Rattle.range_server.proofs.PartSteps.{part_more, take_part, whole_inside}
use Rattle.range_server.proofs.SendSteps.{body_full, body_is, gains_more}

no_part : (from n : ℕ) → part [] from n ≡ []
no_part zero zero = refl
no_part zero (suc n) = refl
no_part (suc from) zero = refl
no_part (suc from) (suc n) = refl

-- a reply without a body, or without an object
pub body_none : (m : Objects) (r : Reply) → r.body ≡ false → body_in m r ≡ []
unfolding body_in
body_none m r b = λ i. if b i then part (object_in m r.name) r.from r.count else []

pub body_nameless : (m : Objects) (r : Reply) → r.name ≡ None → body_in m r ≡ []
unfolding body_in
body_nameless m r n = elim (cases_Bool r.body) [
  | inl t ↦ (λ i. if t i then part (object_in m (n i)) r.from r.count else []) ∙ no_part r.from r.count
  | inr f ↦ (λ i. if f i then part (object_in m r.name) r.from r.count else [])
]

-- what was put in front is a front of the reply
lead_splits : (head body lead : List ℕ) (taken : ℕ) → IsLead head body taken lead → lead ++ drop taken body ≡ head ++ body
lead_splits head body lead taken is = ap (λ x. x ++ drop taken body) is ∙ append_assoc head (take taken body) (drop taken body) ∙ ap (λ x. head ++ x) (take-append-drop taken body)

pub lead_cut : (head body lead : List ℕ) (taken : ℕ) (old new : Option (List ℕ)) → IsLead head body taken lead → GainsFront old new lead → GainsFront old new (head ++ body)
lead_cut head body lead taken old new is g =
    let whole = lead_splits head body lead taken is in
    let front : take g.0 lead ≡ take g.0 (head ++ body) = sym (take-append-le g.0 lead (drop taken body) g.1) ∙ ap (take g.0) whole in
    (g.0, omega (arith, g.1, ap length whole, length-append lead (drop taken body)), subst (Gains old new) front g.2)

pub lead_whole : (head body lead : List ℕ) (taken : ℕ) (old new : Option (List ℕ)) → body ≡ [] → IsLead head body taken lead → Gains old new lead → Gains old new (head ++ body)
lead_whole head body lead taken old new empty is g = subst (Gains old new) (is ∙ ap (λ x. head ++ x) (ap (take taken) empty ∙ no_part 0 taken ∙ sym empty)) g

module _ (m : Objects) (r : Reply) (name head lead : List ℕ) (taken : ℕ) (old mid new : Option (List ℕ))
    (b : r.body ≡ true) (n : r.name ≡ Some name) (has : HasBody m r) (le : taken ≤ r.count) (is : IsLead head (body_in m r) taken lead) (g : Gains old mid lead) where
  behind_full : length (part (object_in m (Some name)) (r.from + taken) (r.count - taken)) ≡ r.count - taken
  behind_full = whole_inside (object_in m (Some name)) r.from r.count taken (r.count - taken) (body_full m r name b n has) (omega (arith, le))

  -- the head and the body up to some byte behind those that were put in front
  up_to : (k : ℕ) → taken + k ≤ r.count → lead ++ take k (part (object_in m (Some name)) (r.from + taken) (r.count - taken)) ≡ head ++ take (taken + k) (body_in m r)
  up_to k few =
      let body = body_is m r name b n in
      let first : take taken (body_in m r) ≡ part (object_in m (Some name)) r.from taken = ap (take taken) body ∙ take_part (object_in m (Some name)) r.from r.count taken le in
      let second : take k (part (object_in m (Some name)) (r.from + taken) (r.count - taken)) ≡ part (object_in m (Some name)) (r.from + taken) k = take_part (object_in m (Some name)) (r.from + taken) (r.count - taken) k (omega (arith, few)) in
      let both : take (taken + k) (body_in m r) ≡ part (object_in m (Some name)) r.from (taken + k) = ap (take (taken + k)) body ∙ take_part (object_in m (Some name)) r.from r.count (taken + k) few in
      (λ i. is i ++ second i) ∙ append_assoc head (take taken (body_in m r)) (part (object_in m (Some name)) (r.from + taken) k) ∙ ap (λ x. head ++ (x ++ part (object_in m (Some name)) (r.from + taken) k)) first
      ∙ ap (λ x. head ++ x) (sym (part_more (object_in m (Some name)) r.from taken k) ∙ sym both)

  pub rest_sent : (end : ℕ) → end ≡ r.from + r.count → SendsPart (object_in m (Some name)) (r.from + taken) (end - (r.from + taken)) mid new → Gains old new (head ++ body_in m r)
  rest_sent end e sent =
      let count : end - (r.from + taken) ≡ r.count - taken = omega (arith, e, le) in
      let more = subst (λ k. SendsPart (object_in m (Some name)) (r.from + taken) k mid new) count sent behind_full in
      let tail = part (object_in m (Some name)) (r.from + taken) (r.count - taken) in
      let long : length (body_in m r) ≡ r.count = ap length (body_is m r name b n) ∙ body_full m r name b n has in
      let all : lead ++ tail ≡ head ++ body_in m r =
      ap (λ x. lead ++ x) (sym (take_all (r.count - taken) tail behind_full)) ∙ up_to (r.count - taken) (omega (arith, le))
      ∙ ap (λ x. head ++ x) (take_all (taken + (r.count - taken)) (body_in m r) (omega (arith, long, le))) in
      subst (Gains old new) all (gains_more old mid new lead tail g more)
    where
      take_all : (k : ℕ) (xs : List ℕ) → length xs ≡ k → take k xs ≡ xs
      take_all k xs e = ap (λ k. take k xs) (sym e) ∙ take-length xs

  pub rest_cut : (end : ℕ) (fault : ServeFault) → end ≡ r.from + r.count → fault ≢ OutOfMemory → CutsPart (object_in m (Some name)) (r.from + taken) (end - (r.from + taken)) mid new fault → CutsReply head (body_in m r) old new fault
  rest_cut end fault e other cut =
      let count : end - (r.from + taken) ≡ r.count - taken = omega (arith, e, le) in
      let c = subst (λ k. CutsPart (object_in m (Some name)) (r.from + taken) k mid new fault) count cut behind_full in
      let k = c.0 in
      let few : taken + k ≤ r.count = omega (arith, c.1, le) in
      let long : length (body_in m r) ≡ r.count = ap length (body_is m r name b n) ∙ body_full m r name b n has in
      let gains : Gains old new (head ++ take (taken + k) (body_in m r)) = subst (Gains old new) (up_to k few) (gains_more old mid new lead (take k (part (object_in m (Some name)) (r.from + taken) (r.count - taken))) g c.3) in
      by_fault fault other (taken + k) (omega (arith, few, long)) (λ e. let less = c.2 e in omega (arith, less, long, le)) gains
    where
      by_fault : (fault : ServeFault) → fault ≢ OutOfMemory → (j : ℕ) → j ≤ length (body_in m r) → (fault ≡ StoreFault → j < length (body_in m r)) → Gains old new (head ++ take j (body_in m r)) → CutsReply head (body_in m r) old new fault
      by_fault LinkFault other j le less g = (length head + j, omega (arith, le, length-append head (body_in m r)), subst (Gains old new) (sym (take-append-add head (body_in m r) j)) g)
      by_fault StoreFault other j le less g = (j, less refl, g)
      by_fault OutOfMemory other j le less g = absurd (other refl)

-- a reply whose bytes lie in an object of the length that it tells has as many bytes as it says
pub sized_body : (m : Objects) (r : Reply) (name : List ℕ) (size : Option ℕ) → r.from + r.count ≤ r.total → (IsTrue r.body → (r.name ≡ Some name) × (size ≡ Some r.total))
    → size ≡ option_map length (map.get m name) → HasBody m r
sized_body m r name size fits sized found = λ b.
    let s = sized b in
    ap length (body_is m r name b s.0) ∙ full (map.get m name) (sym s.1 ∙ found)
  where
    full : (o : Option (List ℕ)) → Some r.total ≡ option_map length o → length (part (held o) r.from r.count) ≡ r.count
    full None e = absurd (cc e)
    full (Some bytes) e =
        let long : r.total ≡ length bytes = cc in
        omega (arith, long, fits, length-take r.count (drop r.from bytes), length-drop r.from bytes)

pub refused_body : (m : Objects) (r : Reply) → r.body ≡ false → HasBody m r
refused_body m r b = λ t. absurd (cc)

-- the number of a request changes nothing of its reply but whether it closes
pub numbered_body : (m : Objects) (n : ℕ) (r : Reply) → HasBody m r → HasBody m (numbered n r)
unfolding body_in
numbered_body m n r has = has
