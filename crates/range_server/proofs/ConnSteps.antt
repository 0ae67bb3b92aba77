-- One request of a connection, and what it leaves.
use Rattle.std.proofs.Common.{◌≡◌, ◌≢◌, ◌∙◌, ℕ, ◌≤◌, List, [], ◌++◌, length, length-append, take, drop, append-nil, Option, Some, None, option_map, inl, inr, ap, sym, refl, subst, arith}
use Rattle.httparse.specs.Grammar.{print_request}
use Rattle.httparse.specs.Spans.{IsRequestOf}
use Rattle.httparse.specs.declared.spans.HeaderSpan.{HeaderSpan}
use Rattle.httparse.specs.declared.spans.RequestSpans.{RequestSpans}
use Rattle.httparse.proofs.GrammarLemmas.{ReadsRequest-append}
use Rattle.vol_base.specs.Outside.{Objects}
use Rattle.request_heads.specs.Heads.{BeginsWith}
use Rattle.request_heads.specs.Answers.{IsNext}
use Rattle.request_heads.specs.declared.kinds.Next.TheVariants as coming
use Rattle.vol_base.specs.Gains.{Gains}
use Rattle.range_server.specs.Bodies.{Cuts, CutsReply, bad_bytes, body_in, failed_bytes}
use Rattle.range_server.specs.Replies.{Answered, EndsIn, Gained, GoesOn, Stops, StopsShort, planned_at, reply_to}
use Rattle.range_server.specs.Texts.{reply_head}
use Rattle.range_server.specs.declared.fault.ServeFault.{ServeFault}
use Rattle.range_server.specs.declared.reply.Ending.{Ending}
use Rattle.range_server.specs.declared.reply.Ending.TheVariants as ending
use Rattle.range_server.specs.declared.fault.ServeFault.TheVariants.{LinkFault, OutOfMemory, StoreFault}

-- the head at the front of what was received, and what is behind it
pub behind_head : (left : Option (List ℕ)) (received : List ℕ) (spans : List HeaderSpan) (parts : RequestSpans) (rest : List ℕ) → length received ≤ 8192 → (of : IsRequestOf received spans parts)
    → option_map (λ bytes. received ++ bytes) left ≡ Some rest → (behind : List ℕ) × BeginsWith rest of.0 behind × (option_map (λ bytes. drop parts.len received ++ bytes) left ≡ Some behind)
behind_head None received spans parts rest few of e = absurd (cc e)
behind_head (Some bytes) received spans parts rest few of e =
    let whole : received ++ bytes ≡ rest = cc in
    let reads = of.1.reads in (
      drop parts.len received ++ bytes,
      subst (λ s. BeginsWith s of.0 (drop parts.len received ++ bytes)) whole (record {
        reads = ReadsRequest-append received of.0 (drop parts.len received) bytes reads;
        short = omega (arith, few, ap length reads.1, length-append (print_request of.0) (drop parts.len received));
      }),
      refl,
    )

pub gains_nothing : (old new : Option (List ℕ)) → new ≡ old → Gains old new []
gains_nothing old new e = e ∙ none old
  where
    none : (o : Option (List ℕ)) → o ≡ option_map (λ w. w ++ []) o
    none None = refl
    none (Some w) = ap Some (sym (append-nil w))

module _ (m : Objects) (dataset : List ℕ) (n before now : ℕ) (rest : List ℕ) where
  short_nothing : StopsShort m dataset before now n rest []
  short_nothing = inl ([], 0, inl refl, refl)

  pub stops_nothing : (fault : ServeFault) (old new : Option (List ℕ)) → fault ≢ StoreFault → new ≡ old → Gained (Stops m dataset before now fault n rest) old new
  stops_nothing LinkFault old new other e = ([], short_nothing, gains_nothing old new e)
  stops_nothing OutOfMemory old new other e = ([], refl, gains_nothing old new e)
  stops_nothing StoreFault old new other e = absurd (other refl)

  -- amid the 400
  pub stops_bad : (fault : ServeFault) (old mid new : Option (List ℕ)) → fault ≢ StoreFault → mid ≡ old → IsNext rest coming.Bad → CutsReply bad_bytes [] mid new fault
      → Gained (Stops m dataset before now fault n rest) old new
  stops_bad LinkFault old mid new other e bad cut =
      let gains : Gains old new (take cut.0 bad_bytes) = subst (λ o. Gains o new (take cut.0 bad_bytes)) e (subst (λ b. Gains mid new (take cut.0 b)) (append-nil bad_bytes) cut.2) in
      (take cut.0 bad_bytes, inl (bad_bytes, cut.0, inr (inl (bad.0, bad.1, refl)), refl), gains)
  stops_bad OutOfMemory old mid new other e bad cut = stops_nothing OutOfMemory old new (λ e. absurd (cc e)) (cut ∙ e)
  stops_bad StoreFault old mid new other e bad cut = absurd (other refl)

  module _ (left : Option (List ℕ)) (received : List ℕ) (spans : List HeaderSpan) (parts : RequestSpans) (old mid new : Option (List ℕ))
      (few : length received ≤ 8192) (of : IsRequestOf received spans parts) (is : option_map (λ bytes. received ++ bytes) left ≡ Some rest) (same : mid ≡ old) where
    pub goes_on : (pending : Option (List ℕ)) → pending ≡ option_map (λ bytes. drop parts.len received ++ bytes) left → Answered m dataset n of.0 mid new None
        → GoesOn m dataset n rest old new pending
    goes_on pending e a =
        let found = behind_head left received spans parts rest few of is in
        (of.0, found.0, found.1, a.1, subst (λ o. Gains o new (reply_to m dataset n of.0)) same a.0, e ∙ found.2)

    pub ends_here : (how : Ending) → Answered m dataset n of.0 mid new (Some how) → Gained (EndsIn m dataset how n rest) old new
    ends_here ending.Whole a =
        let found = behind_head left received spans parts rest few of is in
        (reply_to m dataset n of.0, inr (inr (of.0, found.0, found.1, a.1, refl)), subst (λ o. Gains o new (reply_to m dataset n of.0)) same a.0)
    ends_here ending.Failed a =
        let found = behind_head left received spans parts rest few of is in
        (failed_bytes, (of.0, found.0, found.1, refl), subst (λ o. Gains o new failed_bytes) same a)

    pub stops_here : (fault : ServeFault) → Cuts m (planned_at m dataset n of.0) before now mid new fault → Gained (Stops m dataset before now fault n rest) old new
    stops_here LinkFault (inl cut) =
        let found = behind_head left received spans parts rest few of is in
        let whole = reply_to m dataset n of.0 in
        (take cut.0 whole, inl (whole, cut.0, inr (inr (of.0, found.0, found.1, refl)), refl), subst (λ o. Gains o new (take cut.0 whole)) same cut.2)
    stops_here LinkFault (inr cut) =
        let found = behind_head left received spans parts rest few of is in
        let k = cut.2.0 in
        (take k failed_bytes, inr (cut.0, (failed_bytes, k, (of.0, found.0, found.1, refl), refl)), subst (λ o. Gains o new (take k failed_bytes)) same (subst (λ b. Gains mid new (take k b)) (append-nil failed_bytes) cut.2.2))
    stops_here StoreFault (inl cut) =
        let found = behind_head left received spans parts rest few of is in
        let r = planned_at m dataset n of.0 in
        (reply_head r ++ take cut.0 (body_in m r), (of.0, found.0, found.1, cut.0, cut.1, refl), subst (λ o. Gains o new (reply_head r ++ take cut.0 (body_in m r))) same cut.2)
    stops_here StoreFault (inr cut) = absurd (cut.1 refl)
    stops_here OutOfMemory (inl cut) = stops_nothing OutOfMemory old new (λ e. absurd (cc e)) (cut ∙ same)
    stops_here OutOfMemory (inr cut) = stops_nothing OutOfMemory old new (λ e. absurd (cc e)) (cut.2 ∙ same)
