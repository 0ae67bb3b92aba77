-- Requests of a connection, one after the other.
use Rattle.std.proofs.Common.{◌≡◌, ◌∙◌, ℕ, ◌+◌, ◌≤◌, Bool, false, List, [], ◌∷◌, ◌++◌, length, length-append, append_assoc, append-nil, Option, Some, option_map, inl, inr, ap, sym, refl, subst, arith}
use Rattle.httparse.specs.Grammar.{RequestHead}
use Rattle.vol_base.specs.Outside.{Objects}
use Rattle.request_heads.specs.Heads.{BeginsWith, pending}
use Rattle.range_server.specs.Replies.{Answers, Behind, EndsIn, Gained, GoesOn, HasReached, Reaches, Served, ServedIn, Stopped, Stops, closes_at, reply_to}
use Rattle.vol_base.specs.Causes.{Rose}
use Rattle.range_server.specs.declared.fault.ServeFault.{ServeFault}
use Rattle.range_server.specs.declared.reply.Ending.{Ending}
use Rattle.range_server.specs.declared.reply.Ending.TheVariants as ending
use Rattle.range_server.specs.declared.fault.ServeFault.TheVariants.{LinkFault, OutOfMemory, StoreFault}
use Rattle.range_server.proofs.CauseSteps.{rose_later}
use Rattle.range_server.proofs.ConnSteps.{gains_nothing}
use Rattle.range_server.proofs.SendSteps.{gains_more}

module _ (reply : ℕ → RequestHead → List ℕ) (closes : ℕ → RequestHead → Bool) where
  -- one request more
  reaches_more : (heads : List RequestHead) (n m : ℕ) (stream rest behind out : List ℕ) (head : RequestHead) → n + length heads ≡ m → Reaches reply closes heads n stream rest out
      → BeginsWith rest head behind → closes m head ≡ false → Reaches reply closes (heads ++ head ∷ []) n stream behind (out ++ reply m head)
  reaches_more [] n m stream rest behind out head e r b stays =
      let same : m ≡ n = omega (arith, e) in (
        behind,
        [],
        subst (λ s. BeginsWith s head behind) r.0 b,
        subst (λ k. closes k head ≡ false) same stays,
        ap (λ o. o ++ reply m head) r.1 ∙ ap (λ k. reply k head) same ∙ sym (append-nil (reply n head)),
        (refl, refl),
      )
  reaches_more (x ∷ heads) n m stream rest behind out head e r b stays = (
    r.0,
    r.1 ++ reply m head,
    r.2,
    r.3,
    ap (λ o. o ++ reply m head) r.4 ∙ append_assoc (reply n x) r.1 (reply m head),
    reaches_more heads (n + 1) m r.0 rest behind r.1 head (omega (arith, e)) r.5 b stays,
  )

module _ (m : Objects) (dataset stream : List ℕ) where
  pub reached_none : (received : List ℕ) (left old : Option (List ℕ)) → left ≡ Some stream → HasReached m dataset 0 stream (pending received 0 left) old old
  reached_none received left old e = ([], stream, [], ap (option_map (λ bytes. [] ++ bytes)) e, gains_nothing old old refl, refl, (refl, refl))

  pub reached_more : (n : ℕ) (before after old mid new : Option (List ℕ)) → HasReached m dataset n stream before old mid
      → ((rest : List ℕ) → before ≡ Some rest → GoesOn m dataset n rest mid new after) → HasReached m dataset (n + 1) stream after old new
  reached_more n before after old mid new h step =
      let s = step h.1 h.3 in
      let head = s.0 in
      let whole = reply_to m dataset n head in (
        h.0 ++ head ∷ [],
        s.1,
        h.2 ++ whole,
        s.5,
        gains_more old mid new h.2 whole h.4 s.4,
        omega (arith, h.5, length-append h.0 (head ∷ [])),
        reaches_more (reply_to m dataset) (closes_at m dataset) h.0 0 n stream h.1 s.1 h.2 head (omega (arith, h.5)) h.6 s.2 s.3,
      )

  pub reached_end : (Last : Answers) (n : ℕ) (before old mid new : Option (List ℕ)) → HasReached m dataset n stream before old mid
      → ((rest : List ℕ) → before ≡ Some rest → Gained (Last n rest) mid new) → Gained (Behind (reply_to m dataset) (closes_at m dataset) Last stream) old new
  reached_end Last n before old mid new h step =
      let s = step h.1 h.3 in (
        h.2 ++ s.0,
        (h.0, h.1, h.2, s.0, h.6, subst (λ k. Last k h.1 s.0) (sym h.5) s.1, refl),
        gains_more old mid new h.2 s.0 h.4 s.2,
      )

  stops_later : (before mid now n : ℕ) (fault : ServeFault) (rest out : List ℕ) → before ≤ mid → Stops m dataset mid now fault n rest out → Stops m dataset before now fault n rest out
  stops_later before mid now n LinkFault rest out le (inl h) = inl h
  stops_later before mid now n LinkFault rest out le (inr h) = inr (rose_later before mid now le h.0, h.1)
  stops_later before mid now n OutOfMemory rest out le h = h
  stops_later before mid now n StoreFault rest out le h = h

  pub served_all : (how : Ending) (n : ℕ) (waiting old now_sent new : Option (List ℕ)) → HasReached m dataset n stream waiting old now_sent
      → ((rest : List ℕ) → waiting ≡ Some rest → Gained (EndsIn m dataset how n rest) now_sent new) → Gained (ServedIn m dataset how stream) old new
  served_all how = reached_end (EndsIn m dataset how)

  -- however it ended, it was served to its end
  pub served_as : (before now : ℕ) (how : Ending) (out : List ℕ) → (how ≡ ending.Failed → Rose before now) → ServedIn m dataset how stream out → Served m dataset before now stream out
  served_as before now ending.Whole out rose h = (h.0, h.1, h.2, h.3, h.4, inl h.5, h.6)
  served_as before now ending.Failed out rose h = (h.0, h.1, h.2, h.3, h.4, inr (rose refl, h.5), h.6)

  pub served_front : (before mid now n : ℕ) (fault : ServeFault) (waiting old now_sent new : Option (List ℕ)) → before ≤ mid → HasReached m dataset n stream waiting old now_sent
      → ((rest : List ℕ) → waiting ≡ Some rest → Gained (Stops m dataset mid now fault n rest) now_sent new) → Gained (Stopped m dataset before now fault stream) old new
  served_front before mid now n fault waiting old now_sent new le h step =
      reached_end (Stops m dataset before now fault) n waiting old now_sent new h (λ rest e. let s = step rest e in (s.0, stops_later before mid now n fault rest s.0 le s.1, s.2))

  -- what a store's fault left, by the counts of another
  stops_by : (before now was is n : ℕ) (fault : ServeFault) (rest out : List ℕ) → (Rose before now → Rose was is) → Stops m dataset before now fault n rest out → Stops m dataset was is fault n rest out
  stops_by before now was is n LinkFault rest out rose (inl h) = inl h
  stops_by before now was is n LinkFault rest out rose (inr h) = inr (rose h.0, h.1)
  stops_by before now was is n OutOfMemory rest out rose h = h
  stops_by before now was is n StoreFault rest out rose h = h

  pub stopped_by : (before now was is : ℕ) (fault : ServeFault) (out : List ℕ) → (Rose before now → Rose was is) → Stopped m dataset before now fault stream out → Stopped m dataset was is fault stream out
  stopped_by before now was is fault out rose h = (h.0, h.1, h.2, h.3, h.4, stops_by before now was is (length h.0) fault h.1 h.3 rose h.5, h.6)

  -- nothing was sent
  pub stopped_none : (before now : ℕ) (old : Option (List ℕ)) → Gained (Stopped m dataset before now OutOfMemory stream) old old
  stopped_none before now old = ([], ([], stream, [], [], (refl, refl), refl, refl), gains_nothing old old refl)
