-- One request more on a connection: what is left to receive is the reply to it, and what came of it says what is there.
use Rattle.std.proofs.Common.{◌≡◌, ◌∙◌, ℕ, ◌+◌, Bool, true, false, List, [], ◌∷◌, ◌++◌, length, append_assoc, append-nil, Option, Some, inl, inr, ap, sym, refl, subst, arith}
use Rattle.std.specs.FinMap as map
use Rattle.std.proofs.Math.Seq.{drop-append_seam}
use Rattle.httparse.specs.Grammar.{RequestHead, ReadsResponse}
use Rattle.httparse.proofs.GrammarLemmas.{ReadsRequest-append, response_unique}
use Rattle.vol_base.specs.Outside.{Objects}
use Rattle.request_heads.specs.Heads.{BeginsWith}
use Rattle.range_server.specs.Replies.{AreReplies, Reaches, closes_at, reply_to}
use Rattle.remote_store.specs.Dials.{AreHeads, LeavesReplies, Line, Peer}
use Rattle.remote_store.specs.Requests.{request_of}
use Rattle.remote_store.specs.Answers.{Answers, SaysOf}
use Rattle.remote_store.specs.Fits.{Fits, FitsAt, NeverFits, judged}
use Rattle.remote_store.specs.declared.wanted.Promise.{Promise}
use Rattle.remote_store.specs.declared.wanted.Wanted.{Wanted}
use Rattle.remote_store.specs.Quiet.{IsQuiet}

begins_more : (stream behind b : List ℕ) (head : RequestHead) → BeginsWith stream head behind → BeginsWith (stream ++ b) head (behind ++ b)
begins_more stream behind b head x = record { reads = ReadsRequest-append stream head behind b x.reads; short = x.short }

module _ (reply : ℕ → RequestHead → List ℕ) (closes : ℕ → RequestHead → Bool) where
  reach_more : (heads : List RequestHead) (n : ℕ) (stream out b : List ℕ) → Reaches reply closes heads n stream [] out → Reaches reply closes heads n (stream ++ b) b out
  reach_more [] n stream out b x = (ap (λ s. s ++ b) x.0, x.1)
  reach_more (h ∷ heads) n stream out b x = (x.0 ++ b, x.1, begins_more stream x.0 b h x.2, x.3, x.4, reach_more heads (n + 1) x.0 x.1 b x.5)

  reach_on : (heads : List RequestHead) (n m : ℕ) (stream mid behind out : List ℕ) (head : RequestHead) → n + length heads ≡ m → Reaches reply closes heads n stream mid out → BeginsWith mid head behind → closes m head ≡ false
      → Reaches reply closes (heads ++ head ∷ []) n stream behind (out ++ reply m head)
  reach_on [] n m stream mid behind out head e x b on =
      let at : m ≡ n = omega (arith, e) in
      let begins = subst (λ s. BeginsWith s head behind) x.0 b in
      (behind, [], begins, subst (λ k. closes k head ≡ false) at on, ((λ i. x.1 i ++ reply (at i) head) ∙ sym (append-nil (reply n head))), (refl, refl))
  reach_on (h ∷ heads) n m stream mid behind out head e x b on =
      (x.0, x.1 ++ reply m head, x.2, x.3, ((λ i. x.4 i ++ reply m head) ∙ append_assoc (reply n h) x.1 (reply m head)), reach_on heads (n + 1) m x.0 mid behind x.1 head (omega (arith, e)) x.5 b on)

  heads_of : (heads : List RequestHead) (n : ℕ) (stream out : List ℕ) (head : RequestHead) (mid : List ℕ) → Reaches reply closes heads n stream mid out → BeginsWith mid head [] → AreHeads (heads ++ head ∷ []) stream
  heads_of [] n stream out head mid x b = ([], subst (λ s. BeginsWith s head []) x.0 b, refl)
  heads_of (h ∷ heads) n stream out head mid x b = (x.0, x.2, heads_of heads (n + 1) x.0 x.1 head mid x.5 b)

-- the reply comes next
module _ (peer : Peer) (line : Line) (head : RequestHead) (text : List ℕ) (quiet : IsQuiet peer line) (is : BeginsWith text head []) where
  number : ℕ
  number = length quiet.0

  whole_heads : AreHeads (quiet.0 ++ head ∷ []) (line.sent ++ text)
  whole_heads =
      heads_of (reply_to peer.objects peer.dataset) (closes_at peer.objects peer.dataset) quiet.0 0 (line.sent ++ text) line.given head text
      (reach_more (reply_to peer.objects peer.dataset) (closes_at peer.objects peer.dataset) quiet.0 0 line.sent line.given text quiet.1) is

  pub goes_on : closes_at peer.objects peer.dataset (length quiet.0) head ≡ false
      → IsQuiet peer (record { sent = line.sent ++ text; given = line.given ++ reply_to peer.objects peer.dataset (length quiet.0) head })
  goes_on on =
      let reply = reply_to peer.objects peer.dataset in
      let closes = closes_at peer.objects peer.dataset in
      (quiet.0 ++ head ∷ [], reach_on reply closes quiet.0 0 (length quiet.0) (line.sent ++ text) text [] line.given head (omega arith) (reach_more reply closes quiet.0 0 line.sent line.given text quiet.1) is on)

  all_replies : (shut : Bool) → closes_at peer.objects peer.dataset (length quiet.0) head ≡ shut → AreReplies peer.objects peer.dataset (line.sent ++ text) (line.given ++ reply_to peer.objects peer.dataset (length quiet.0) head)
  all_replies true shut =
      let reply = reply_to peer.objects peer.dataset in
      let closes = closes_at peer.objects peer.dataset in
      (quiet.0, text, line.given, reply (length quiet.0) head, reach_more reply closes quiet.0 0 line.sent line.given text quiet.1, inr (inr (head, [], is, shut, refl)), refl)
  all_replies false on =
      let next = goes_on on in
      (next.0, [], line.given ++ reply_to peer.objects peer.dataset (length quiet.0) head, [], next.1, inl (refl, refl), sym (append-nil (line.given ++ reply_to peer.objects peer.dataset (length quiet.0) head)))

  -- what is left after the request was sent
  pub reply_left : (left : Option (List ℕ)) → LeavesReplies peer (record { sent = line.sent ++ text; given = line.given }) left → left ≡ Some (reply_to peer.objects peer.dataset (length quiet.0) head)
  reply_left left law =
      let reply = reply_to peer.objects peer.dataset (length quiet.0) head in
      law (quiet.0 ++ head ∷ []) (line.given ++ reply) whole_heads (all_replies (closes_at peer.objects peer.dataset (length quiet.0) head) refl) ∙ ap Some (drop-append_seam line.given reply)

-- what came of it says what is there
module _ (m : Objects) (dataset host : List ℕ) (port : ℕ) (key : List ℕ) (wanted : Wanted) (n : ℕ) (a : Answers m dataset host port key wanted n)
    (gained rest : List ℕ) (front : gained ++ rest ≡ reply_to m dataset n (request_of host port key wanted)) where
  pub told_says : (promise : Promise) (body : List ℕ) → Fits wanted gained promise body → rest ≡ [] → SaysOf wanted (map.get m (dataset ++ 47 ∷ key)) promise body
  told_says promise body f none =
      let whole : gained ≡ reply_to m dataset n (request_of host port key wanted) = sym (append-nil gained) ∙ (λ i. gained ++ sym none i) ∙ front in
      let same = response_unique (reply_to m dataset n (request_of host port key wanted)) f.0 a.head body a.body (subst (λ s. ReadsResponse s f.0 body) whole f.1.reads) a.fits.reads in
      let promises : Some a.promise ≡ Some promise = sym a.fits.judged ∙ ap (judged wanted) (sym same.0) ∙ f.1.judged in
      let is : a.promise ≡ promise = (some_same promises) in
      subst (λ p. SaysOf wanted (map.get m (dataset ++ 47 ∷ key)) p body) is (subst (SaysOf wanted (map.get m (dataset ++ 47 ∷ key)) a.promise) (sym same.1) a.says)
    where
      some_same : {x y : Promise} → Some x ≡ Some y → x ≡ y
      some_same e = cc

  -- and it never doesn't fit
  pub told_fits : NeverFits wanted gained → ⊥
  told_fits never = never rest a.promise a.body (a.head, subst (λ s. FitsAt wanted s a.head a.promise a.body) (sym front) a.fits)
