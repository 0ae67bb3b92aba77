-- A request sent on a connection on which each one before it was answered, to a peer that is told: the reply says what is there.
use Rattle.std.proofs.Common.{◌≡◌, ◌≢◌, ◌∙◌, ℕ, ◌+◌, ◌<◌, ◌≤◌, ◌^◌, Bool, true, false, List, [], ◌∷◌, ◌++◌, length, length-append, append-nil, Option, Some, None, option_map, IfSome, IfOk, Result, Ok, Err, IsTrue, inl, inr, ap, sym, refl, subst, arith}
use Rattle.std.specs.FinMap as map
use Rattle.std.specs.List.{list_all}
use Rattle.std.proofs.Math.Logic.{∥∥₁_elim, ∥∥₁_map}
use Rattle.std.proofs.Props.{props}
use Rattle.vol_base.specs.declared.outside.Failed.{Failed}
use Rattle.std.proofs.lemmas.List.{nil_from_length}
use Rattle.httparse.specs.Grammar.{ReadsResponse, is_value_byte, print_request}
use Rattle.httparse.proofs.GrammarLemmas.{ReadsResponse-append, response_unique}
use Rattle.vol_base.specs.Names.{is_name}
use Rattle.request_heads.specs.Heads.{BeginsWith}
use Rattle.range_server.specs.Replies.{closes_at, reply_to}
use Rattle.remote_store.specs.Answers.{IsAsked, SaysOf}
use Rattle.remote_store.specs.Asking.{Answering, HasBegun, IsAskFor}
use Rattle.remote_store.specs.Bodies.{Came}
use Rattle.remote_store.specs.Dials.{IsPlain, LeavesReplies, Line, Peer, fresh, given_more, sent_more}
use Rattle.remote_store.specs.Fits.{Fits, NeverFits, ends_behind, following, judged}
use Rattle.remote_store.specs.Quiet.{IsQuiet, IsQuietEnd, IsQuietFor}
use Rattle.remote_store.specs.Requests.{request_of}
use Rattle.remote_store.specs.Talks.{DoesNotFit, Unfit}
use Rattle.remote_store.specs.declared.wanted.Begun.{Begun}
use Rattle.remote_store.specs.declared.wanted.Promise.{Promise}
use Rattle.remote_store.specs.declared.wanted.Wanted.{Wanted}
use Rattle.remote_store.proofs.AskedHeads.{asked_head}
use Rattle.remote_store.proofs.Bodies.{came_none, came_twice}
use Rattle.remote_store.proofs.ToldLines.{goes_on, reply_left, told_fits, told_says}
use Rattle.remote_store.proofs.ToldReplies.{answered}

-- nothing was asked on a new connection
pub fresh_quiet : (p : Peer) → IsQuiet p fresh
fresh_quiet p = ([], (refl, refl))

some_same : {x y : Promise} → Some x ≡ Some y → x ≡ y
some_same e = cc e

module _ (wanted : Wanted) (asked : IsAsked wanted) (p : Peer) (host : List ℕ) (port : ℕ) (key text : List ℕ) (plain : IsPlain p) (small : port < 2 ^ 16) (good : list_all is_value_byte host ≡ true)
    (asks : text ≡ print_request (request_of host port key wanted)) (short : length text ≤ 8192) (name : IsTrue (is_name key)) (fits : length p.dataset + 1 + length key ≤ 512)
    (line : Line) (quiet : IsQuiet p line) where
  wanted_is : BeginsWith text (request_of host port key wanted) []
  wanted_is = record {
    reads = (asked_head host port key wanted asked good small name, asks ∙ sym (append-nil (print_request (request_of host port key wanted))));
    short = omega (arith, short, ap length asks);
  }

  module _ (gained rest : List ℕ) (front : gained ++ rest ≡ reply_to p.objects p.dataset (length quiet.0) (request_of host port key wanted)) where
    all_came : (promise : Promise) (body : List ℕ) → Fits wanted gained promise body → rest ≡ []
    all_came promise body f =
        let n = length quiet.0 in
        let a = answered wanted asked p.objects p.dataset host key port n plain.short name fits in
        let r = reply_to p.objects p.dataset n (request_of host port key wanted) in
        let reads : ReadsResponse r f.0 (body ++ rest) = subst (λ s. ReadsResponse s f.0 (body ++ rest)) front (ReadsResponse-append gained f.0 body rest f.1.reads) in
        let same = response_unique r f.0 a.head (body ++ rest) a.body reads a.fits.reads in
        let is : promise ≡ a.promise = some_same (sym f.1.judged ∙ ap (judged wanted) same.0 ∙ a.fits.judged) in
        let long : length (body ++ rest) ≡ length body = ap length same.1 ∙ a.fits.whole ∙ ap (λ q. following wanted q.len) (sym is) ∙ sym f.1.whole in
        nil_from_length rest (omega (arith, long, length-append body rest))

    -- where the reply doesn't close, the next request can be sent on the connection
    pub quiet_again : (promise : Promise) (body : List ℕ) (f : Fits wanted gained promise body) → ends_behind f.0 ≡ false → IsQuiet p (given_more gained (sent_more text line))
    quiet_again promise body f on =
        let n = length quiet.0 in
        let h = request_of host port key wanted in
        let a = answered wanted asked p.objects p.dataset host key port n plain.short name fits in
        let r = reply_to p.objects p.dataset n h in
        let none : rest ≡ [] = all_came promise body f in
        let all : gained ≡ r = sym (append-nil gained) ∙ ap (λ x. gained ++ x) (sym none) ∙ front in
        let reads : ReadsResponse r f.0 body = subst (λ s. ReadsResponse s f.0 body) all f.1.reads in
        let same = response_unique r f.0 a.head body a.body reads a.fits.reads in
        let open_still : closes_at p.objects p.dataset n h ≡ false = sym a.ends ∙ ap ends_behind (sym same.0) ∙ on in
        subst (λ g. IsQuiet p (given_more g (sent_more text line))) (sym all) (goes_on p line h text quiet wanted_is open_still)

    -- it never doesn't fit
    not_never : NeverFits wanted gained → ⊥
    not_never nothing =
        told_fits p.objects p.dataset host port key wanted (length quiet.0) (answered wanted asked p.objects p.dataset host key port (length quiet.0) plain.short name fits) gained rest front nothing

    says_all : (promise : Promise) (body : List ℕ) → Fits wanted gained promise body → SaysOf wanted (map.get p.objects (p.dataset ++ 47 ∷ key)) promise body
    says_all promise body f =
        let n = length quiet.0 in
        let a = answered wanted asked p.objects p.dataset host key port n plain.short name fits in
        told_says p.objects p.dataset host port key wanted n a gained rest front promise body f (all_came promise body f)

  -- the whole reply fits
  whole_fits : DoesNotFit wanted (reply_to p.objects p.dataset (length quiet.0) (request_of host port key wanted)) → ⊥
  whole_fits unfit =
      let a = answered wanted asked p.objects p.dataset host key port (length quiet.0) plain.short name fits in
      unfit a.promise a.body (a.head, a.fits)

-- what is left of what comes behind some bytes
rest_of : (gained reply : List ℕ) (left sent : Option (List ℕ)) → option_map (λ bytes. gained ++ bytes) left ≡ sent → sent ≡ Some reply → (rest : List ℕ) × (left ≡ Some rest) × (gained ++ rest ≡ reply)
rest_of gained reply None sent x e =
    let bad : ◌≡◌ {A = Option (List ℕ)} None (Some reply) = x ∙ e in
    absurd (cc bad)
rest_of gained reply (Some rest) sent x e =
    let both : Some (gained ++ rest) ≡ Some reply = x ∙ e in
    let is : gained ++ rest ≡ reply = cc in
    (rest, refl, is)

module _ {dataset host : List ℕ} {port : ℕ} {key : List ℕ} {wanted : Wanted} {text : List ℕ} (p : Peer) (plain : IsPlain p) (asks : IsAskFor dataset host port key wanted text) (serves : p.dataset ≡ dataset) where
  fits_name : length p.dataset + 1 + length key ≤ 512
  fits_name = subst (λ d. length d + 1 + length key ≤ 512) (sym serves) asks.named

  module _ {gained : List ℕ} {left : Option (List ℕ)} {line : Option Line} (a : Answering p text gained left line) where
    coming : (rest : List ℕ) × (left ≡ Some rest) × (gained ++ rest ≡ reply_to p.objects p.dataset (length a.quiet.0) (request_of host port key wanted))
    coming =
        let q = asks.request in
        let n = asks.named in
        let small = subst (λ d. length d + 1 + length key ≤ 512) (sym serves) n in
        let is = wanted_is wanted asks.some p host port key text plain asks.number q.plain q.printed q.short q.name small a.before a.quiet in
        rest_of gained (reply_to p.objects p.dataset (length a.quiet.0) (request_of host port key wanted)) left a.sent_left a.came.left
        (reply_left p a.before (request_of host port key wanted) text a.quiet is a.sent_left a.law)

    pub answer_says : (promise : Promise) (body : List ℕ) → Fits wanted gained promise body → SaysOf wanted (map.get p.objects (p.dataset ++ 47 ∷ key)) promise body
    answer_says promise body f =
        let q = asks.request in
        let c = coming in
        says_all wanted asks.some p host port key text plain asks.number q.plain q.printed q.short q.name fits_name a.before a.quiet gained c.0 c.2 promise body f

    pub answer_quiet : (promise : Promise) (body : List ℕ) (f : Fits wanted gained promise body) → ends_behind f.0 ≡ false → IsQuietEnd p line
    answer_quiet promise body f on =
        let q = asks.request in
        let c = coming in
        (given_more gained (sent_more text a.before), a.came.line, quiet_again wanted asks.some p host port key text plain asks.number q.plain q.printed q.short q.name fits_name a.before a.quiet gained c.0 c.2 promise body f on)

    -- all that is left came, and doesn't fit
    pub answer_cut : (more : List ℕ) → IfSome left (λ stream. stream ≡ more) → DoesNotFit wanted (gained ++ more) → ⊥
    answer_cut more all unfit =
        let q = asks.request in
        let c = coming in
        let is : c.0 ≡ more = subst (λ o. IfSome o (λ stream. stream ≡ more)) c.1 all in
        let reply : gained ++ more ≡ reply_to p.objects p.dataset (length a.quiet.0) (request_of host port key wanted) = ap (λ m. gained ++ m) (sym is) ∙ c.2 in
        whole_fits wanted asks.some p host port key text plain asks.number q.plain q.printed q.short q.name fits_name a.before a.quiet (subst (DoesNotFit wanted) reply unfit)

    pub answer_never : NeverFits wanted gained → ⊥
    answer_never nothing =
        let q = asks.request in
        let c = coming in
        not_never wanted asks.some p host port key text plain asks.number q.plain q.printed q.short q.name fits_name a.before a.quiet gained c.0 c.2 nothing

-- more of the reply came
pub answer_more : {p : Peer} {text gained : List ℕ} {left0 left1 : Option (List ℕ)} {line0 line1 : Option Line} (more : List ℕ) → Came more left0 left1 line0 line1 → Answering p text gained left0 line0 → Answering p text (gained ++ more) left1 line1
answer_more {gained = gained} more x a = record {
  before = a.before;
  sent_left = a.sent_left;
  quiet = a.quiet;
  law = a.law;
  came = came_twice gained more _ _ _ _ _ _ a.came x;
}

-- a new end is quiet
pub quiet_new : (dataset : List ℕ) (peer0 peer1 : Option Peer) (line1 : Option Line) → peer1 ≡ peer0 → line1 ≡ option_map (λ _. fresh) peer0 → IsQuietFor dataset peer1 line1
quiet_new dataset peer0 peer1 line1 same e p is serves = ∣ (fresh, e ∙ ap (option_map (λ _. fresh)) (sym same ∙ is), fresh_quiet p) ∣₁

-- a request sent on a quiet end: what was begun of the reply
module _ (wanted : Wanted) (text gained : List ℕ) (peer0 peer1 : Option Peer) (line0 line1 line2 : Option Line) (left1 left2 : Option (List ℕ)) (before now : ℕ)
    (same : peer1 ≡ peer0) (sent : line1 ≡ option_map (sent_more text) line0) (law : IfSome peer1 (λ p. IfSome line1 (λ l. LeavesReplies p l left1))) (plain : IfSome peer1 IsPlain) where
  begun_on : (o : Option Begun) → Came gained left1 left2 line1 line2 → (o ≡ None → Unfit wanted gained before now left1) → {dataset host key : List ℕ} {port : ℕ} → IsAskFor dataset host port key wanted text
      → (p : Peer) → peer0 ≡ Some p → p.dataset ≡ dataset → IsQuietEnd p line0 → (o ≢ None) × Answering p text gained left2 line2
  begun_on o came unfit asks p is serves quiet =
      let at : line1 ≡ Some (sent_more text quiet.0) = sent ∙ ap (option_map (sent_more text)) quiet.1 in
      let plain_p : IsPlain p = subst (λ q. IfSome q IsPlain) (same ∙ is) plain in
      let law_p : LeavesReplies p (sent_more text quiet.0) left1 = subst (λ o. IfSome o (λ l. LeavesReplies p l left1)) at (subst (λ o. IfSome o (λ q. IfSome line1 (λ l. LeavesReplies q l left1))) (same ∙ is) law) in
      let from : Came gained left1 left2 (Some (sent_more text quiet.0)) line2 = subst (λ l. Came gained left1 left2 l line2) at came in
      let a : Answering p text gained left2 line2 = record { before = quiet.0; sent_left = left1; quiet = quiet.2; law = law_p; came = from } in
      let none : Answering p text [] left1 (Some (sent_more text quiet.0)) = record { before = quiet.0; sent_left = left1; quiet = quiet.2; law = law_p; came = came_none left1 (Some (sent_more text quiet.0)) } in
      (λ e. never a none plain_p asks serves (unfit e), a)
    where
      never : {p : Peer} {line3 : Option Line} → Answering p text gained left2 line2 → Answering p text [] left1 line3 → IsPlain p → {dataset host key : List ℕ} {port : ℕ} → IsAskFor dataset host port key wanted text → p.dataset ≡ dataset
          → Unfit wanted gained before now left1 → ⊥
      never {p = p} a none plain_p asks serves (inl nothing) = answer_never p plain_p asks serves a nothing
      never {p = p} a none plain_p asks serves (inr cut) = answer_cut p plain_p asks serves none gained cut.2 cut.0

  pub told_once : (r : Result (Option Begun) Failed) → IfOk r (λ _. Came gained left1 left2 line1 line2) → IfOk r (λ o. o ≡ None → Unfit wanted gained before now left1)
      → IfOk r (λ o. (dataset host key : List ℕ) (port : ℕ) → IsAskFor dataset host port key wanted text → IsQuietFor dataset peer0 line0 → HasBegun dataset peer0 text gained left2 line2 o)
  told_once (Err e) came unfit = tt
  told_once (Ok o) came unfit = λ dataset host key port asks quiet p is serves.
      let both = ∥∥₁_map (quiet p is serves) (begun_on o came unfit asks p is serves) in
      (∥∥₁_elim both (hlevel props) (λ x. x.0), ∥∥₁_map both (λ x. x.1))

-- and so it is on a new end
pub told_new : (wanted : Wanted) (text gained host : List ℕ) (port : ℕ) (kept : Bool) (peer0 peer1 peer2 : Option Peer) (line0 line2 line3 : Option Line) (left3 : Option (List ℕ)) (r : Result (Option Begun) Failed)
    → peer1 ≡ peer0 → peer2 ≡ peer1 → line2 ≡ option_map (λ _. fresh) peer1
    → IfOk r (λ o. (dataset host key : List ℕ) (port : ℕ) → IsAskFor dataset host port key wanted text → IsQuietFor dataset peer2 line2 → HasBegun dataset peer2 text gained left3 line3 o)
    → IfOk r (λ o. (dataset key : List ℕ) → IsAskFor dataset host port key wanted text → (IsTrue kept → IsQuietFor dataset peer0 line0) → HasBegun dataset peer0 text gained left3 line3 o)
told_new wanted text gained host port kept peer0 peer1 peer2 line0 line2 line3 left3 (Err e) same1 same2 start f = tt
told_new wanted text gained host port kept peer0 peer1 peer2 line0 line2 line3 left3 (Ok o) same1 same2 start f = λ dataset key asks quiet p is serves.
    f dataset host key port asks (quiet_new dataset peer1 peer2 line2 same2 start) p (same2 ∙ same1 ∙ is) serves

-- and where the end was kept
pub told_kept : (wanted : Wanted) (text gained host : List ℕ) (port : ℕ) (kept : Bool) (peer : Option Peer) (line0 line3 : Option Line) (left3 : Option (List ℕ)) (answer : Option Begun) (o : Option (Option Begun)) → o ≡ Some answer
    → IfSome o (λ o. (dataset host key : List ℕ) (port : ℕ) → IsAskFor dataset host port key wanted text → (IsTrue kept → IsQuietFor dataset peer line0) → HasBegun dataset peer text gained left3 line3 o)
    → (dataset key : List ℕ) → IsAskFor dataset host port key wanted text → (IsTrue kept → IsQuietFor dataset peer line0) → HasBegun dataset peer text gained left3 line3 answer
told_kept wanted text gained host port kept peer line0 line3 left3 answer o e h dataset key asks quiet =
    let f = subst (λ o. IfSome o (λ o. (dataset host key : List ℕ) (port : ℕ) → IsAskFor dataset host port key wanted text → (IsTrue kept → IsQuietFor dataset peer line0) → HasBegun dataset peer text gained left3 line3 o)) e h in
    f dataset host key port asks quiet
