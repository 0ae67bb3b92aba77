-- What a call sent.
use Rattle.std.proofs.Common.{◌≡◌, ◌∙◌, ℕ, Bool, IsTrue, List, ◌++◌, Option, Some, None, IfOk, IfSome, option_map, Result, Ok, Err, inl, inr, ap, sym, refl, subst}
use Rattle.remote_store.specs.Bodies.{Came}
use Rattle.remote_store.specs.Dials.{Line, Peer, fresh, given_more, sent_more}
use Rattle.remote_store.specs.Requests.{peer_value}
use Rattle.remote_store.specs.Sent.{Requests, Sends, sent_on}
use Rattle.remote_store.specs.Texts.{request_text}
use Rattle.remote_store.specs.declared.wanted.Wanted.{Wanted}
use Rattle.remote_store.proofs.RequestTexts.{printed}

given_sent : (gained : List ℕ) (line : Option Line) → sent_on (option_map (given_more gained) line) ≡ sent_on line
given_sent gained None = refl
given_sent gained (Some l) = refl

more_sent : (text : List ℕ) (line : Option Line) → sent_on (option_map (sent_more text) line) ≡ option_map (λ sent. sent ++ text) (sent_on line)
more_sent text None = refl
more_sent text (Some l) = refl

first_sent : (text : List ℕ) (peer : Option Peer) → option_map (λ sent. sent ++ text) (sent_on (option_map (λ _. fresh) peer)) ≡ option_map (λ _. text) peer
first_sent text None = refl
first_sent text (Some p) = refl

-- a request was sent, and then bytes came
pub sent_once : {T E : Type 0} (r : Result T E) (text gained : List ℕ) (left0 left1 : Option (List ℕ)) (line0 line1 line2 : Option Line) → line1 ≡ option_map (sent_more text) line0
    → IfOk r (λ _. Came gained left0 left1 line1 line2) → IfOk r (λ _. sent_on line2 ≡ option_map (λ sent. sent ++ text) (sent_on line0))
sent_once (Ok t) text gained left0 left1 line0 line1 line2 e came = ap sent_on came.line ∙ given_sent gained line1 ∙ ap sent_on e ∙ more_sent text line0
sent_once (Err x) text gained left0 left1 line0 line1 line2 e came = tt

-- on the connection that was kept, or on a new one
pub sent_kept : {T E : Type 0} (r : Result T E) (kept : Bool) (text : List ℕ) (peer : Option Peer) (line0 line1 : Option Line) → IsTrue kept
    → IfOk r (λ _. sent_on line1 ≡ option_map (λ sent. sent ++ text) (sent_on line0)) → IfOk r (λ _. Sends kept text peer line0 line1)
sent_kept (Ok t) kept text peer line0 line1 on e = inl (on, e)
sent_kept (Err x) kept text peer line0 line1 on e = tt

pub sent_new : {T E : Type 0} (r : Result T E) (kept : Bool) (text : List ℕ) (peer0 peer1 : Option Peer) (line0 line1 line2 : Option Line) → peer1 ≡ peer0 → line1 ≡ option_map (λ _. fresh) peer1
    → IfOk r (λ _. sent_on line2 ≡ option_map (λ sent. sent ++ text) (sent_on line1)) → IfOk r (λ _. Sends kept text peer0 line0 line2)
sent_new (Ok t) kept text peer0 peer1 line0 line1 line2 same e f = inr (f ∙ ap (λ l. option_map (λ sent. sent ++ text) (sent_on l)) e ∙ first_sent text peer1 ∙ ap (option_map (λ _. text)) same)
sent_new (Err x) kept text peer0 peer1 line0 line1 line2 same e f = tt

-- what comes behind changes nothing of it
sends_still : (kept : Bool) (text : List ℕ) (peer : Option Peer) (line0 line1 line2 : Option Line) → sent_on line2 ≡ sent_on line1 → Sends kept text peer line0 line1 → Sends kept text peer line0 line2
sends_still kept text peer line0 line1 line2 e (inl x) = inl (x.0, e ∙ x.1)
sends_still kept text peer line0 line1 line2 e (inr x) = inr (e ∙ x)

pub sent_still : {T E : Type 0} (w : Result T E) (t : T) → w ≡ Ok t → (kept : Bool) (text gained : List ℕ) (peer : Option Peer) (left0 left1 : Option (List ℕ)) (line0 line1 line2 : Option Line) → IfOk w (λ _. Came gained left0 left1 line1 line2)
    → Sends kept text peer line0 line1 → Sends kept text peer line0 line2
sent_still (Ok s) t e kept text gained peer left0 left1 line0 line1 line2 came x = sends_still kept text peer line0 line1 line2 (ap sent_on came.line ∙ given_sent gained line1) x
sent_still (Err x) t e kept text gained peer left0 left1 line0 line1 line2 came y = absurd (cc e)

-- the text is the request's
pub sent_request : {T E : Type 0} (r : Result T E) (host at text key : List ℕ) (port : ℕ) (wanted : Wanted) (kept : Bool) (peer : Option Peer) (line0 line1 : Option Line) → at ≡ peer_value host port → text ≡ request_text at key wanted
    → IfOk r (λ _. Sends kept text peer line0 line1) → IfOk r (λ _. Requests (host, port) key wanted kept peer line0 line1)
sent_request (Ok t) host at text key port wanted kept peer line0 line1 e is x =
    subst (λ bytes. Sends kept bytes peer line0 line1) (is ∙ ap (λ p. request_text p key wanted) e ∙ printed host port key wanted) x
sent_request (Err y) host at text key port wanted kept peer line0 line1 e is x = tt

-- of a key that a name has
pub at_key : {T : Type 0} (P : T → Type 0) (o : Option T) (key : T) → o ≡ Some key → P key → IfSome o P
at_key P o key e x = subst (λ o. IfSome o P) (sym e) x

pub some_kept : {T Q : Type 0} (o : Option T) (t : T) → o ≡ Some t → IfSome o (λ _. Q) → Q
some_kept None t e x = absurd (cc e)
some_kept (Some s) t e x = x

pub no_key : {T : Type 0} (P : T → Type 0) (o : Option T) → o ≡ None → IfSome o P
no_key P None e = tt
no_key P (Some key) e = absurd (cc e)

-- of what is asked for
pub request_of_wanted : (to : List ℕ × ℕ) (key : List ℕ) (wanted other : Wanted) (kept : Bool) (peer : Option Peer) (line0 line1 : Option Line) → other ≡ wanted → Requests to key wanted kept peer line0 line1 → Requests to key other kept peer line0 line1
request_of_wanted to key wanted other kept peer line0 line1 e x = subst (λ w. Requests to key w kept peer line0 line1) (sym e) x
