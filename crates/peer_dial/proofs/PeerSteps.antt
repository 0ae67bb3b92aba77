-- What a server in memory says to what was sent.
use Rattle.std.proofs.Common.{◌≡◌, ◌∙◌, ℕ, List, [], Some, IfOk, Result, Ok, Err, inl, inr, sym, refl, subst, arith}
use Rattle.vol_base.specs.Outside.{Objects}
use Rattle.range_server.specs.Replies.{AreReplies, Gained, Served}
use Rattle.peer_dial.specs.Shelves.{HasReplies}

-- a stream has one list of replies
abbrev pub AreOne : Type 0
AreOne = (m : Objects) (dataset stream out more : List ℕ) → AreReplies m dataset stream out → AreReplies m dataset stream more → out ≡ more

no_replies : (m : Objects) (dataset : List ℕ) → AreReplies m dataset [] []
no_replies m dataset = ([], [], [], [], (refl, refl), inl (refl, refl), refl)

pub none_sent : AreOne → (m : Objects) (dataset sent replies : List ℕ) → sent ≡ [] → replies ≡ [] → HasReplies m dataset sent replies
none_sent one m dataset sent replies none nothing = subst (λ s. HasReplies m dataset s replies) (sym none) (subst (λ r. HasReplies m dataset [] r) (sym nothing)
    (record { same = λ out rep. one m dataset [] out [] rep (no_replies m dataset) }))

-- what was sent by a store that doesn't fail is the replies
pub served_one : AreOne → (m : Objects) (dataset stream sent : List ℕ) → Gained (Served m dataset 0 0 stream) (Some []) (Some sent) → HasReplies m dataset stream sent
served_one one m dataset stream sent x = record { same = λ out rep. one m dataset stream out x.0 rep (whole x.1) ∙ some_same (sym x.2) }
  where
    some_same : {a b : List ℕ} → Some a ≡ Some b → a ≡ b
    some_same e = cc e

    whole : {o : List ℕ} → Served m dataset 0 0 stream o → AreReplies m dataset stream o
    whole (heads, rest, front, last, reaches, inl ends, is) = (heads, rest, front, last, reaches, ends, is)
    whole (heads, rest, front, last, reaches, inr rose, is) = absurd (omega (arith, rose.0))

pub made_replies : AreOne → (m : Objects) (dataset stream left old sent copy : List ℕ) → left ≡ stream → old ≡ [] → Gained (Served m dataset 0 0 left) (Some old) (Some sent) → copy ≡ sent → HasReplies m dataset stream copy
made_replies one m dataset stream left old sent copy whole none gained same =
    let from_none = subst (λ o. Gained (Served m dataset 0 0 left) (Some o) (Some sent)) none gained in
    subst (λ s. HasReplies m dataset s copy) whole (subst (λ r. HasReplies m dataset left r) (sym same) (served_one one m dataset left sent from_none))

-- what is known of an answer that is Ok
pub if_ok : {A E : Type 0} (P Q : A → Type 0) (r : Result A E) → ((x : A) → P x → Q x) → IfOk r P → IfOk r Q
if_ok P Q (Ok x) f p = f x p
if_ok P Q (Err e) f p = tt
