-- What a dial to one peer dialled.
use Rattle.std.proofs.Common.{◌≡◌, ◌∙◌, ℕ, ◌+◌, ◌-◌, List, [], ◌∷◌, ◌++◌, length, length-append, replicate, append_assoc, append-nil, Option, Some, None, option_map, inl, inr, ap, sym, subst, arith}
use Rattle.std.proofs.lemmas.List.{length-replicate, replicate-append-replicate}
use Rattle.remote_store.specs.Dials.{Dialled, Dials, DialsOnly}

some_list : {x y : Dialled} → Some x ≡ Some y → x ≡ y
some_list e = cc e

only_by : (peer : List ℕ × ℕ) (n : ℕ) (old new : Option Dialled) → new ≡ option_map (λ list. list ++ replicate n peer) old → DialsOnly peer old new
only_by peer n None new e = e
only_by peer n (Some before) None e = absurd (cc e)
only_by peer n (Some before) (Some now) e =
    let is : now ≡ before ++ replicate n peer = some_list e in
    let long : length now - length before ≡ n = omega (arith, ap length is, length-append before (replicate n peer), length-replicate n peer) in
    ap Some (is ∙ ap (λ k. before ++ replicate k peer) (sym long))

pub only_none : (peer : List ℕ × ℕ) (old new : Option Dialled) → new ≡ old → DialsOnly peer old new
only_none peer None new e = e
only_none peer (Some before) new e = only_by peer 0 (Some before) new (e ∙ ap Some (sym (append-nil before)))

pub only_more : (peer : List ℕ × ℕ) (before old new : Option Dialled) → DialsOnly peer before old → Dials peer old new → DialsOnly peer before new
only_more peer before old new x (inr same) = subst (λ o. DialsOnly peer before o) (sym same) x
only_more peer None old new x (inl e) = e ∙ ap (option_map (λ list. list ++ peer ∷ [])) x
only_more peer (Some before) None new x (inl e) = absurd (cc x)
only_more peer (Some before) (Some list) new x (inl e) =
    let n = length list - length before in
    let is : list ≡ before ++ replicate n peer = some_list x in
    let more : list ++ peer ∷ [] ≡ before ++ replicate (n + 1) peer = ap (λ l. l ++ peer ∷ []) is ∙ append_assoc before (replicate n peer) (peer ∷ []) ∙ ap (λ r. before ++ r) (replicate-append-replicate n 1 peer) in
    only_by peer (n + 1) (Some before) new (e ∙ ap Some more)

-- by a name and a port that are the peer's
pub only_to : (peer : List ℕ × ℕ) (before : Option Dialled) (host : List ℕ) (port : ℕ) (old new : Option Dialled) → host ≡ peer.0 → port ≡ peer.1 → DialsOnly peer before old → Dials (host, port) old new → DialsOnly peer before new
only_to peer before host port old new h p x e = only_more peer before old new x (subst (λ q. Dials (peer.0, q) old new) p (subst (λ q. Dials (q, port) old new) h e))
