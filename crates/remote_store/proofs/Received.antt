-- Bytes that are received, one piece behind the other.
use Rattle.std.proofs.Common.{◌≡◌, ◌≢◌, ◌∙◌, ℕ, ◌+◌, ◌-◌, ◌≤◌, ◌==◌, false, List, [], ◌++◌, take, drop, take-append-drop, append_assoc, append-nil, IfSome, Option, Some, None, option_map, ap, sym, refl, arith}
use Rattle.std.proofs.lemmas.Bool.{ne_eqb, cond-false}
use Rattle.std.proofs.Math.Seq.{take-add}
use Rattle.std.proofs.lemmas.Grind.{common_steps}
use Rattle.vol_base.specs.Causes.{Rose, counted}
use Rattle.vol_base.specs.Gains.{Gains}
use Rattle.vol_base.proofs.Gained.{gained-more}
use Rattle.request_heads.specs.Heads.{pending}
use Rattle.remote_store.specs.Dials.{Line, ends_after, given_more, sent_more}

pub take_join : (t n : ℕ) (b : List ℕ) → t ≤ n → take t b ++ drop t (take n b) ≡ take n b
take_join t n b le =
    let front : take t (take n b) ≡ take t b = grind (arith, common_steps, le) in
    ap (λ x. x ++ drop t (take n b)) (sym front) ∙ take-append-drop t (take n b)

pub gains_on : (o p q : Option (List ℕ)) (t n : ℕ) (a b : List ℕ) → Gains o p (take t a) → Gains p q (drop t (take n b)) → take t b ≡ take t a → t ≤ n → Gains o q (take n b)
gains_on o p q t n a b x y same le =
    y ∙ ap (option_map (λ w. w ++ drop t (take n b))) x ∙ gained-more o (take t a) (drop t (take n b))
    ∙ ap (λ z. option_map (λ w. w ++ z) o) (ap (λ z. z ++ drop t (take n b)) (sym same) ∙ take_join t n b le)

pub given_twice : (o : Option Line) (a b : List ℕ) → option_map (given_more b) (option_map (given_more a) o) ≡ option_map (given_more (a ++ b)) o
given_twice None a b = refl
given_twice (Some l) a b = λ i. Some (record l { given = append_assoc l.given a b i })

pub given_on : (o p q : Option Line) (t n : ℕ) (a b : List ℕ) → p ≡ option_map (given_more (take t a)) o → q ≡ option_map (given_more (drop t (take n b))) p → take t b ≡ take t a → t ≤ n
    → q ≡ option_map (given_more (take n b)) o
given_on o p q t n a b x y same le =
    y ∙ ap (option_map (given_more (drop t (take n b)))) x ∙ given_twice o (take t a) (drop t (take n b))
    ∙ ap (λ z. option_map (given_more z) o) (ap (λ z. z ++ drop t (take n b)) (sym same) ∙ take_join t n b le)

pub no_end : (n there ends : ℕ) → there ≤ n → n ≢ there → ends_after (n - there) ends ≡ ends
no_end n there ends le other =
    let some : ((n - there) == 0) ≡ false = ne_eqb (n - there) 0 (λ e. other (omega arith)) in
    cond-false _ _ _ some

-- bytes that are sent, one piece behind the other
sent_twice : (o : Option Line) (a b : List ℕ) → option_map (sent_more b) (option_map (sent_more a) o) ≡ option_map (sent_more (a ++ b)) o
sent_twice None a b = refl
sent_twice (Some l) a b = λ i. Some (record l { sent = append_assoc l.sent a b i })

pub sent_next : (o p q : Option Line) (bytes : List ℕ) (done n k : ℕ) → p ≡ option_map (sent_more (take done bytes)) o → n ≤ k → q ≡ option_map (sent_more (take n (take k (drop done bytes)))) p
    → q ≡ option_map (sent_more (take (done + n) bytes)) o
sent_next o p q bytes done n k e m f =
    let piece : take n (take k (drop done bytes)) ≡ take n (drop done bytes) = grind (arith, common_steps, m) in
    f ∙ ap (λ x. option_map (sent_more x) p) piece ∙ ap (option_map (sent_more (take n (drop done bytes)))) e ∙ sent_twice o (take done bytes) (take n (drop done bytes))
    ∙ ap (λ x. option_map (sent_more x) o) (sym (take-add done n bytes))

-- at the end, all that was left was received
pub all_received : (o left : Option (List ℕ)) (there : ℕ) (a b : List ℕ) → pending a there o ≡ pending [] 0 left → IfSome o (λ bytes. bytes ≡ []) → take there b ≡ take there a → IfSome left (λ stream. stream ≡ take there b)
all_received o None there a b e end same = tt
all_received None (Some stream) there a b e end same = absurd (cc e)
all_received (Some bytes) (Some stream) there a b e end same =
    let whole : take there a ++ bytes ≡ stream = cc in
    sym whole ∙ ap (λ x. take there a ++ x) end ∙ append-nil (take there a) ∙ sym same

pub rose_at_end : (n there before mid now : ℕ) → n ≡ there → mid ≡ before → now ≡ ends_after (n - there) mid → Rose before now
rose_at_end n there before mid now end same e =
    let none : n - there ≡ 0 = omega (arith, end) in
    let is : now ≡ counted (before + 1) = e ∙ ap (λ k. ends_after k mid) none ∙ ap (λ k. counted (k + 1)) same in
    omega (arith, is)
