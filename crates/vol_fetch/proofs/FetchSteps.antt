-- What a fetch answers, by what a cutout of the store answers.
use Rattle.std.proofs.Common.{◌≡◌, ◌≢◌, ◌∙◌, ℕ, List, Option, Some, IfSome, Result, Ok, Err, inl, inr, sym, subst, arith}
use Rattle.std.specs.Prelude.{⊤}
use Rattle.vol_base.specs.Causes.{Rose, counted}
use Rattle.vol_base.specs.Outside.{Objects}
use Rattle.vol_base.specs.declared.boxes.Box3.{Box3}
use Rattle.vol_spec.specs.Types.{Name}
use Rattle.command_base.specs.Ending.{EndsWell, IsCaused}
use Rattle.command_base.specs.Outlets.{Outlets}
use Rattle.command_base.specs.declared.status.Status.{Status}
use Rattle.command_base.specs.declared.status.Status.TheVariants as status
use Rattle.cutout_cmd.specs.Cutouts.{AsksFor, CanCut, CutsOut, TellsCut}
use Rattle.cutout_cmd.specs.Refusals.{cutout_status}
use Rattle.cutout_cmd.specs.declared.refusal.CutoutRefusal.{CutoutRefusal}
use Rattle.cutout_cmd.specs.declared.refusal.CutoutRefusal.TheVariants as refused
use Rattle.remote_store.specs.Sent.{SentOnly}
use Rattle.remote_store.specs.Shown.{count_at}
use Rattle.vol_fetch.specs.Fetches.{Completes, Fetches}
use Rattle.vol_fetch.specs.declared.words.Request.{Request}

-- a refusal of a cutout isn't one of the words
refusal_used : (r : CutoutRefusal) → cutout_status r ≢ status.Usage
refusal_used (refused.NoScale why) e = absurd (cc e)
refusal_used (refused.Outside part whole) e = absurd (cc e)
refusal_used (refused.TooLarge bytes) e = absurd (cc e)
refusal_used (refused.Damaged cell fault) e = absurd (cc e)
refusal_used refused.StoreFault e = absurd (cc e)
refusal_used refused.OutFault e = absurd (cc e)
refusal_used refused.NoMemory e = absurd (cc e)

cut_used : (answer : Result ⊤ CutoutRefusal) (dataset : Name) (s : Status) (o : Outlets) → TellsCut answer dataset s o → s ≢ status.Usage
cut_used (Ok t) dataset s o x e = absurd (cc (x.0, e))
cut_used (Err r) dataset s o (inl x) e = refusal_used r (sym x.0 ∙ e)
cut_used (Err r) dataset s o (inr x) e = absurd (cc (x.0, e))

pub not_usage : (s : Status) (told : Option Objects) (dataset key : Name) (part : Box3) (o : Outlets) → CutsOut s told dataset key part o → s ≢ status.Usage
not_usage s told dataset key part o x = cut_used x.0 dataset s o x.2

pub fetched : (asked : Option Request) (r : Request) (s : Status) (shown : Request → Option Objects) (o : Outlets) (told : Option Objects) → asked ≡ Some r → told ≡ shown r → CutsOut s told r.dataset r.key r.part o → Fetches asked s shown o
fetched asked r s shown o told e is x = subst (λ a. Fetches a s shown o) (sym e) (subst (λ t. CutsOut s t r.dataset r.key r.part o) is x)

still : (told0 told1 : Option Objects) (m : Objects) (d0 d1 f0 f1 : ℕ) → told0 ≡ Some m → told1 ≡ told0 → Rose (count_at told0 d0 f0) (count_at told1 d1 f1) → Rose d0 d1
still told0 told1 m d0 d1 f0 f1 e same x = subst (λ t. Rose (count_at t d0 f0) d1) e (subst (λ t. Rose (count_at told0 d0 f0) (count_at t d1 f1)) (same ∙ e) x)

pub completed : (asked : Option Request) (r : Request) (s : Status) (shown : Request → Option Objects) (told0 told1 : Option Objects) (d d0 d1 f0 f1 out0 out1 : ℕ) → asked ≡ Some r → told0 ≡ shown r → told1 ≡ told0 → d ≡ d0
    → ((m : Objects) → told0 ≡ Some m → CanCut m r.dataset r.key r.part → (Rose (count_at told0 d f0) (count_at told1 d1 f1) → ⊥) → (Rose out0 out1 → ⊥) → EndsWell s) → Completes asked s shown d0 d1 out0 out1
completed asked r s shown told0 told1 d d0 d1 f0 f1 out0 out1 e is same dial f =
    subst (λ a. Completes a s shown d0 d1 out0 out1) (sym e)
    (λ m at can quiet well. f m (is ∙ at) can (λ x. quiet (subst (λ n. Rose n d1) dial (still told0 told1 m d d1 f0 f1 (is ∙ at) same x))) well)

pub caused : (asked : Option Request) (r : Request) (s : Status) (shown : Request → Option Objects) (told0 told1 : Option Objects) (d d0 d1 f0 f1 out0 out1 err0 err1 : ℕ) → asked ≡ Some r → told0 ≡ shown r → told1 ≡ told0 → f0 ≡ 0 → d ≡ d0
    → IsCaused s (count_at told0 d f0) (count_at told1 d1 f1) out0 out1 err0 err1 → IfSome asked (λ r. IsCaused s (count_at (shown r) d0 0) (count_at (shown r) d1 f1) out0 out1 err0 err1)
caused asked r s shown told0 told1 d d0 d1 f0 f1 out0 out1 err0 err1 e is same none dial x =
    subst (λ a. IfSome a (λ r. IsCaused s (count_at (shown r) d0 0) (count_at (shown r) d1 f1) out0 out1 err0 err1)) (sym e)
    (subst (λ t. IsCaused s (count_at t d0 0) (count_at t d1 f1) out0 out1 err0 err1) is
    (subst (λ f. IsCaused s (count_at told0 d0 f) (count_at told0 d1 f1) out0 out1 err0 err1) none (subst (λ n. IsCaused s (count_at told0 n f0) (count_at told0 d1 f1) out0 out1 err0 err1) dial (subst (λ t. IsCaused s (count_at told0 d f0) (count_at t d1 f1) out0 out1 err0 err1) same x))))

-- how much a store was asked for that had been asked for nothing
pub asked_for : (asked : Option Request) (r : Request) (shown : Request → Option Objects) (told : Option Objects) (before now0 now1 : ℕ) → asked ≡ Some r → told ≡ shown r → before ≡ 0 → now0 ≡ now1
    → IfSome told (λ m. AsksFor m r.dataset r.key r.part (counted before) (counted now0)) → IfSome asked (λ r. IfSome (shown r) (λ m. AsksFor m r.dataset r.key r.part 0 (counted now1)))
asked_for asked r shown told before now0 now1 e is none same x =
    let nothing : counted before ≡ 0 = omega (arith, none) in
    subst (λ a. IfSome a (λ r. IfSome (shown r) (λ m. AsksFor m r.dataset r.key r.part 0 (counted now1)))) (sym e)
    (subst (λ t. IfSome t (λ m. AsksFor m r.dataset r.key r.part 0 (counted now1))) is
    (subst (λ n. IfSome told (λ m. AsksFor m r.dataset r.key r.part n (counted now1))) nothing (subst (λ n. IfSome told (λ m. AsksFor m r.dataset r.key r.part (counted before) (counted n))) same x)))

-- what was sent, to the port of the host of the words, since the call began
pub sent_to : (to : List ℕ × ℕ) (host : List ℕ) (port : ℕ) (told told_now : Option Objects) (count faults faults_now own : ℕ) (old sent new : Option (List ℕ)) → host ≡ to.0 → port ≡ to.1 → count_at told faults 0 ≡ count → sent ≡ old → told_now ≡ told
    → SentOnly to count (count_at told_now faults_now own) old new → SentOnly (host, port) (count_at told faults 0) (count_at told faults_now own) sent new
sent_to to host port told told_now count faults faults_now own old sent new h p counts same still x =
    subst (λ q. SentOnly (q, port) (count_at told faults 0) (count_at told faults_now own) sent new) (sym h)
    (subst (λ q. SentOnly (to.0, q) (count_at told faults 0) (count_at told faults_now own) sent new) (sym p)
    (subst (λ c. SentOnly to c (count_at told faults_now own) sent new) (sym counts) (subst (λ s. SentOnly to count (count_at told faults_now own) s new) (sym same) (subst (λ t. SentOnly to count (count_at t faults_now own) old new) still x))))
