-- What `verify` answers, by what the judgement of a part answers.
use Rattle.std.proofs.Common.{◌≡◌, ◌≢◌, ◌↔◌, ◌⊎◌, ℕ, Option, Some, None, IfSome, Result, Ok, Err, refl, sym, subst, ap, ◌∙◌, inl, inr, ⊎_elim, arith}
use Rattle.std.specs.Prelude.{IsOkAnd}
use Rattle.vol_base.specs.declared.boxes.Box3.{Box3}
use Rattle.vol_base.specs.Outside.{Objects}
use Rattle.vol_spec.specs.Grid.{Inside, whole}
use Rattle.vol_spec.specs.Types.{Name}
use Rattle.vol_spec.specs.declared.scale.Scale.{Scale}
use Rattle.verify_cmd.proofs.PartSteps.{sound_first, sound_undamaged}
use Rattle.verify_cmd.proofs.ViewSteps.{all_sound}
use Rattle.verify_cmd.specs.Verifying.{CanJudge, IsTooMany}
use Rattle.verify_cmd.specs.Parts.{Verifies}
use Rattle.verify_cmd.specs.declared.fault.VerifyFault.{VerifyFault}
use Rattle.verify_cmd.specs.declared.fault.VerifyFault.TheVariants as fault
use Rattle.verify_cmd.specs.declared.report.Report.{Report}
use Rattle.vol_spec.proofs.Told.{in_told}
use Rattle.verify_cmd.specs.Refusals.{verify_line, verify_status, verify_without}
use Rattle.command_base.specs.Ending.{EndsWell}
use Rattle.command_base.specs.Scales.{ReadsScale, stored_scale}
use Rattle.command_base.specs.Outlets.{Outlets, Silent, Tells}
use Rattle.command_base.specs.Statuses.{Reports}
use Rattle.verify_cmd.specs.Verified.{CanVerify, IsAsked, IsFoundSound, IsRight, JudgesScale, JudgesStored, part_in, unverified, Verified}
use Rattle.command_base.specs.declared.refusal.NoScale.{NoScale as NoScaleType}
use Rattle.command_base.specs.declared.refusal.ScaleRefusal.{ScaleRefusal}
use Rattle.command_base.specs.declared.refusal.ScaleRefusal.TheVariants as unread
use Rattle.verify_cmd.specs.declared.refusal.VerifyRefusal.{VerifyRefusal}
use Rattle.verify_cmd.specs.declared.refusal.VerifyRefusal.TheVariants as refused
use Rattle.command_base.specs.declared.status.Status.{Status}
use Rattle.command_base.specs.declared.status.Status.TheVariants.{NoMemory as MemoryStatus}
use Rattle.vol_shell.specs.Lines.{memory_line}

whole_inside : (s : Scale) → Inside s (whole s)
whole_inside s = record { some = λ axis l. (s.size_ok axis l).0; within = λ p covered. covered }

-- what a judgement says of its part, whatever the objects are
pub record Bounds (r : Result Report VerifyFault) (s : Scale) (b : Box3) : Type 0 where
  pub outside : r ≡ Err fault.OutsideScale → ¬ Inside s b
  pub many : (n : ℕ) → r ≡ Err (fault.TooManyCells n) → IsTooMany s b n
  pub judged : r ≢ Err fault.OutsideScale → ((n : ℕ) → r ≢ Err (fault.TooManyCells n)) → CanJudge s b

pub bounded : (r : Result Report VerifyFault) (s : Scale) (b : Box3) → r ≡ Err fault.OutsideScale ↔ (Inside s b → ⊥) → ((n : ℕ) → r ≡ Err (fault.TooManyCells n) ↔ IsTooMany s b n)
    → (r ≢ Err fault.OutsideScale → ((n : ℕ) → r ≢ Err (fault.TooManyCells n)) → CanJudge s b) → Bounds r s b
bounded r s b outside many judged = record { outside = outside.0; many = λ n. (many n).0; judged = judged }

module _ (r : Result Report VerifyFault) (s : Scale) (b : Box3) (bounds : Bounds r s b) where
  refused_part : (found : VerifyFault) (m : Objects) (dataset : Name) → r ≡ Err found → Verifies (Err found) m dataset s b → JudgesScale (Err (unverified b (whole s) found)) m dataset s b
  refused_part fault.OutsideScale m dataset is verified = (refl, refl, bounds.outside is)
  refused_part (fault.TooManyCells n) m dataset is verified = bounds.many n is
  refused_part (fault.Damaged cell found) m dataset is verified = (bounds.judged (λ e. cc (is, e)) (λ n e. cc (is, e)), verified)
  refused_part (fault.Misplaced shard minishard id) m dataset is verified = (bounds.judged (λ e. cc (is, e)) (λ n e. cc (is, e)), verified.0, verified.1)
  refused_part (fault.ViewDamaged view cell found) m dataset is verified = (bounds.judged (λ e. cc (is, e)) (λ n e. cc (is, e)), verified.0, verified.1)
  refused_part (fault.Conflict view place channel found wanted) m dataset is verified = (bounds.judged (λ e. cc (is, e)) (λ n e. cc (is, e)), verified.0, verified.1)
  refused_part fault.StoreFault m dataset is verified = tt
  refused_part fault.OutOfMemory m dataset is verified = tt

  found_part : (report : Report) (m : Objects) (dataset : Name) → r ≡ Ok report → Verifies (Ok report) m dataset s b → JudgesScale (Ok report) m dataset s b
  found_part report m dataset is verified = (bounds.judged (λ e. cc (is, e)) (λ n e. cc (is, e)), verified, sound_undamaged m dataset s b verified.sound.first_sound)

  -- a fault, as a refusal
  pub refused_judges : (found : VerifyFault) (refusal : VerifyRefusal) (o : Option Objects) (dataset : Name) (part : Option Box3) → r ≡ Err found → refusal ≡ unverified b (whole s) found → b ≡ part_in s part
      → IfSome o (λ m. Verifies (Err found) m dataset s b) → IfSome o (λ m. JudgesScale (Err refusal) m dataset s (part_in s part))
  refused_judges found refusal None dataset part is refuses chosen verified = tt
  refused_judges found refusal (Some m) dataset part is refuses chosen verified =
      subst (λ x. JudgesScale (Err refusal) m dataset s x) chosen (subst (λ x. JudgesScale (Err x) m dataset s b) (sym refuses) (refused_part found m dataset is verified))

  pub found_judges : (report : Report) (o : Option Objects) (dataset : Name) (part : Option Box3) → r ≡ Ok report → b ≡ part_in s part
      → IfSome o (λ m. Verifies (Ok report) m dataset s b) → IfSome o (λ m. JudgesScale (Ok report) m dataset s (part_in s part))
  found_judges report None dataset part is chosen verified = tt
  found_judges report (Some m) dataset part is chosen verified = subst (λ x. JudgesScale (Ok report) m dataset s x) chosen (found_part report m dataset is verified)

  asked_part : (found : VerifyFault) (part : Option Box3) → r ≡ Err found → b ≡ part_in s part → IsAsked (Err (unverified b (whole s) found)) part
  asked_part fault.OutsideScale (Some asked) is chosen = chosen
  asked_part fault.OutsideScale None is chosen = absurd (bounds.outside is (subst (Inside s) (sym chosen) (whole_inside s)))
  asked_part (fault.TooManyCells n) part is chosen = tt
  asked_part (fault.Damaged cell found) part is chosen = tt
  asked_part (fault.Misplaced shard minishard id) part is chosen = tt
  asked_part (fault.ViewDamaged view cell found) part is chosen = tt
  asked_part (fault.Conflict view place channel found wanted) part is chosen = tt
  asked_part fault.StoreFault part is chosen = tt
  asked_part fault.OutOfMemory part is chosen = tt

  pub refused_asked : (found : VerifyFault) (refusal : VerifyRefusal) (part : Option Box3) → r ≡ Err found → refusal ≡ unverified b (whole s) found → b ≡ part_in s part → IsAsked (Err refusal) part
  refused_asked found refusal part is refuses chosen = subst (λ x. IsAsked (Err x) part) (sym refuses) (asked_part found part is chosen)

-- what is answered of the scale that the key has
of_scale : (r : Result Report VerifyRefusal) (m : Objects) (dataset : Name) (s : Scale) (part : Option Box3) → JudgesScale r m dataset s (part_in s part) → JudgesStored r (Ok s) m dataset part
of_scale (Ok report) m dataset s part h = h
of_scale (Err (refused.NoScale why)) m dataset s part h = absurd h
of_scale (Err (refused.Outside told all)) m dataset s part h = h
of_scale (Err (refused.TooManyCells cells)) m dataset s part h = h
of_scale (Err (refused.Damaged cell found)) m dataset s part h = h
of_scale (Err (refused.Misplaced shard minishard id)) m dataset s part h = h
of_scale (Err (refused.ViewDamaged view cell found)) m dataset s part h = h
of_scale (Err (refused.Conflict view place channel found wanted)) m dataset s part h = h
of_scale (Err refused.StoreFault) m dataset s part h = tt
of_scale (Err refused.NoMemory) m dataset s part h = tt

pub key_judges : (r : Result Report VerifyRefusal) (o same : Option Objects) (dataset key : Name) (s : Scale) (part : Option Box3) → same ≡ o → IfSome o (λ m. ReadsScale (Ok s) (stored_scale m dataset key))
    → IfSome same (λ m. JudgesScale r m dataset s (part_in s part)) → IfSome o (λ m. JudgesStored r (stored_scale m dataset key) m dataset part)
key_judges r None same dataset key s part kept reads judges = tt
key_judges r (Some m) same dataset key s part kept reads judges =
    subst (λ told. JudgesStored r told m dataset part) (sym reads) (of_scale r m dataset s part (subst (λ o. IfSome o (λ m. JudgesScale r m dataset s (part_in s part))) kept judges))

-- or where it has none
unread_scale : (refusal : ScaleRefusal) (told : Result Scale NoScaleType) (m : Objects) (dataset : Name) (part : Option Box3) → ReadsScale (Err refusal) told → JudgesStored (Err (verify_without refusal)) told m dataset part
unread_scale (unread.NoScale why) told m dataset part reads = reads
unread_scale unread.StoreFault told m dataset part reads = tt
unread_scale unread.NoMemory told m dataset part reads = tt

pub unread_judges : (refusal : ScaleRefusal) (found : VerifyRefusal) (o : Option Objects) (dataset key : Name) (part : Option Box3) → found ≡ verify_without refusal → IfSome o (λ m. ReadsScale (Err refusal) (stored_scale m dataset key))
    → IfSome o (λ m. JudgesStored (Err found) (stored_scale m dataset key) m dataset part)
unread_judges refusal found None dataset key part is reads = tt
unread_judges refusal found (Some m) dataset key part is reads =
    subst (λ r. JudgesStored (Err r) (stored_scale m dataset key) m dataset part) (sym is) (unread_scale refusal (stored_scale m dataset key) m dataset part reads)

unread_any : (refusal : ScaleRefusal) (part : Option Box3) → IsAsked (Err (verify_without refusal)) part
unread_any (unread.NoScale why) part = tt
unread_any unread.StoreFault part = tt
unread_any unread.NoMemory part = tt

pub unread_asked : (refusal : ScaleRefusal) (found : VerifyRefusal) (part : Option Box3) → found ≡ verify_without refusal → IsAsked (Err found) part
unread_asked refusal found part is = subst (λ r. IsAsked (Err r) part) (sym is) (unread_any refusal part)

-- want of memory is always right
pub memory_right : (told : Option Objects) (dataset key : Name) (part : Option Box3) → IsRight (Err refused.NoMemory) told dataset key part
memory_right told dataset key part = record { judges = in_told told (λ m. JudgesStored (Err refused.NoMemory) (stored_scale m dataset key) m dataset part) (λ m is. tt); asked = tt }

pub memory_ends : (told : Option Objects) (dataset key : Name) (part : Option Box3) (o : Outlets) → Silent o → Tells o memory_line → Verified MemoryStatus told dataset key part o
memory_ends told dataset key part o silent tells = (Err refused.NoMemory, memory_right told dataset key part, (silent, inl (refl, tells)))

-- a refusal of a part that is sound
clash : {T E : Type 0} (r : Result T E) (P Q : T → Type 0) → IsOkAnd r P → IsOkAnd r Q → ((x : T) → P x → Q x → ⊥) → ⊥
clash (Ok x) P Q p q f = f x p q
clash (Err e) P Q p q f = absurd p

refused_sound : (refusal : VerifyRefusal) (m : Objects) (dataset key : Name) (part : Option Box3) → JudgesStored (Err refusal) (stored_scale m dataset key) m dataset part → CanVerify m dataset key part
    → (refusal ≡ refused.StoreFault) ⊎ (refusal ≡ refused.NoMemory)
refused_sound (refused.NoScale why) m dataset key part judges can =
    let none : CanVerify m dataset key part ≡ ⊥ = ap (λ told. IsOkAnd told (λ s. IsFoundSound m dataset s (part_in s part))) judges in absurd (subst (λ t. t) none can)
refused_sound (refused.Outside asked all) m dataset key part judges can =
    absurd (clash (stored_scale m dataset key) (λ s. JudgesScale (Err (refused.Outside asked all)) m dataset s (part_in s part)) (λ s. IsFoundSound m dataset s (part_in s part)) judges can (λ s h k. h.2 k.0.0))
refused_sound (refused.TooManyCells cells) m dataset key part judges can =
    absurd (clash (stored_scale m dataset key) (λ s. JudgesScale (Err (refused.TooManyCells cells)) m dataset s (part_in s part)) (λ s. IsFoundSound m dataset s (part_in s part)) judges can
    (λ s h k. omega (arith, h.many, k.0.1)))
refused_sound (refused.Damaged cell found) m dataset key part judges can =
    absurd (clash (stored_scale m dataset key) (λ s. JudgesScale (Err (refused.Damaged cell found)) m dataset s (part_in s part)) (λ s. IsFoundSound m dataset s (part_in s part)) judges can
    (λ s h k. let none = (sound_first m dataset s (part_in s part)).0 k.1.first_sound in cc (none, h.1)))
refused_sound (refused.Misplaced shard minishard id) m dataset key part judges can =
    absurd (clash (stored_scale m dataset key) (λ s. JudgesScale (Err (refused.Misplaced shard minishard id)) m dataset s (part_in s part)) (λ s. IsFoundSound m dataset s (part_in s part)) judges can
    (λ s h k. let none = (sound_first m dataset s (part_in s part)).0 k.1.first_sound in cc (none, h.2)))
refused_sound (refused.ViewDamaged view cell found) m dataset key part judges can =
    absurd (clash (stored_scale m dataset key) (λ s. JudgesScale (Err (refused.ViewDamaged view cell found)) m dataset s (part_in s part)) (λ s. IsFoundSound m dataset s (part_in s part)) judges can
    (λ s h k. let none = ((all_sound m dataset s (part_in s part) k.0.0).0 k.1).1 in cc (none, h.2)))
refused_sound (refused.Conflict view place channel found wanted) m dataset key part judges can =
    absurd (clash (stored_scale m dataset key) (λ s. JudgesScale (Err (refused.Conflict view place channel found wanted)) m dataset s (part_in s part)) (λ s. IsFoundSound m dataset s (part_in s part)) judges can
    (λ s h k. let none = ((all_sound m dataset s (part_in s part) k.0.0).0 k.1).1 in cc (none, h.2)))
refused_sound refused.StoreFault m dataset key part judges can = inl refl
refused_sound refused.NoMemory m dataset key part judges can = inr refl

pub verify_complete : (refusal : VerifyRefusal) (status : Status) (m : Objects) (dataset key : Name) (part : Option Box3) (o : Outlets) → JudgesStored (Err refusal) (stored_scale m dataset key) m dataset part → CanVerify m dataset key part
    → (refusal ≡ refused.StoreFault → ⊥) → Reports (verify_status refusal) (verify_line dataset refusal) status (Tells o) → EndsWell status
verify_complete refusal status m dataset key part o judges can failed (inr told) = inr told.0
verify_complete refusal status m dataset key part o judges can failed (inl told) =
    ⊎_elim (λ is. absurd (failed is)) (λ is. inr (told.0 ∙ ap verify_status is)) (refused_sound refusal m dataset key part judges can)
