-- What writing a list that a number makes answers.
use Rattle.std.proofs.Common.{◌≡◌, ◌⊎◌, ◌∙◌, ℕ, ◌*◌, ◌<◌, ◌≤◌, [], length, Option, Some, None, IfSome, Result, Ok, Err, refl, sym, subst, ap, inl, inr, ⊎_elim, arith}
use Rattle.std.proofs.lemmas.Bool.{cases_lt}
use Rattle.std.proofs.lemmas.Grind.{not_there}
use Rattle.std.specs.Prelude.{All}
use Rattle.vol_base.specs.Boxes.{voxels}
use Rattle.vol_base.specs.Bytes.{AreBytes}
use Rattle.vol_base.specs.Causes.{Rose}
use Rattle.vol_base.specs.declared.boxes.Box3.{Box3}
use Rattle.vol_base.specs.Outside.{Objects}
use Rattle.vol_spec.specs.Cut.{cut, first_fault}
use Rattle.vol_spec.specs.Grid.{Inside, whole}
use Rattle.vol_spec.specs.LastWrite.{last, zeros}
use Rattle.vol_spec.specs.Limits.{IsWidth}
use Rattle.vol_spec.specs.Types.{Bytes, Name, Writes}
use Rattle.vol_spec.specs.declared.scale.Scale.{Scale}
use Rattle.vol_spec.proofs.RawSteps.{last-lt, length-raw_bytes, zeros_are}
use Rattle.vol_spec.proofs.Told.{from_told, in_told}
use Rattle.chunk_laws.specs.Told.{ReadsBack}
use Rattle.shard_writer.specs.declared.written.Written.{Written}
use Rattle.write_plan.specs.declared.fault.PlanFault.{PlanFault}
use Rattle.command_base.proofs.Choices.{ok_and}
use Rattle.value_sums.proofs.SumSteps.{sum_made}
use Rattle.vectors_vol.proofs.SizeSteps.{small_width}
use Rattle.write_cmd.proofs.WriteSteps.{written_front}
use Rattle.cutout_cmd.specs.Cutouts.{CutsScale, IsBroken, JudgesPart}
use Rattle.generate_cmd.specs.Generating.{Generates, HasGenerated, IsSmall, IsUnsummed, JudgesWhole, MayPut, Summarizes, Sums, SumsScale}
use Rattle.write_cmd.specs.Refusals.{write_without}
use Rattle.command_base.specs.Scales.{ReadsScale, stored_scale}
use Rattle.write_cmd.specs.Storing.{AllReadBack, AreReady, Counts, FrontPut, HasStored, JudgesWrite, Listing, WritesScale}
use Rattle.value_sums.specs.Sums.{sum_in, sum_of}
use Rattle.generate_cmd.specs.declared.generate.Summary.{Summary}
use Rattle.cutout_cmd.specs.declared.refusal.CutoutRefusal.{CutoutRefusal}
use Rattle.cutout_cmd.specs.declared.refusal.CutoutRefusal.TheVariants as uncut
use Rattle.generate_cmd.specs.declared.refusal.GenerateRefusal.{GenerateRefusal}
use Rattle.generate_cmd.specs.declared.refusal.GenerateRefusal.TheVariants.{Write, Cutout}
use Rattle.command_base.specs.declared.refusal.NoScale.{NoScale as NoScaleType}
use Rattle.command_base.specs.declared.refusal.ScaleRefusal.{ScaleRefusal}
use Rattle.command_base.specs.declared.refusal.ScaleRefusal.TheVariants as unread
use Rattle.write_cmd.specs.declared.refusal.WriteRefusal.{WriteRefusal}
use Rattle.write_cmd.specs.declared.refusal.WriteRefusal.TheVariants.{NoScale, TooManyVoxels, NotEmpty, Stream, TooManyCells, StoreFault, FeedFault, NoMemory}

-- all of a scale is inside it
pub whole_inside : (s : Scale) → Inside s (whole s)
whole_inside s = record { some = λ axis l. (s.size_ok axis l).0; within = λ p covered. covered }

-- a width that is none of the others is the greatest
no_less : (w : ℕ) → w < 8 → (w ≡ 1 → ⊥) → (w ≡ 2 → ⊥) → (w ≡ 4 → ⊥) → IsWidth w → ⊥
no_less w less one two four (inl e) = one e
no_less w less one two four (inr (inl e)) = two e
no_less w less one two four (inr (inr (inl e))) = four e
no_less w less one two four (inr (inr (inr e))) = absurd (omega (arith, less, e))

pub widest : (w : ℕ) → ∥ IsWidth w ∥₁ → (w ≡ 1 → ⊥) → (w ≡ 2 → ⊥) → (w ≡ 4 → ⊥) → w ≡ 8
widest w is one two four =
    let most : w ≤ 8 = small_width w is in
    ⊎_elim (λ less. absurd (not_there is (no_less w less one two four))) (λ not. omega (arith, most, not)) (cases_lt w 8)

-- why all of a scale can't be cut out
pub whole_refused : (refusal : CutoutRefusal) (s : Scale) → JudgesPart (Err refusal) s (whole s) → JudgesWhole (Err (Cutout refusal)) s
whole_refused (uncut.TooLarge bytes) s judged = judged
whole_refused (uncut.Outside told all) s judged = absurd (judged.2 (whole_inside s))
whole_refused (uncut.NoScale why) s judged = absurd judged
whole_refused (uncut.Damaged cell fault) s judged = absurd judged
whole_refused uncut.StoreFault s judged = absurd judged
whole_refused uncut.OutFault s judged = absurd judged
whole_refused uncut.NoMemory s judged = absurd judged

-- a count of faults that stays 0 didn't rise
pub never_rose : Rose 0 0 → ⊥
never_rose rose = omega arith

some_is : (x y : Bytes) → Some x ≡ Some y → x ≡ y
some_is x y e = cc e

-- what was streamed of a whole scale, summed
sums_streamed : (sum : ℕ) (m : Objects) (dataset : Name) (s : Scale) (bytes : Bytes) → CutsScale (Ok tt) m dataset s (whole s) (Some []) (Some bytes) → Sums s.width bytes sum → SumsScale (Ok sum) m dataset s
sums_streamed sum m dataset s bytes cuts sums = (cuts.0.1, subst (λ xs. Sums s.width xs sum) (some_is bytes _ cuts.1) sums)

pub sums_told : (sum : ℕ) (o : Option Objects) (dataset : Name) (s t : Scale) (b : Box3) (bytes : Bytes) (old : Option Bytes) → t ≡ s → b ≡ whole s → old ≡ Some []
    → IfSome o (λ m. CutsScale (Ok tt) m dataset t b old (Some bytes)) → Sums s.width bytes sum → IfSome o (λ m. SumsScale (Ok sum) m dataset s)
sums_told sum o dataset s t b bytes old same whole_is new cuts sums =
    in_told o _ (λ m told.
    sums_streamed sum m dataset s bytes (subst (λ x. CutsScale (Ok tt) m dataset s (whole s) x (Some bytes)) new (subst (λ x. CutsScale (Ok tt) m dataset s x old (Some bytes)) whole_is (subst (λ x. CutsScale (Ok tt) m dataset x b old (Some bytes)) same (from_told o _ m told cuts)))) sums)

broken_sums : (refusal : CutoutRefusal) (m : Objects) (dataset : Name) (s : Scale) (old new : Option Bytes) → CutsScale (Err refusal) m dataset s (whole s) old new → SumsScale (Err refusal) m dataset s
broken_sums (uncut.Damaged cell fault) m dataset s old new cuts = cuts.1
broken_sums (uncut.NoScale why) m dataset s old new cuts = tt
broken_sums (uncut.Outside told all) m dataset s old new cuts = tt
broken_sums (uncut.TooLarge bytes) m dataset s old new cuts = tt
broken_sums uncut.StoreFault m dataset s old new cuts = tt
broken_sums uncut.OutFault m dataset s old new cuts = tt
broken_sums uncut.NoMemory m dataset s old new cuts = tt

pub broken_told : (refusal : CutoutRefusal) (o : Option Objects) (dataset : Name) (s t : Scale) (b : Box3) (old new : Option Bytes) → t ≡ s → b ≡ whole s
    → IfSome o (λ m. CutsScale (Err refusal) m dataset t b old new) → IfSome o (λ m. SumsScale (Err refusal) m dataset s)
broken_told refusal o dataset s t b old new same whole_is cuts =
    in_told o _ (λ m told.
    broken_sums refusal m dataset s old new (subst (λ x. CutsScale (Err refusal) m dataset s x old new) whole_is (subst (λ x. CutsScale (Err refusal) m dataset x b old new) same (from_told o _ m told cuts))))

-- an outlet that never fails breaks nothing off
pub broken_unsummed : (refusal : CutoutRefusal) → IsBroken refusal → (refusal ≡ uncut.OutFault → ⊥) → IsUnsummed refusal
broken_unsummed uncut.StoreFault comes never = tt
broken_unsummed (uncut.Damaged cell fault) comes never = tt
broken_unsummed uncut.NoMemory comes never = tt
broken_unsummed (uncut.NoScale why) comes never = absurd comes
broken_unsummed (uncut.Outside told all) comes never = absurd comes
broken_unsummed (uncut.TooLarge bytes) comes never = absurd comes
broken_unsummed uncut.OutFault comes never = absurd (never refl)

-- the sum of what reads back is the sum of the last writes
sum_is : (sum : ℕ) (now : Objects) (dataset : Name) (s : Scale) (writes : Writes) → All (λ write. AreBytes write.1) writes → ReadsBack now dataset s writes (whole s) → SumsScale (Ok sum) now dataset s → sum ≡ sum_of s writes
sum_is sum now dataset s writes small back sums =
    let len : length (cut now dataset s (whole s)) ≡ voxels (whole s) * s.channels * s.width = ap length back.values ∙ length-raw_bytes (whole s) s.channels s.width (last s.width zeros writes) in
    sums.1 (voxels (whole s) * s.channels) len ∙ ap (sum_in s.width (voxels (whole s) * s.channels)) back.values
    ∙ sum_made (whole s) s.channels s.width (last s.width zeros writes) (λ p c. last-lt s.width zeros (zeros_are s.width) writes p c small)

summed : (written : Written) (sum : ℕ) (m : Objects) (now : Option Objects) (list : Result Writes PlanFault) (dataset key : Name) (s : Scale) → IsSmall s → WritesScale (Ok written) m now list dataset key s
    → IfSome now (λ n. SumsScale (Ok sum) n dataset s) → HasGenerated (record { written = written; sum = sum }) m now list dataset key s
summed written sum m None list dataset key s small writes sums = (
  small,
  ok_and list (λ ws. HasStored m None dataset key s ws × AllReadBack None dataset s ws × Counts written dataset s ws) _ (λ ws h. absurd h.1) writes,
)
summed written sum m (Some now) list dataset key s small writes sums = (
  small,
  ok_and list (λ ws. HasStored m (Some now) dataset key s ws × AllReadBack (Some now) dataset s ws × Counts written dataset s ws)
      (λ ws. HasStored m (Some now) dataset key s ws × AllReadBack (Some now) dataset s ws × Summarizes (record { written = written; sum = sum }) dataset s ws)
      (λ ws h. (h.0, h.1, record { counts = h.2; sum_is = sum_is sum now dataset s ws h.0.bytes (h.1.1 (whole s) (whole_inside s)).0 sums })) writes,
)

-- a cell that is damaged isn't what reads back
sound : (m now : Objects) (list : Result Writes PlanFault) (dataset key : Name) (s : Scale) (written : Written) → WritesScale (Ok written) m (Some now) list dataset key s → first_fault now dataset s (whole s) ≡ None
sound m now (Ok ws) dataset key s written h = (h.1.1 (whole s) (whole_inside s)).0.faultless
sound m now (Err fault) dataset key s written h = absurd h

untold : (m : Objects) (list : Result Writes PlanFault) (dataset key : Name) (s : Scale) (written : Written) → WritesScale (Ok written) m None list dataset key s → ⊥
untold m (Ok ws) dataset key s written h = h.1
untold m (Err fault) dataset key s written h = h

unsummed : (refusal : CutoutRefusal) (m : Objects) (now : Option Objects) (list : Listing) (dataset key : Name) (s : Scale) (written : Written) → IsSmall s → IsUnsummed refusal → WritesScale (Ok written) m now (list s) dataset key s
    → IfSome now (λ n. SumsScale (Err refusal) n dataset s) → Generates (Err (Cutout refusal)) (Ok s) m now list dataset key
unsummed uncut.StoreFault m now list dataset key s written small unsound writes sums = inr (small, written_front m now dataset key s (list s) written writes)
unsummed uncut.NoMemory m now list dataset key s written small unsound writes sums = inr (small, written_front m now dataset key s (list s) written writes)
unsummed (uncut.Damaged cell fault) m (Some now) list dataset key s written small unsound writes sums = let none = sound m now (list s) dataset key s written writes in cc (none, sums)
unsummed (uncut.Damaged cell fault) m None list dataset key s written small unsound writes sums = untold m (list s) dataset key s written writes
unsummed (uncut.NoScale why) m now list dataset key s written small unsound writes sums = absurd unsound
unsummed (uncut.Outside told all) m now list dataset key s written small unsound writes sums = absurd unsound
unsummed (uncut.TooLarge bytes) m now list dataset key s written small unsound writes sums = absurd unsound
unsummed uncut.OutFault m now list dataset key s written small unsound writes sums = absurd unsound

-- some objects may have been put into a scale that is small
may_put : (m : Objects) (now : Option Objects) (list : Listing) (dataset : Name) (s : Scale) → IsSmall s → (now ≡ Some m) ⊎ FrontPut m now (list s) dataset s → MayPut (Ok s) m now list dataset
may_put m now list dataset s small (inl kept) = inl kept
may_put m now list dataset s small (inr front) = inr (small, front)

-- a list that isn't written
unwritten : (refusal : WriteRefusal) (m : Objects) (now : Option Objects) (list : Listing) (dataset key : Name) (s : Scale) → IsSmall s → (refusal ≡ FeedFault → ⊥) → JudgesWrite (Err refusal) (Ok s) m dataset
    → WritesScale (Err refusal) m now (list s) dataset key s → Generates (Err (Write refusal)) (Ok s) m now list dataset key
unwritten (NoScale why) m now list dataset key s small fed judges writes = absurd writes
unwritten (TooManyVoxels voxels) m now list dataset key s small fed judges writes = judges
unwritten NotEmpty m now list dataset key s small fed judges writes = judges
unwritten (Stream fault) m now list dataset key s small fed judges writes = (judges, small, writes)
unwritten (TooManyCells cells) m now list dataset key s small fed judges writes = (judges, small, writes)
unwritten StoreFault m now list dataset key s small fed judges writes = may_put m now list dataset s small writes
unwritten FeedFault m now list dataset key s small fed judges writes = absurd (fed refl)
unwritten NoMemory m now list dataset key s small fed judges writes = may_put m now list dataset s small writes

-- the same where objects may be untold, and the list is read from a stream
pub unwritten_told : (refusal : WriteRefusal) (o now : Option Objects) (read : Result Writes PlanFault) (list : Listing) (dataset key : Name) (s : Scale) → IsSmall s → (refusal ≡ FeedFault → ⊥) → read ≡ list s
    → IfSome o (λ m. JudgesWrite (Err refusal) (Ok s) m dataset) → IfSome o (λ m. WritesScale (Err refusal) m now read dataset key s)
    → IfSome o (λ m. Generates (Err (Write refusal)) (Ok s) m now list dataset key)
unwritten_told refusal None now read list dataset key s small fed same judges writes = tt
unwritten_told refusal (Some m) now read list dataset key s small fed same judges writes =
    unwritten refusal m now list dataset key s small fed judges (subst (λ l. WritesScale (Err refusal) m now l dataset key s) same writes)

pub unsummed_told : (refusal : CutoutRefusal) (o now after : Option Objects) (read : Result Writes PlanFault) (list : Listing) (dataset key : Name) (s : Scale) (written : Written) → IsSmall s → IsUnsummed refusal → read ≡ list s → after ≡ now
    → IfSome o (λ m. WritesScale (Ok written) m now read dataset key s) → IfSome now (λ n. SumsScale (Err refusal) n dataset s)
    → IfSome o (λ m. Generates (Err (Cutout refusal)) (Ok s) m after list dataset key)
unsummed_told refusal None now after read list dataset key s written small unsound same kept writes sums = tt
unsummed_told refusal (Some m) now after read list dataset key s written small unsound same kept writes sums =
    subst (λ o. Generates (Err (Cutout refusal)) (Ok s) m o list dataset key) (sym kept)
    (unsummed refusal m now list dataset key s written small unsound (subst (λ l. WritesScale (Ok written) m now l dataset key s) same writes) sums)

pub summed_told : (written : Written) (sum : ℕ) (o now after : Option Objects) (read : Result Writes PlanFault) (list : Listing) (dataset key : Name) (s : Scale) → IsSmall s → read ≡ list s → after ≡ now
    → IfSome o (λ m. WritesScale (Ok written) m now read dataset key s) → IfSome now (λ n. SumsScale (Ok sum) n dataset s)
    → IfSome o (λ m. Generates (Ok (record { written = written; sum = sum })) (Ok s) m after list dataset key)
summed_told written sum None now after read list dataset key s small same kept writes sums = tt
summed_told written sum (Some m) now after read list dataset key s small same kept writes sums =
    subst (λ o. Generates (Ok (record { written = written; sum = sum })) (Ok s) m o list dataset key) (sym kept)
    (summed written sum m now (list s) dataset key s small (subst (λ l. WritesScale (Ok written) m now l dataset key s) same writes) sums)

-- a scale that is too large
large_refused : (refusal : GenerateRefusal) (m : Objects) (now : Option Objects) (list : Listing) (dataset key : Name) (s : Scale) → AreReady m dataset s → JudgesWhole (Err refusal) s → Generates (Err refusal) (Ok s) m now list dataset key
large_refused (Cutout (uncut.TooLarge bytes)) m now list dataset key s ready judged = (ready, judged)
large_refused (Cutout (uncut.Outside told all)) m now list dataset key s ready judged = absurd judged
large_refused (Cutout (uncut.NoScale why)) m now list dataset key s ready judged = absurd judged
large_refused (Cutout (uncut.Damaged cell fault)) m now list dataset key s ready judged = absurd judged
large_refused (Cutout uncut.StoreFault) m now list dataset key s ready judged = absurd judged
large_refused (Cutout uncut.OutFault) m now list dataset key s ready judged = absurd judged
large_refused (Cutout uncut.NoMemory) m now list dataset key s ready judged = absurd judged
large_refused (Write refusal) m now list dataset key s ready judged = absurd judged

-- a scale that isn't read
unread_refused : (refusal : ScaleRefusal) (told : Result Scale NoScaleType) (m : Objects) (list : Listing) (dataset key : Name) → ReadsScale (Err refusal) told
    → Generates (Err (Write (write_without refusal))) told m (Some m) list dataset key
unread_refused (unread.NoScale why) told m list dataset key reads = reads
unread_refused unread.StoreFault told m list dataset key reads = inl refl
unread_refused unread.NoMemory told m list dataset key reads = inl refl

-- what is answered of the scale that the key has
pub key_generates : (result : Result Summary GenerateRefusal) (o same now : Option Objects) (list : Listing) (dataset key : Name) (s : Scale) → same ≡ o → IfSome o (λ m. ReadsScale (Ok s) (stored_scale m dataset key))
    → IfSome same (λ m. Generates result (Ok s) m now list dataset key) → IfSome o (λ m. Generates result (stored_scale m dataset key) m now list dataset key)
key_generates result None same now list dataset key s kept reads generates = tt
key_generates result (Some m) same now list dataset key s kept reads generates =
    subst (λ told. Generates result told m now list dataset key) (sym reads) (subst (λ o. IfSome o (λ m. Generates result (Ok s) m now list dataset key)) kept generates)
