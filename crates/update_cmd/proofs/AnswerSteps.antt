-- What the command `update` answers, by what putting writes over a scale answers.
use Rattle.std.proofs.Common.{◌≡◌, ◌⊎◌, ◌∙◌, ◌+◌, ◌^◌, ◌≤◌, [], ◌∷◌, length, map, Option, Some, None, IfSome, Result, Ok, Err, refl, sym, subst, ap, inl, inr, ⊎_elim, arith}
use Rattle.std.specs.Prelude.{All, IfErr, IsOkAnd, ℕ}
use Rattle.std.specs.List.{range_with_len}
use Rattle.std.proofs.lemmas.List.Elements.{All-cons, All-nil}
use Rattle.vol_base.specs.Bytes.{AreBytes}
use Rattle.vol_base.specs.Outside.{Draft, HaveBytes, Objects, OnlyReads}
use Rattle.vol_spec.proofs.Told.{in_told}
use Rattle.vol_spec.specs.StoredCells.{met_cells, put_in}
use Rattle.vol_spec.specs.StoredLists.{stored_list}
use Rattle.vol_spec.specs.Types.{Bytes, Chunks, Name, Writes}
use Rattle.vol_spec.specs.Views.{view}
use Rattle.vol_spec.specs.Writable.{IsWritable, padded}
use Rattle.vol_spec.specs.declared.scale.Scale.{Scale}
use Rattle.chunk_laws.proofs.Law.{stored_outside}
use Rattle.command_base.proofs.Choices.{ok_and, ok_is}
use Rattle.command_base.specs.Ending.{EndsWell}
use Rattle.command_base.specs.Outlets.{Outlets, Tells}
use Rattle.command_base.specs.Scales.{IsWritableAlone, info_name, scale_from, stored_scale}
use Rattle.command_base.specs.Statuses.{Reports}
use Rattle.command_base.specs.declared.refusal.NoScale.{NoScale as NoScaleType}
use Rattle.command_base.specs.declared.status.Status.{Status}
use Rattle.shard_writer.specs.Writing.{Drops}
use Rattle.shard_writer.specs.declared.written.Written.{Written}
use Rattle.size_laws.specs.Further.{all_views}
use Rattle.update_laws.proofs.JudgedSteps.{judged_few}
use Rattle.update_laws.proofs.NameSteps.{updated_whole}
use Rattle.update_laws.proofs.ReadSteps.{updated_cut, updated_faultless, updated_value}
use Rattle.update_laws.specs.Judged.{refusal_in}
use Rattle.update_laws.specs.Overlaid.{after}
use Rattle.update_laws.specs.Updated.{updated_in}
use Rattle.update_laws.specs.Laws.{CanUpdate}
use Rattle.view_writer.proofs.PairSteps.{each_few}
use Rattle.view_writer.specs.Views.{first_wide}
use Rattle.write_cmd.proofs.PlanSteps.{few_cells}
use Rattle.write_cmd.proofs.StreamSteps.{info_apart}
use Rattle.write_cmd.specs.Storing.{Listing}
use Rattle.write_plan.specs.Plans.{pairs}
use Rattle.write_plan.specs.Readers.{Answers}
use Rattle.write_plan.specs.Stream.{writes_of}
use Rattle.write_plan.specs.declared.fault.PlanFault.{PlanFault}
use Rattle.write_plan.specs.declared.fault.PlanFault.TheVariants.{FeedFault as StreamFeed, BadMagic, TooManyWrites, EmptyBox, OutsideBox, WritesTooLarge, Truncated, TrailingBytes, OutOfMemory as StreamMemory}
use Rattle.update_cmd.specs.Answering.{AllReadUpdated, AnswersAll, AnswersScale, AsksForDocument, CanBeUpdated, DropsUnsharded, HasUpdated, IsRight, JudgesUpdate, KeepsFeed, LeavesStore, ReadsWritable, UpdateFront, UpdatedBack}
use Rattle.update_cmd.specs.Refusals.{not_updated, unstreamed, update_line, update_status}
use Rattle.update_cmd.specs.Updating.{HasTooMany, PutsJudgedFront, update_fault}
use Rattle.update_cmd.specs.Putting.{KeepsStore, UpdatesScale}
use Rattle.update_cmd.specs.declared.fault.UpdateFault.{UpdateFault}
use Rattle.update_cmd.specs.declared.fault.UpdateFault.TheVariants as fault
use Rattle.update_cmd.specs.declared.refusal.UpdateRefusal.{UpdateRefusal}
use Rattle.update_cmd.specs.declared.refusal.UpdateRefusal.TheVariants as refused

-- the scale of a key stays
scale_stays : (m : Objects) (dataset key : Name) (s : Scale) (chunks : Chunks) → stored_scale (put_in m (stored_list dataset s chunks)) dataset key ≡ stored_scale m dataset key
unfolding stored_scale
scale_stays m dataset key s chunks = ap (λ o. scale_from o key) (stored_outside m dataset s chunks (info_name dataset) (info_apart dataset s))

-- what was put is read
all_read : (m : Objects) (now : Option Objects) (dataset : Name) (s : Scale) (writes : Writes) → CanUpdate m dataset s writes → now ≡ Some (updated_in m dataset s writes) → AllReadUpdated m now dataset s writes
all_read m now dataset s writes can put =
    subst (λ o. AllReadUpdated m o dataset s writes) (sym put) (
      λ p c inside low none. updated_value m dataset s writes can p c inside low none,
      λ b inside none. record {
        faultless = updated_faultless m dataset s writes can b none;
        values = updated_cut m dataset s writes can b inside none;
        sound = updated_whole m dataset s writes can b;
      },
    )

made_one : (written : Written) (m : Objects) (now : Option Objects) (list : Result Writes PlanFault) (dataset key : Name) (s : Scale) (writes : Writes) → list ≡ Ok writes → IsWritableAlone s → All (λ write. AreBytes write.1) writes → HaveBytes m
    → UpdatesScale (Ok written) m now dataset s writes → AnswersScale (Ok written) m now list dataset key s
made_one written m now list dataset key s writes is can bytes held h =
    let met : length (met_cells s writes) ≤ 2 ^ 22 = (let few = few_cells s writes in omega (arith, few, h.0)) in
    let able : CanUpdate m dataset s writes = record { few = judged_few m dataset s writes h.1.0 met; writable = can.0; written = bytes; held = held } in
    ok_is list writes (λ ws. HasUpdated m now dataset key s ws written × AllReadUpdated m now dataset s ws) is
    (record { writable = can.0; one = can.1; few = h.0; judged = h.1.0; updated = h.1.1; same = scale_stays m dataset key s (after m dataset s writes) }, all_read m now dataset s writes able h.1.1.put)

refused_one : (found : UpdateFault) (m : Objects) (now : Option Objects) (list : Result Writes PlanFault) (dataset key : Name) (s : Scale) (writes : Writes) → list ≡ Ok writes → IsWritableAlone s → UpdatesScale (Err found) m now dataset s writes
    → AnswersScale (Err (not_updated found)) m now list dataset key s
refused_one (fault.TooManyCells cells) m now list dataset key s writes is can h = (h.0, ok_is list writes (λ ws. HasTooMany m dataset s ws cells) is h.1)
refused_one (fault.BadShard shard minishard found) m now list dataset key s writes is can h = (h.1.0, ok_is list writes _ is (h.0, h.1.1))
refused_one (fault.Damaged cell found) m now list dataset key s writes is can h = ok_is list writes _ is (h.0, h.1.0, h.1.1)
refused_one fault.StoreFault m now list dataset key s writes is can (inl same) = inl same
refused_one fault.StoreFault m now list dataset key s writes is can (inr h) = inr (can, ok_is list writes (λ ws. (pairs s ws ≤ 2 ^ 22) × PutsJudgedFront m now dataset s ws) is h)
refused_one fault.OutOfMemory m now list dataset key s writes is can (inl same) = inl same
refused_one fault.OutOfMemory m now list dataset key s writes is can (inr h) = inr (can, ok_is list writes (λ ws. (pairs s ws ≤ 2 ^ 22) × PutsJudgedFront m now dataset s ws) is h)

-- the same where objects and the feed may be untold
pub made_told : (written : Written) (o now : Option Objects) (fed : Option Bytes) (dataset key : Name) (s : Scale) (writes : Writes) → IfSome fed (λ bytes. writes_of bytes s ≡ Ok writes) → IsWritableAlone s → All (λ write. AreBytes write.1) writes → IfSome o HaveBytes
    → IfSome o (λ m. UpdatesScale (Ok written) m now dataset s writes) → IfSome o (λ m. IfSome fed (λ bytes. AnswersScale (Ok written) m now (writes_of bytes s) dataset key s))
made_told written None now fed dataset key s writes is can bytes held h = tt
made_told written (Some m) now None dataset key s writes is can bytes held h = tt
made_told written (Some m) now (Some stream) dataset key s writes is can bytes held h = made_one written m now (writes_of stream s) dataset key s writes is can bytes held h

pub refused_told : (found : UpdateFault) (refusal : UpdateRefusal) (o now : Option Objects) (fed : Option Bytes) (dataset key : Name) (s : Scale) (writes : Writes) → refusal ≡ not_updated found → IfSome fed (λ bytes. writes_of bytes s ≡ Ok writes) → IsWritableAlone s
    → IfSome o (λ m. UpdatesScale (Err found) m now dataset s writes) → IfSome o (λ m. IfSome fed (λ bytes. AnswersScale (Err refusal) m now (writes_of bytes s) dataset key s))
refused_told found refusal None now fed dataset key s writes refuses is can h = tt
refused_told found refusal (Some m) now None dataset key s writes refuses is can h = tt
refused_told found refusal (Some m) now (Some stream) dataset key s writes refuses is can h =
    subst (λ r. AnswersScale (Err r) m now (writes_of stream s) dataset key s) (sym refuses) (refused_one found m now (writes_of stream s) dataset key s writes is can h)

pub refused_leaves : (found : UpdateFault) (refusal : UpdateRefusal) (o now : Option Objects) (d after : Option Draft) → refusal ≡ not_updated found → KeepsStore found o now d after → LeavesStore refusal o now d after
refused_leaves found refusal o now d after refuses kept = subst (λ r. LeavesStore r o now d after) (sym refuses) (by found kept)
  where
    by : (found : UpdateFault) → KeepsStore found o now d after → LeavesStore (not_updated found) o now d after
    by (fault.TooManyCells cells) kept = kept
    by (fault.BadShard shard minishard found) kept = kept
    by (fault.Damaged cell found) kept = tt
    by fault.StoreFault kept = tt
    by fault.OutOfMemory kept = tt

pub refused_judges : (found : UpdateFault) (refusal : UpdateRefusal) (s : Scale) → refusal ≡ not_updated found → IsWritableAlone s → JudgesUpdate (Err refusal) (Ok s)
refused_judges found refusal s refuses can = subst (λ r. JudgesUpdate (Err r) (Ok s)) (sym refuses) (by found)
  where
    by : (found : UpdateFault) → JudgesUpdate (Err (not_updated found)) (Ok s)
    by (fault.TooManyCells cells) = can
    by (fault.BadShard shard minishard found) = can
    by (fault.Damaged cell found) = can
    by fault.StoreFault = tt
    by fault.OutOfMemory = tt

pub refused_feed : (found : UpdateFault) (refusal : UpdateRefusal) (old new : Option Bytes) → refusal ≡ not_updated found → KeepsFeed (Err refusal) old new
refused_feed found refusal old new refuses = subst (λ r. KeepsFeed (Err r) old new) (sym refuses) (by found)
  where
    by : (found : UpdateFault) → KeepsFeed (Err (not_updated found)) old new
    by (fault.TooManyCells cells) = tt
    by (fault.BadShard shard minishard found) = tt
    by (fault.Damaged cell found) = tt
    by fault.StoreFault = tt
    by fault.OutOfMemory = tt

-- a stream that isn't read
unstreamed_one : (found : PlanFault) (m : Objects) (list : Result Writes PlanFault) (dataset key : Name) (s : Scale) → Answers {A = Writes} (Err found) list → AnswersScale (Err (unstreamed found)) m (Some m) list dataset key s
unstreamed_one StreamFeed m list dataset key s h = refl
unstreamed_one StreamMemory m list dataset key s h = inl refl
unstreamed_one BadMagic m list dataset key s h = (refl, h refl)
unstreamed_one (TooManyWrites count) m list dataset key s h = (refl, h refl)
unstreamed_one (EmptyBox write) m list dataset key s h = (refl, h refl)
unstreamed_one (OutsideBox write) m list dataset key s h = (refl, h refl)
unstreamed_one (WritesTooLarge write) m list dataset key s h = (refl, h refl)
unstreamed_one (Truncated write) m list dataset key s h = (refl, h refl)
unstreamed_one TrailingBytes m list dataset key s h = (refl, h refl)

pub unstreamed_told : (r : Result Written UpdateRefusal) (found : PlanFault) (o : Option Objects) (fed : Option Bytes) (dataset key : Name) (s : Scale) → r ≡ Err (unstreamed found) → IfSome fed (λ bytes. Answers {A = Writes} (Err found) (writes_of bytes s))
    → IfSome o (λ m. IfSome fed (λ bytes. AnswersScale r m o (writes_of bytes s) dataset key s))
unstreamed_told r found None fed dataset key s is h = tt
unstreamed_told r found (Some m) None dataset key s is h = tt
unstreamed_told r found (Some m) (Some stream) dataset key s is h = subst (λ x. AnswersScale x m (Some m) (writes_of stream s) dataset key s) (sym is) (unstreamed_one found m (writes_of stream s) dataset key s h)

pub unstreamed_judges : (r : Result Written UpdateRefusal) (found : PlanFault) (s : Scale) → r ≡ Err (unstreamed found) → IsWritableAlone s → JudgesUpdate r (Ok s)
unstreamed_judges r found s is can = subst (λ x. JudgesUpdate x (Ok s)) (sym is) (by found)
  where
    by : (found : PlanFault) → JudgesUpdate (Err (unstreamed found)) (Ok s)
    by StreamFeed = can
    by StreamMemory = tt
    by BadMagic = can
    by (TooManyWrites count) = can
    by (EmptyBox write) = can
    by (OutsideBox write) = can
    by (WritesTooLarge write) = can
    by (Truncated write) = can
    by TrailingBytes = can

pub unstreamed_document : (r : Result Written UpdateRefusal) (found : PlanFault) → r ≡ Err (unstreamed found) → (before after : ℕ) → AsksForDocument r before after
unstreamed_document r found is before after = subst (λ x. AsksForDocument x before after) (sym is) (by found)
  where
    by : (found : PlanFault) → AsksForDocument (Err (unstreamed found)) before after
    by StreamFeed = tt
    by StreamMemory = tt
    by BadMagic = tt
    by (TooManyWrites count) = tt
    by (EmptyBox write) = tt
    by (OutsideBox write) = tt
    by (WritesTooLarge write) = tt
    by (Truncated write) = tt
    by TrailingBytes = tt

-- a scale that is there, keeps the writing limit and has one chunk size
key_one : (r : Result Written UpdateRefusal) (told : Result Scale NoScaleType) (m : Objects) (now : Option Objects) (list : Listing) (dataset key : Name) (s : Scale) → told ≡ Ok s → IsWritableAlone s → AnswersScale r m now (list s) dataset key s → AnswersAll r told m now list dataset key
key_one (Ok written) told m now list dataset key s is can h = ok_is told s (λ s. IsWritableAlone s × AnswersScale (Ok written) m now (list s) dataset key s) is (can, h)
key_one (Err (refused.NoScale why)) told m now list dataset key s is can h = absurd h
key_one (Err (refused.TooManyVoxels voxels)) told m now list dataset key s is can h = absurd h
key_one (Err refused.SeveralSizes) told m now list dataset key s is can h = absurd h
key_one (Err (refused.Stream found)) told m now list dataset key s is can h = ok_is told s (λ s. IsWritableAlone s × AnswersScale (Err (refused.Stream found)) m now (list s) dataset key s) is (can, h)
key_one (Err (refused.TooManyCells cells)) told m now list dataset key s is can h = ok_is told s (λ s. IsWritableAlone s × AnswersScale (Err (refused.TooManyCells cells)) m now (list s) dataset key s) is (can, h)
key_one (Err (refused.BadShard shard minishard found)) told m now list dataset key s is can h = ok_is told s (λ s. IsWritableAlone s × AnswersScale (Err (refused.BadShard shard minishard found)) m now (list s) dataset key s) is (can, h)
key_one (Err (refused.Damaged cell found)) told m now list dataset key s is can h = ok_is told s (λ s. IsWritableAlone s × AnswersScale (Err (refused.Damaged cell found)) m now (list s) dataset key s) is (can, h)
key_one (Err refused.FeedFault) told m now list dataset key s is can h = ok_is told s (λ s. IsWritableAlone s × AnswersScale (Err refused.FeedFault) m now (list s) dataset key s) is (can, h)
key_one (Err refused.StoreFault) told m now list dataset key s is can (inl same) = inl same
key_one (Err refused.StoreFault) told m now list dataset key s is can (inr h) = inr (ok_is told s (λ s. UpdateFront m now (list s) dataset s) is h)
key_one (Err refused.NoMemory) told m now list dataset key s is can (inl same) = inl same
key_one (Err refused.NoMemory) told m now list dataset key s is can (inr h) = inr (ok_is told s (λ s. UpdateFront m now (list s) dataset s) is h)

pub key_told : (r : Result Written UpdateRefusal) (o same now : Option Objects) (fed : Option Bytes) (dataset key : Name) (s : Scale) → same ≡ o → IfSome o (λ m. ReadsWritable (Ok s) (stored_scale m dataset key))
    → IfSome same (λ m. IfSome fed (λ bytes. AnswersScale r m now (writes_of bytes s) dataset key s)) → IfSome o (λ m. IfSome fed (λ bytes. AnswersAll r (stored_scale m dataset key) m now (writes_of bytes) dataset key))
key_told r None same now fed dataset key s kept reads h = tt
key_told r (Some m) same now None dataset key s kept reads h = tt
key_told r (Some m) same now (Some stream) dataset key s kept reads h =
    key_one r (stored_scale m dataset key) m now (writes_of stream) dataset key s reads.0 reads.1 (subst (λ x. IfSome x (λ m. AnswersScale r m now (writes_of stream s) dataset key s)) kept h)

pub key_judges : (r : Result Written UpdateRefusal) (o : Option Objects) (dataset key : Name) (s : Scale) → IfSome o (λ m. ReadsWritable (Ok s) (stored_scale m dataset key)) → JudgesUpdate r (Ok s) → IfSome o (λ m. JudgesUpdate r (stored_scale m dataset key))
key_judges r None dataset key s reads h = tt
key_judges r (Some m) dataset key s reads h = subst (JudgesUpdate r) (sym reads.0) h

-- or one that isn't
unread_one : (refusal : UpdateRefusal) (told : Result Scale NoScaleType) (m : Objects) (now : Option Objects) (list : Listing) (dataset key : Name) → now ≡ Some m → ReadsWritable (Err refusal) told → AnswersAll (Err refusal) told m now list dataset key
unread_one (refused.NoScale why) told m now list dataset key same h = (same, h)
unread_one (refused.TooManyVoxels voxels) told m now list dataset key same h = (same, h)
unread_one refused.SeveralSizes told m now list dataset key same h = (same, h)
unread_one refused.StoreFault told m now list dataset key same h = inl same
unread_one refused.NoMemory told m now list dataset key same h = inl same
unread_one (refused.Stream found) told m now list dataset key same h = absurd h
unread_one (refused.TooManyCells cells) told m now list dataset key same h = absurd h
unread_one (refused.BadShard shard minishard found) told m now list dataset key same h = absurd h
unread_one (refused.Damaged cell found) told m now list dataset key same h = absurd h
unread_one refused.FeedFault told m now list dataset key same h = absurd h

pub unread_told : (refusal : UpdateRefusal) (o now : Option Objects) (fed : Option Bytes) (dataset key : Name) → now ≡ o → IfSome o (λ m. ReadsWritable (Err refusal) (stored_scale m dataset key))
    → IfSome o (λ m. IfSome fed (λ bytes. AnswersAll (Err refusal) (stored_scale m dataset key) m now (writes_of bytes) dataset key))
unread_told refusal None now fed dataset key same h = tt
unread_told refusal (Some m) now None dataset key same h = tt
unread_told refusal (Some m) now (Some stream) dataset key same h = unread_one refusal (stored_scale m dataset key) m now (writes_of stream) dataset key same h

unread_judges_one : (refusal : UpdateRefusal) (told : Result Scale NoScaleType) → ReadsWritable (Err refusal) told → JudgesUpdate (Err refusal) told
unread_judges_one (refused.NoScale why) told h = h
unread_judges_one (refused.TooManyVoxels voxels) told h = h
unread_judges_one refused.SeveralSizes told h = h
unread_judges_one refused.StoreFault told h = tt
unread_judges_one refused.NoMemory told h = tt
unread_judges_one (refused.Stream found) told h = absurd h
unread_judges_one (refused.TooManyCells cells) told h = absurd h
unread_judges_one (refused.BadShard shard minishard found) told h = absurd h
unread_judges_one (refused.Damaged cell found) told h = absurd h
unread_judges_one refused.FeedFault told h = absurd h

pub unread_judges : (refusal : UpdateRefusal) (o : Option Objects) (dataset key : Name) → IfSome o (λ m. ReadsWritable (Err refusal) (stored_scale m dataset key)) → IfSome o (λ m. JudgesUpdate (Err refusal) (stored_scale m dataset key))
unread_judges refusal None dataset key h = tt
unread_judges refusal (Some m) dataset key h = unread_judges_one refusal (stored_scale m dataset key) h

pub unread_feed : (refusal : UpdateRefusal) (left : Option Bytes) → KeepsFeed (Err refusal) left left
unread_feed (refused.NoScale why) left = refl
unread_feed (refused.TooManyVoxels voxels) left = refl
unread_feed refused.SeveralSizes left = refl
unread_feed refused.StoreFault left = tt
unread_feed refused.NoMemory left = tt
unread_feed (refused.Stream found) left = tt
unread_feed (refused.TooManyCells cells) left = tt
unread_feed (refused.BadShard shard minishard found) left = tt
unread_feed (refused.Damaged cell found) left = tt
unread_feed refused.FeedFault left = tt

-- what is asked for where the scale isn't read,
pub unread_document : (refusal : UpdateRefusal) (before after : ℕ) → after ≤ before + (2 ^ 20 + 1) → AsksForDocument (Err refusal) before after
unread_document (refused.NoScale why) before after asked = asked
unread_document (refused.TooManyVoxels voxels) before after asked = asked
unread_document refused.SeveralSizes before after asked = asked
unread_document refused.StoreFault before after asked = tt
unread_document refused.NoMemory before after asked = tt
unread_document (refused.Stream found) before after asked = tt
unread_document (refused.TooManyCells cells) before after asked = tt
unread_document (refused.BadShard shard minishard found) before after asked = tt
unread_document (refused.Damaged cell found) before after asked = tt
unread_document refused.FeedFault before after asked = tt

-- where it isn't updated,
pub refused_document : (found : UpdateFault) (refusal : UpdateRefusal) → refusal ≡ not_updated found → (before after : ℕ) → AsksForDocument (Err refusal) before after
refused_document found refusal refuses before after = subst (λ r. AsksForDocument (Err r) before after) (sym refuses) (by found)
  where
    by : (found : UpdateFault) → AsksForDocument (Err (not_updated found)) before after
    by (fault.TooManyCells cells) = tt
    by (fault.BadShard shard minishard found) = tt
    by (fault.Damaged cell found) = tt
    by fault.StoreFault = tt
    by fault.OutOfMemory = tt

pub unread_leaves : (refusal : UpdateRefusal) (o now : Option Objects) (d after : Option Draft) → OnlyReads o now d after → LeavesStore refusal o now d after
unread_leaves (refused.NoScale why) o now d after kept = kept
unread_leaves (refused.TooManyVoxels voxels) o now d after kept = kept
unread_leaves refused.SeveralSizes o now d after kept = kept
unread_leaves refused.StoreFault o now d after kept = tt
unread_leaves refused.NoMemory o now d after kept = tt
unread_leaves (refused.Stream found) o now d after kept = kept
unread_leaves (refused.TooManyCells cells) o now d after kept = kept
unread_leaves (refused.BadShard shard minishard found) o now d after kept = kept
unread_leaves (refused.Damaged cell found) o now d after kept = tt
unread_leaves refused.FeedFault o now d after kept = kept

-- what is left of the store, once the scale was read
pub leaves_read : (r : Result Written UpdateRefusal) (o same now : Option Objects) (d read after : Option Draft) → same ≡ o → read ≡ d → IfErr r (λ refusal. LeavesStore refusal same now read after) → IfErr r (λ refusal. LeavesStore refusal o now d after)
leaves_read r o same now d read after objects draft h =
    subst (λ x. IfErr r (λ refusal. LeavesStore refusal x now d after)) objects (subst (λ x. IfErr r (λ refusal. LeavesStore refusal same now x after)) draft h)

pub drops_read : (o : Option Objects) (dataset key : Name) (s : Scale) (d read after : Option Draft) → read ≡ d → IfSome o (λ m. ReadsWritable (Ok s) (stored_scale m dataset key)) → (s.sharding ≡ None → Drops read after)
    → IfSome o (λ m. DropsUnsharded (stored_scale m dataset key) d after)
drops_read None dataset key s d read after kept reads drops = tt
drops_read (Some m) dataset key s d read after kept reads drops = subst (λ told. DropsUnsharded told d after) (sym reads.0) (λ none. subst (λ x. Drops x after) kept (drops none))

drops_one : (told : Result Scale NoScaleType) (d after : Option Draft) → after ≡ d → DropsUnsharded told d after
drops_one (Ok s) d after kept = λ none. inr kept
drops_one (Err why) d after kept = tt

pub drops_unread : (o : Option Objects) (dataset key : Name) (d after : Option Draft) → after ≡ d → IfSome o (λ m. DropsUnsharded (stored_scale m dataset key) d after)
drops_unread None dataset key d after kept = tt
drops_unread (Some m) dataset key d after kept = drops_one (stored_scale m dataset key) d after kept

-- what is read back
pub updated_back : (written : Written) (o now : Option Objects) (fed : Option Bytes) (dataset key : Name) → IfSome o (λ m. IfSome fed (λ bytes. AnswersAll (Ok written) (stored_scale m dataset key) m now (writes_of bytes) dataset key))
    → IfSome o (λ m. IfSome fed (λ bytes. UpdatedBack m now (writes_of bytes) dataset key))
updated_back written None now fed dataset key h = tt
updated_back written (Some m) now None dataset key h = tt
updated_back written (Some m) now (Some stream) dataset key h =
    ok_and (stored_scale m dataset key) (λ s. IsWritableAlone s × AnswersScale (Ok written) m now (writes_of stream s) dataset key s) (λ s. IsOkAnd (writes_of stream s) (AllReadUpdated m now dataset s))
    (λ s k. ok_and (writes_of stream s) (λ ws. HasUpdated m now dataset key s ws written × AllReadUpdated m now dataset s ws) (AllReadUpdated m now dataset s) (λ ws both. both.1) k.1) h

-- a scale of one chunk size that keeps the writing limit keeps it in each view
alone_each : (s : Scale) → IsWritableAlone s → All IsWritable (all_views s)
alone_each s can =
    subst (λ n. All IsWritable (s ∷ map (view s) (range_with_len 1 n))) (sym can.1) (All-cons IsWritable s [] can.0 (All-nil IsWritable))

none_wide : (s : Scale) → IsWritableAlone s → first_wide (all_views s) ≡ None
none_wide s can = each_few padded (all_views s) (alone_each s can)

-- an update that can be made is refused only by a failing store or feed, or for want of memory
meet : {A E : Type 0} (r : Result A E) (P Q : A → Type 0) → IsOkAnd r P → IsOkAnd r Q → ((a : A) → P a → Q a → ⊥) → ⊥
meet (Ok a) P Q h k clash = clash a h k
meet (Err e) P Q h k clash = h

abbrev Fails : UpdateRefusal → Type 0
Fails refusal = (refusal ≡ refused.StoreFault) ⊎ ((refusal ≡ refused.FeedFault) ⊎ (refusal ≡ refused.NoMemory))

not_many : (m : Objects) (dataset : Name) (s : Scale) (writes : Writes) (cells : ℕ) → HasTooMany m dataset s writes cells → pairs s writes ≤ 2 ^ 22 → refusal_in m dataset s writes ≡ None → ⊥
not_many m dataset s writes cells (inl more) few none = omega (arith, more.0, few)
not_many m dataset s writes cells (inr more) few none = cc (more.1, none)

able_one : (refusal : UpdateRefusal) (told : Result Scale NoScaleType) (m : Objects) (now : Option Objects) (list : Listing) (dataset key : Name) → AnswersAll (Err refusal) told m now list dataset key
    → IsOkAnd told (λ s. IsWritableAlone s × IsOkAnd (list s) (λ writes. (pairs s writes ≤ 2 ^ 22) × (refusal_in m dataset s writes ≡ None) × (update_fault m dataset s writes ≡ None))) → Fails refusal
able_one refusal (Err missing) m now list dataset key h can = absurd can
able_one (refused.NoScale why) (Ok s) m now list dataset key h can = absurd (cc h.1)
able_one (refused.TooManyVoxels voxels) (Ok s) m now list dataset key h can = absurd (let none = none_wide s can.0 in cc (none, h.1))
able_one refused.SeveralSizes (Ok s) m now list dataset key h can = absurd (omega (arith, h.1.1, can.0.1))
able_one (refused.Stream found) (Ok s) m now list dataset key h can =
    absurd (subst (λ l. IsOkAnd l (λ writes. (pairs s writes ≤ 2 ^ 22) × (refusal_in m dataset s writes ≡ None) × (update_fault m dataset s writes ≡ None))) h.1.1 can.1)
able_one (refused.TooManyCells cells) (Ok s) m now list dataset key h can =
    absurd (meet (list s) (λ ws. HasTooMany m dataset s ws cells) (λ writes. (pairs s writes ≤ 2 ^ 22) × (refusal_in m dataset s writes ≡ None) × (update_fault m dataset s writes ≡ None)) h.1.1 can.1 (λ ws more able. not_many m dataset s ws cells more able.0 able.1))
able_one (refused.BadShard shard minishard found) (Ok s) m now list dataset key h can =
    absurd (meet (list s) _ (λ writes. (pairs s writes ≤ 2 ^ 22) × (refusal_in m dataset s writes ≡ None) × (update_fault m dataset s writes ≡ None)) h.1.1 can.1 (λ ws bad able. cc (bad.1, able.1)))
able_one (refused.Damaged cell found) (Ok s) m now list dataset key h can =
    absurd (meet (list s) _ (λ writes. (pairs s writes ≤ 2 ^ 22) × (refusal_in m dataset s writes ≡ None) × (update_fault m dataset s writes ≡ None)) h.1 can.1 (λ ws bad able. cc (bad.1, able.2)))
able_one refused.StoreFault (Ok s) m now list dataset key h can = inl refl
able_one refused.FeedFault (Ok s) m now list dataset key h can = inr (inl refl)
able_one refused.NoMemory (Ok s) m now list dataset key h can = inr (inr refl)

pub update_complete : (refusal : UpdateRefusal) (status : Status) (m : Objects) (now : Option Objects) (list : Listing) (dataset key : Name) (o : Outlets) → AnswersAll (Err refusal) (stored_scale m dataset key) m now list dataset key
    → CanBeUpdated m list dataset key → (refusal ≡ refused.StoreFault → ⊥) → (refusal ≡ refused.FeedFault → ⊥) → Reports (update_status refusal) (update_line dataset refusal) status (Tells o) → EndsWell status
update_complete refusal status m now list dataset key o h can store feed (inr told) = inr told.0
update_complete refusal status m now list dataset key o h can store feed (inl told) =
    ⊎_elim (λ is. absurd (store is)) (λ rest. ⊎_elim (λ is. absurd (feed is)) (λ is. inr (told.0 ∙ ap update_status is)) rest) (able_one refusal (stored_scale m dataset key) m now list dataset key h can)

-- want of memory is always right, where nothing changed
pub memory_right : (told : Option Objects) (draft : Option Draft) (left : Option Bytes) (dataset key : Name) → IsRight (Err refused.NoMemory) told told draft draft left left dataset key
memory_right told draft left dataset key = record {
  judges = in_told told _ (λ m is. tt);
  answers = in_told told _ (λ m is. in_told left _ (λ bytes fed. inl is));
  feed = tt;
  store = tt;
}
