-- What is kept of the index that was opened last.
use Rattle.std.proofs.Common.{◌≡◌, ℕ, ◌*◌, List, ◌+◌, ◌≤◌, length, Option, None, Some, IfOk, IfSome, Result, Ok, Err, refl, ap, ◌∙◌, sym, subst}
use Rattle.std.specs.FinMap as map
use Rattle.vol_base.specs.Outside.{Objects, part}
use Rattle.vol_spec.specs.declared.sharding.Sharding.{Sharding}
use Rattle.vol_spec.specs.FoundChunks.{found}
use Rattle.vol_spec.specs.Places.{minishard_of, shard_of}
use Rattle.vol_spec.specs.declared.span.ChunkSpan.{ChunkSpan}
use Rattle.minishard.specs.Walks.{Progress}
use Rattle.shard_reader.specs.declared.bytes.LookupFault.{LookupFault}
use Rattle.shard_reader.proofs.FoundSteps.{opens_fault, opens_found}
use Rattle.shard_reader.specs.Reading.{Answers, found_of, IsOpened, IsWindow, OnIndex, OnObject, Opens, told_object}
use Rattle.shard_reader.specs.Keeping.{IsKept, IsOf, KeepsIndex, AgreesWith}
use Rattle.shard_reader.specs.declared.kept.KeptIndex.{KeptIndex}
use Rattle.shard_reader.specs.declared.opened.OpenedIndex.{OpenedIndex}

pub kept_window : (o : Option Objects) (names : ℕ → List ℕ) (name : List ℕ) (sharding : Sharding) (kept : Option KeptIndex) (shard m : ℕ) (opened : OpenedIndex) (w : Progress) (count : ℕ) (columns : List ℕ)
    → KeepsIndex o names sharding kept w count columns → IsOf kept shard m → name ≡ names shard → IfSome kept (λ k. opened ≡ k.opened)
    → (object : List ℕ) → told_object o name ≡ Some object → IsWindow w count columns (part object opened.index.at (24 * opened.index.rows))
kept_window o names name sharding None shard m opened w count columns keeps of named same object told = absurd of
kept_window None names name sharding (Some kept) shard m opened w count columns keeps of named same object told = absurd (cc told)
kept_window (Some objects) names name sharding (Some kept) shard m opened w count columns keeps of named same object told =
    let there : map.get objects (names kept.shard) ≡ Some object = ap (λ k. map.get objects (names k)) of.0 ∙ ap (map.get objects) (sym named) ∙ told in
    let is = subst (λ found. AgreesWith found sharding kept w count columns) there keeps in
    subst (λ (k : OpenedIndex). IsWindow w count columns (part object k.index.at (24 * k.index.rows))) (sym same) is.window

-- what is said of a look-up whose entry has a fault, and of one whose index was opened
pub located_fault : (o : Option Objects) (names : ℕ → List ℕ) (name : List ℕ) (sharding : Sharding) (shard m limit id : ℕ) (r : Result (Option OpenedIndex) LookupFault) (fault : LookupFault)
    → r ≡ Err fault → name ≡ names shard → shard ≡ shard_of sharding id → m ≡ minishard_of sharding id → IfSome o (λ objects. Opens sharding m (map.get objects name) r)
    → IfSome o (λ objects. Answers {A = Option ChunkSpan} (found_of (map.get objects (names (shard_of sharding id))) sharding limit id) (Err fault))
located_fault None names name sharding shard m limit id r fault e named es em h = tt
located_fault (Some objects) names name sharding shard m limit id r fault e named es em h =
    let one = subst (λ x. Opens sharding m (map.get objects name) x) e h in
    let two = subst (λ k. Opens sharding k (map.get objects name) (Err fault)) em one in
    let three = subst (λ k. Opens sharding (minishard_of sharding id) (map.get objects k) (Err fault)) (named ∙ ap names es) two in
    opens_fault (map.get objects (names (shard_of sharding id))) sharding limit id fault three

pub located : (o : Option Objects) (names : ℕ → List ℕ) (name : List ℕ) (sharding : Sharding) (shard m limit id : ℕ) (r : Result (Option OpenedIndex) LookupFault) (opened : OpenedIndex) (answer : Result (Option ChunkSpan) LookupFault)
    → r ≡ Ok (Some opened) → name ≡ names shard → shard ≡ shard_of sharding id → IfSome o (λ objects. Opens sharding m (map.get objects name) r)
    → OnObject o name (λ object. Answers (found object sharding limit id) answer)
    → IfSome o (λ objects. Answers (found_of (map.get objects (names (shard_of sharding id))) sharding limit id) answer)
located None names name sharding shard m limit id r opened answer e named es h there = tt
located (Some objects) names name sharding shard m limit id r opened answer e named es h there =
    let one = subst (λ x. Opens sharding m (map.get objects name) x) e h in
    let two : Answers (found_of (map.get objects name) sharding limit id) answer = opens_found (map.get objects name) sharding m limit id opened answer one there in
    subst (λ k. Answers (found_of (map.get objects k) sharding limit id) answer) (named ∙ ap names es) two

agrees_new : (found : Option (List ℕ)) (sharding : Sharding) (m : ℕ) (opened : OpenedIndex) (kept : KeptIndex) (w : Progress) (count : ℕ) (columns : List ℕ) → kept.minishard ≡ m → kept.opened ≡ opened
    → Opens sharding m found (Ok (Some opened))
    → ((object : List ℕ) → found ≡ Some object → opened.index.at + 24 * opened.index.rows ≤ length object → IsWindow w count columns (part object opened.index.at (24 * opened.index.rows)))
    → AgreesWith found sharding kept w count columns
agrees_new None sharding m opened kept w count columns em eo h there = absurd h
agrees_new (Some object) sharding m opened kept w count columns em eo h there =
    record {
      opened = subst (λ (k : OpenedIndex). IsOpened sharding kept.minishard object k.len k.index.at k.index.rows) (sym eo) (subst (λ k. IsOpened sharding k object opened.len opened.index.at opened.index.rows) (sym em) h);
      window = subst (λ (k : OpenedIndex). IsWindow w count columns (part object k.index.at (24 * k.index.rows))) (sym eo) (there object refl h.fits);
    }

pub keeps_new : (o : Option Objects) (names : ℕ → List ℕ) (name : List ℕ) (sharding : Sharding) (kept : Option KeptIndex) (shard m : ℕ) (r : Result (Option OpenedIndex) LookupFault) (opened : OpenedIndex) (w : Progress) (count : ℕ) (columns : List ℕ)
    → r ≡ Ok (Some opened) → name ≡ names shard → IsKept kept shard m opened → IfSome o (λ objects. Opens sharding m (map.get objects name) r)
    → OnIndex o name opened.index.at opened.index.rows (IsWindow w count columns) → KeepsIndex o names sharding kept w count columns
keeps_new o names name sharding None shard m r opened w count columns e named is h there = absurd is
keeps_new None names name sharding (Some kept) shard m r opened w count columns e named is h there = tt
keeps_new (Some objects) names name sharding (Some kept) shard m r opened w count columns e named is h there =
    let one = subst (λ x. Opens sharding m (map.get objects name) x) e h in
    let same : name ≡ names kept.shard = named ∙ ap names (sym is.0) in
    subst (λ k. AgreesWith (map.get objects k) sharding kept w count columns) same
    (agrees_new (map.get objects name) sharding m opened kept w count columns is.1 is.2 one there)

-- the index of a minishard that is kept is that of an id
pub is_of_kept : (kept : Option KeptIndex) (shard s m k : ℕ) (opened : OpenedIndex) → shard ≡ s → m ≡ k → IsKept kept shard m opened → IsOf kept s k
is_of_kept None shard s m k opened es em is = absurd is
is_of_kept (Some kept) shard s m k opened es em is = (is.0 ∙ es, is.1 ∙ em)

pub on_span : {A : Type 0} (r : Result (Option A) LookupFault) (P : Type 0) → P → IfOk r (λ a. IfSome a (λ _. P))
on_span (Ok (Some a)) P h = h
on_span (Ok None) P h = tt
on_span (Err fault) P h = tt
