-- Judging a cell, by its index and its chunk.
use Rattle.std.proofs.Common.{◌≡◌, ℕ, [], ◌∷◌, Bool, true, false, Option, Some, None, Result, Ok, Err, refl, ap, ◌∙◌, sym, subst, IfSome}
use Rattle.std.specs.Prelude.{⊤}
use Rattle.std.specs.FinMap as fin
use Rattle.vol_base.specs.Outside.{Objects}
use Rattle.vol_base.specs.declared.faults.Fault.{Fault}
use Rattle.vol_spec.specs.BoxValues.{first_some}
use Rattle.vol_spec.specs.Chunks.{chunk_in, fault_in, fault_of}
use Rattle.vol_spec.specs.Places.{id_of, minishard_of, shard_of}
use Rattle.vol_spec.specs.ShardNames.{shard_name}
use Rattle.vol_spec.specs.StoredBytes.{object_by}
use Rattle.vol_spec.specs.Types.{Bytes, Cell, Name}
use Rattle.vol_spec.specs.Verdicts.{Wrong, damage, index_wrong, judge}
use Rattle.vol_spec.specs.Verdicts.Wrong.{Damaged as DamagedBy, Misplaced as MisplacedAt}
use Rattle.vol_spec.specs.declared.scale.Scale.{Scale}
use Rattle.vol_spec.specs.declared.sharding.Sharding.{Sharding}
use Rattle.shard_reader.specs.declared.bytes.LookupFault.{LookupFault}
use Rattle.shard_reader.specs.declared.bytes.LookupFault.TheVariants.{NotRead as Unread, Faulty}
use Rattle.index_judge.specs.Judging.{Says, judged_as, wrong_in}
use Rattle.index_judge.specs.Knowing.{Knows, KnowsNothing}
use Rattle.index_judge.specs.declared.fault.JudgeFault.{JudgeFault}
use Rattle.index_judge.specs.declared.fault.JudgeFault.TheVariants.{NotRead, Damaged, Misplaced}
use Rattle.index_judge.specs.declared.judge.IndexJudge.{IndexJudge}
use Rattle.verify_cmd.specs.Judges.{KnowsBy, KnowsIndexes}
use Rattle.cutout.specs.Finding.{Finds}
use Rattle.verify_cmd.specs.Parts.{JudgesCell, index_of_cell}

-- the index of a cell, by a sharding or none
abbrev index_by : Option Sharding → Objects → Name → Scale → Cell → Option Wrong
index_by o m dataset s cell = index_wrong o (id_of s cell) (fin.get m (object_by o dataset s cell))

index_none : (s : Scale) (cell : Cell) (object : Option Bytes) → index_wrong None (id_of s cell) object ≡ None
index_none s cell object = refl

index_in_shard : (sharding : Sharding) (id : ℕ) (object : Option Bytes) → index_wrong (Some sharding) id object ≡ wrong_in object sharding (shard_of sharding id) (minishard_of sharding id)
index_in_shard sharding id None = refl
index_in_shard sharding id (Some object) = refl

-- a scale without shards has no index
own_index : (m : Objects) (dataset : Name) (s : Scale) (cell : Cell) → s.sharding ≡ None → index_of_cell m dataset s cell ≡ None
own_index m dataset s cell e = ap (λ o. index_by o m dataset s cell) e

pub own_told : (o : Option Objects) (dataset : Name) (s : Scale) (cell : Cell) → s.sharding ≡ None → IfSome o (λ m. index_of_cell m dataset s cell ≡ None)
own_told None dataset s cell e = tt
own_told (Some m) dataset s cell e = own_index m dataset s cell e

-- in a sharded scale it is that of the id's minishard
abbrev wrong_of_id : Objects → Name → Scale → Sharding → ℕ → Option Wrong
wrong_of_id m dataset s sharding id = wrong_in (fin.get m (shard_name dataset s (shard_of sharding id))) sharding (shard_of sharding id) (minishard_of sharding id)

shard_index : (m : Objects) (dataset : Name) (s : Scale) (cell : Cell) (sharding : Sharding) → s.sharding ≡ Some sharding → index_of_cell m dataset s cell ≡ wrong_of_id m dataset s sharding (id_of s cell)
shard_index m dataset s cell sharding e =
    ap (λ o. index_by o m dataset s cell) e ∙ index_in_shard sharding (id_of s cell) (fin.get m (shard_name dataset s (shard_of sharding (id_of s cell))))

index_says : (m : Objects) (dataset : Name) (s : Scale) (cell : Cell) (sharding : Sharding) (shard k id : ℕ) (r : Result ⊤ JudgeFault) → s.sharding ≡ Some sharding → shard ≡ shard_of sharding id → k ≡ minishard_of sharding id → id ≡ id_of s cell
    → Says (wrong_in (fin.get m (shard_name dataset s shard)) sharding shard k) r → Says (index_of_cell m dataset s cell) r
index_says m dataset s cell sharding shard k id r e es ek ei h =
    let same : wrong_in (fin.get m (shard_name dataset s shard)) sharding shard k ≡ index_of_cell m dataset s cell =
    ap (λ x. wrong_in (fin.get m (shard_name dataset s x)) sharding x k) es
    ∙ ap (λ x. wrong_in (fin.get m (shard_name dataset s (shard_of sharding id))) sharding (shard_of sharding id) x) ek
    ∙ ap (wrong_of_id m dataset s sharding) ei
    ∙ sym (shard_index m dataset s cell sharding e) in
    subst (λ wrong. Says wrong r) same h

pub index_told : (o : Option Objects) (dataset : Name) (s : Scale) (cell : Cell) (sharding : Sharding) (shard k id : ℕ) (r : Result ⊤ JudgeFault) → s.sharding ≡ Some sharding → shard ≡ shard_of sharding id → k ≡ minishard_of sharding id → id ≡ id_of s cell
    → IfSome o (λ m. Says (wrong_in (fin.get m (shard_name dataset s shard)) sharding shard k) r) → IfSome o (λ m. Says (index_of_cell m dataset s cell) r)
index_told None dataset s cell sharding shard k id r e es ek ei h = tt
index_told (Some m) dataset s cell sharding shard k id r e es ek ei h = index_says m dataset s cell sharding shard k id r e es ek ei h

judge-is : (m : Objects) (dataset : Name) (s : Scale) (cell : Cell) → judge m dataset s cell ≡ first_some (index_of_cell m dataset s cell ∷ damage (fault_in m dataset s cell) ∷ [])
unfolding judge
judge-is m dataset s cell = refl

-- something is wrong with the index
judge_index : (m : Objects) (dataset : Name) (s : Scale) (cell : Cell) (wrong : Wrong) → index_of_cell m dataset s cell ≡ Some wrong → judge m dataset s cell ≡ Some wrong
judge_index m dataset s cell wrong e = judge-is m dataset s cell ∙ ap (λ o. first_some (o ∷ damage (fault_in m dataset s cell) ∷ [])) e

by_index : (m : Objects) (dataset : Name) (s : Scale) (cell : Cell) (fault : JudgeFault) → Says {A = ⊤} (index_of_cell m dataset s cell) (Err fault) → JudgesCell (Err fault) m dataset s cell
by_index m dataset s cell NotRead h = tt
by_index m dataset s cell (Damaged fault) h = judge_index m dataset s cell (DamagedBy fault) h
by_index m dataset s cell (Misplaced shard k id) h = judge_index m dataset s cell (MisplacedAt shard k id) h

pub index_refused : (o : Option Objects) (dataset : Name) (s : Scale) (cell : Cell) (r : Result ⊤ JudgeFault) (fault : JudgeFault) → r ≡ Err fault → IfSome o (λ m. Says (index_of_cell m dataset s cell) r)
    → IfSome o (λ m. JudgesCell (Err fault) m dataset s cell)
index_refused None dataset s cell r fault is h = tt
index_refused (Some m) dataset s cell r fault is h = by_index m dataset s cell fault (subst (Says (index_of_cell m dataset s cell)) is h)

-- nothing is, and the chunk decides
alone : (fault : Option Fault) → first_some (None ∷ damage fault ∷ []) ≡ damage fault
alone None = refl
alone (Some fault) = refl

judge_chunk : (m : Objects) (dataset : Name) (s : Scale) (cell : Cell) (fault : Option Fault) → index_of_cell m dataset s cell ≡ None → fault_in m dataset s cell ≡ fault → judge m dataset s cell ≡ damage fault
judge_chunk m dataset s cell fault none e =
    judge-is m dataset s cell ∙ ap (λ o. first_some (o ∷ damage (fault_in m dataset s cell) ∷ [])) none ∙ ap (λ f. first_some (None ∷ damage f ∷ [])) e ∙ alone fault

by_chunk : (m : Objects) (dataset : Name) (s : Scale) (cell : Cell) (stored : Bool) → index_of_cell m dataset s cell ≡ None → Finds (Ok stored) (chunk_in m dataset s cell) → JudgesCell (Ok stored) m dataset s cell
by_chunk m dataset s cell true none finds = (judge_chunk m dataset s cell None none (ap fault_of finds.1), finds)
by_chunk m dataset s cell false none finds = (judge_chunk m dataset s cell None none (ap fault_of finds), finds)

pub chunk_judged : (o : Option Objects) (dataset : Name) (s : Scale) (cell : Cell) (r : Result ⊤ JudgeFault) (done : ⊤) (found : Result Bool LookupFault) (stored : Bool) → r ≡ Ok done → found ≡ Ok stored
    → IfSome o (λ m. Says (index_of_cell m dataset s cell) r) → IfSome o (λ m. Finds found (chunk_in m dataset s cell)) → IfSome o (λ m. JudgesCell (Ok stored) m dataset s cell)
chunk_judged None dataset s cell r done found stored is ok h finds = tt
chunk_judged (Some m) dataset s cell r done found stored is ok h finds =
    by_chunk m dataset s cell stored (subst (Says (index_of_cell m dataset s cell)) is h) (subst (λ f. Finds f (chunk_in m dataset s cell)) ok finds)

by_fault : (m : Objects) (dataset : Name) (s : Scale) (cell : Cell) (fault : LookupFault) → index_of_cell m dataset s cell ≡ None → Finds (Err fault) (chunk_in m dataset s cell) → JudgesCell (Err (judged_as fault)) m dataset s cell
by_fault m dataset s cell Unread none finds = tt
by_fault m dataset s cell (Faulty fault) none finds = judge_chunk m dataset s cell (Some fault) none (ap fault_of finds)

pub chunk_refused : (o : Option Objects) (dataset : Name) (s : Scale) (cell : Cell) (r : Result ⊤ JudgeFault) (done : ⊤) (found : Result Bool LookupFault) (fault : LookupFault) (told : JudgeFault) → r ≡ Ok done → found ≡ Err fault → told ≡ judged_as fault
    → IfSome o (λ m. Says (index_of_cell m dataset s cell) r) → IfSome o (λ m. Finds found (chunk_in m dataset s cell)) → IfSome o (λ m. JudgesCell (Err told) m dataset s cell)
chunk_refused None dataset s cell r done found fault told is err as_told h finds = tt
chunk_refused (Some m) dataset s cell r done found fault told is err as_told h finds =
    subst (λ t. JudgesCell (Err t) m dataset s cell) (sym as_told)
    (by_fault m dataset s cell fault (subst (Says (index_of_cell m dataset s cell)) is h) (subst (λ f. Finds f (chunk_in m dataset s cell)) err finds))

-- a sound cell has a sound chunk
no_fault : (index : Option Wrong) (fault : Option Fault) → first_some (index ∷ damage fault ∷ []) ≡ None → fault ≡ None
no_fault (Some wrong) fault h = absurd (cc h)
no_fault None None h = refl
no_fault None (Some fault) h = absurd (cc h)

pub sound_chunk : (m : Objects) (dataset : Name) (s : Scale) (cell : Cell) → judge m dataset s cell ≡ None → fault_in m dataset s cell ≡ None
sound_chunk m dataset s cell h = no_fault (index_of_cell m dataset s cell) (fault_in m dataset s cell) (sym (judge-is m dataset s cell) ∙ h)

-- what is remembered of indexes, by the sharding
pub knows_as : (o : Option Objects) (dataset : Name) (s : Scale) (sharding : Sharding) (indexes : IndexJudge) → s.sharding ≡ Some sharding → KnowsIndexes o dataset s indexes → Knows o dataset s sharding indexes
knows_as o dataset s sharding indexes e h = subst (λ x. KnowsBy x o dataset s indexes) e h

pub knows_index : (o : Option Objects) (dataset : Name) (s : Scale) (sharding : Sharding) (indexes : IndexJudge) → s.sharding ≡ Some sharding → Knows o dataset s sharding indexes → KnowsIndexes o dataset s indexes
knows_index o dataset s sharding indexes e h = subst (λ x. KnowsBy x o dataset s indexes) (sym e) h

known_by : (o : Option Objects) (dataset : Name) (s : Scale) (by : Option Sharding) (indexes : IndexJudge) → KnowsNothing indexes → KnowsBy by o dataset s indexes
known_by o dataset s None indexes all = tt
known_by o dataset s (Some sharding) indexes all = all o dataset s sharding

pub knows_none : (o : Option Objects) (dataset : Name) (s : Scale) (indexes : IndexJudge) → KnowsNothing indexes → KnowsIndexes o dataset s indexes
knows_none o dataset s indexes all = known_by o dataset s s.sharding indexes all

-- and what is remembered stays right where the objects do
pub knows_still : (o same : Option Objects) (dataset : Name) (s : Scale) (indexes : IndexJudge) → same ≡ o → KnowsIndexes o dataset s indexes → KnowsIndexes same dataset s indexes
knows_still o same dataset s indexes e h = subst (λ x. KnowsIndexes x dataset s indexes) (sym e) h
