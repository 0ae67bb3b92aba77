-- What a judge of indexes knows, over its calls.
use Rattle.std.proofs.Common.{◌≡◌, ◌⊎◌, ℕ, List, [], Contains, Option, None, Some, IfSome, Result, sym, subst}
use Rattle.std.specs.Prelude.{⊤}
use Rattle.std.specs.FinMap as map
use Rattle.vol_base.specs.Outside.{Objects}
use Rattle.vol_spec.specs.ShardNames.{shard_name}
use Rattle.vol_spec.specs.Types.{Name}
use Rattle.vol_spec.specs.declared.scale.Scale.{Scale}
use Rattle.vol_spec.specs.declared.sharding.Sharding.{Sharding}
use Rattle.index_judge.specs.Judging.{Says, wrong_in}
use Rattle.index_judge.specs.Knowing.{AreSound, IsSound}
use Rattle.index_judge.specs.declared.fault.JudgeFault.{JudgeFault}
use Rattle.index_judge.specs.declared.key.IndexKey.{IndexKey}
use Rattle.index_judge.proofs.KeySteps.{fewer, none_yet, one_more}

-- an index that is remembered
pub remembered : (o : Option Objects) (dataset : Name) (s : Scale) (sharding : Sharding) (list : List IndexKey) (index : IndexKey) → AreSound o dataset s sharding list → Contains list index
    → IfSome o (λ m. wrong_in (map.get m (shard_name dataset s index.shard)) sharding index.shard index.minishard ≡ None)
remembered None dataset s sharding list index h there = tt
remembered (Some m) dataset s sharding list index h there = h index there

-- a judgement of an object by its name
pub named : (o : Option Objects) (name wanted : Name) (sharding : Sharding) (shard m : ℕ) (r : Result ⊤ JudgeFault) → name ≡ wanted → IfSome o (λ objects. Says (wrong_in (map.get objects name) sharding shard m) r)
    → IfSome o (λ objects. Says (wrong_in (map.get objects wanted) sharding shard m) r)
named o name wanted sharding shard m r e h = subst (λ n. IfSome o (λ objects. Says (wrong_in (map.get objects n) sharding shard m) r)) e h

-- fewer are remembered
pub knows_fewer : (o : Option Objects) (dataset : Name) (s : Scale) (sharding : Sharding) (old new : List IndexKey) → AreSound o dataset s sharding old → ((i : IndexKey) → Contains new i → Contains old i) → AreSound o dataset s sharding new
knows_fewer o dataset s sharding old new h k = fewer (IsSound dataset s sharding) o old new h k

-- and one that was judged sound
pub knows_more : (o : Option Objects) (dataset : Name) (s : Scale) (sharding : Sharding) (old mid new : List IndexKey) (index : IndexKey) → AreSound o dataset s sharding old → ((i : IndexKey) → Contains mid i → Contains old i)
    → IfSome o (λ m. wrong_in (map.get m (shard_name dataset s index.shard)) sharding index.shard index.minishard ≡ None) → ((i : IndexKey) → Contains new i → Contains mid i ⊎ (i ≡ index))
    → AreSound o dataset s sharding new
knows_more o dataset s sharding old mid new index h k sound more = one_more (IsSound dataset s sharding) o mid new index (knows_fewer o dataset s sharding old mid h k) sound more

-- where the objects stay
pub knows_still : (o now : Option Objects) (dataset : Name) (s : Scale) (sharding : Sharding) (list : List IndexKey) → now ≡ o → AreSound o dataset s sharding list → AreSound now dataset s sharding list
knows_still o now dataset s sharding list e h = subst (λ x. AreSound x dataset s sharding list) (sym e) h

pub knows_none : (list : List IndexKey) → list ≡ [] → (o : Option Objects) (dataset : Name) (s : Scale) (sharding : Sharding) → AreSound o dataset s sharding list
knows_none list e = λ o dataset s sharding. none_yet (IsSound dataset s sharding) o list e
