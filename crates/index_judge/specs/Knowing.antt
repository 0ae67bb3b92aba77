-- What a judge of indexes knows (this project's).
use Rattle.std.specs.Prelude.{◌≡◌, Contains, List, Option, None, IfSome}
use Rattle.std.specs.FinMap as map
use Rattle.vol_base.specs.Outside.{Objects}
use Rattle.vol_spec.specs.ShardNames.{shard_name}
use Rattle.vol_spec.specs.Types.{Name}
use Rattle.vol_spec.specs.declared.scale.Scale.{Scale}
use Rattle.vol_spec.specs.declared.sharding.Sharding.{Sharding}
use Rattle.index_judge.specs.Judging.{wrong_in}
use Rattle.index_judge.specs.Keys.{keys}
use Rattle.index_judge.specs.declared.judge.IndexJudge.{IndexJudge}
use Rattle.index_judge.specs.declared.key.IndexKey.{IndexKey}

-- nothing is wrong with an index of the objects of a scale
abbrev pub IsSound : Name → Scale → Sharding → Objects → IndexKey → Type 0
IsSound dataset s sharding m index = wrong_in (map.get m
    (shard_name dataset s index.shard)) sharding index.shard index.minishard ≡ None

-- nor with those of a list, where the objects are told
abbrev pub AreSound : Option Objects → Name → Scale → Sharding → List IndexKey → Type 0
AreSound objects dataset s sharding list = IfSome objects (λ m. (index : IndexKey) → Contains list index →
    IsSound dataset s sharding m index)

-- the indexes that a judge remembers are sound
abbrev pub Knows : Option Objects → Name → Scale → Sharding → IndexJudge → Type 0
Knows objects dataset s sharding judge = AreSound objects dataset s sharding (keys judge.judged)

-- it remembers none: whatever the objects are
abbrev pub KnowsNothing : IndexJudge → Type 0
KnowsNothing judge = (objects : Option Objects) (dataset : Name) (s : Scale) (sharding : Sharding) →
    Knows objects dataset s sharding judge
