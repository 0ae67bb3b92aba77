-- Where a generator is in its stream (this project's).
use Rattle.std.specs.Prelude.{◌≡◌, ◌-◌, ◌*◌, ◌++◌, drop}
use Rattle.vol_spec.specs.Types.{Bytes}
use Rattle.vectors_vol.specs.Generated.{counting_bytes, writes_from}
use Rattle.vectors_vol.specs.WriteStreams.{written}
use Rattle.vectors_vol.specs.declared.place.Place.{Place}

-- all of the write that was begun last is given
abbrev pub IsGiven : Place → Type 0
IsGiven p = (p.head_at ≡ 48) × (p.at ≡ p.scale.width * p.count)

-- what is left of the values of the write that was begun last
abbrev pub values_left : Place → Bytes
values_left p = drop p.at (counting_bytes p.scale.width p.first p.count)

-- the writes that aren't begun
abbrev pub later : Place → Bytes
later p = written (writes_from p.scale p.number p.begun (p.writes - p.begun))

-- what is left of the stream: of a head, of values, and the writes that aren't begun
abbrev pub left_of : Place → Bytes
left_of p = drop p.head_at p.head ++ values_left p ++ later p
