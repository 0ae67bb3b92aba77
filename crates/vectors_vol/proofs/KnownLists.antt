-- Known lists and streams, worked out apart from this project's programs: several writes, three axes, two channels, and values of more
-- than a byte.
use Rattle.std.proofs.Common.{◌≡◌, ℕ, List, [], ◌∷◌, map, refl}
use Rattle.std.specs.Prelude.{pos, negsuc}
use Rattle.vol_base.specs.declared.boxes.Box3.{Box3}
use Rattle.vol_spec.specs.declared.encoding.Encoding.TheVariants.{Raw}
use Rattle.vol_spec.specs.declared.scale.Scale.{Scale}
use Rattle.chunk_grid.proofs.KnownScales.{unsharded}
use Rattle.vectors_vol.specs.Draws.{next_state}
use Rattle.vectors_vol.specs.Generated.{generated}
use Rattle.vectors_vol.specs.WriteStreams.{head_of, stream_of}

-- two channels of two bytes
abbrev doubled : Scale
doubled = unsharded 2 2 (5 ∷ 4 ∷ 3 ∷ []) (negsuc 4 ∷ pos 7 ∷ pos 0 ∷ []) (2 ∷ 2 ∷ 2 ∷ []) Raw refl

-- one channel of eight bytes
abbrev wide : Scale
wide = unsharded 8 1 (3 ∷ 2 ∷ 4 ∷ []) (pos 0 ∷ pos 0 ∷ negsuc 0 ∷ []) (2 ∷ 2 ∷ 2 ∷ []) Raw refl

-- larger than a box can be
abbrev long : Scale
long = unsharded 1 1 (1000 ∷ 300 ∷ 77 ∷ []) (negsuc 999 ∷ pos 1099511627776 ∷ pos 3 ∷ []) (64 ∷ 64 ∷ 64 ∷ []) Raw refl

doubled_stream : stream_of (generated doubled 9 3)
    ≡ (
    80 ∷ 86 ∷ 87 ∷ 49 ∷ 3 ∷ 0 ∷ 0 ∷ 0 ∷ 255 ∷ 255 ∷ 255 ∷ 255 ∷ 255 ∷ 255 ∷ 255 ∷ 255 ∷ 9 ∷ 0 ∷ 0 ∷ 0 ∷ 0 ∷ 0 ∷ 0 ∷ 0 ∷
    1 ∷ 0 ∷ 0 ∷ 0 ∷ 0 ∷ 0 ∷ 0 ∷ 0 ∷ 1 ∷ 0 ∷ 0 ∷ 0 ∷ 0 ∷ 0 ∷ 0 ∷ 0 ∷ 2 ∷ 0 ∷ 0 ∷ 0 ∷ 0 ∷ 0 ∷ 0 ∷ 0 ∷
    1 ∷ 0 ∷ 0 ∷ 0 ∷ 0 ∷ 0 ∷ 0 ∷ 0 ∷ 9 ∷ 0 ∷ 10 ∷ 0 ∷ 11 ∷ 0 ∷ 12 ∷ 0 ∷ 251 ∷ 255 ∷ 255 ∷ 255 ∷ 255 ∷ 255 ∷ 255 ∷ 255 ∷
    7 ∷ 0 ∷ 0 ∷ 0 ∷ 0 ∷ 0 ∷ 0 ∷ 0 ∷ 0 ∷ 0 ∷ 0 ∷ 0 ∷ 0 ∷ 0 ∷ 0 ∷ 0 ∷ 4 ∷ 0 ∷ 0 ∷ 0 ∷ 0 ∷ 0 ∷ 0 ∷ 0 ∷
    3 ∷ 0 ∷ 0 ∷ 0 ∷ 0 ∷ 0 ∷ 0 ∷ 0 ∷ 1 ∷ 0 ∷ 0 ∷ 0 ∷ 0 ∷ 0 ∷ 0 ∷ 0 ∷ 40 ∷ 0 ∷ 41 ∷ 0 ∷ 42 ∷ 0 ∷ 43 ∷ 0 ∷
    44 ∷ 0 ∷ 45 ∷ 0 ∷ 46 ∷ 0 ∷ 47 ∷ 0 ∷ 48 ∷ 0 ∷ 49 ∷ 0 ∷ 50 ∷ 0 ∷ 51 ∷ 0 ∷ 52 ∷ 0 ∷ 53 ∷ 0 ∷ 54 ∷ 0 ∷ 55 ∷ 0 ∷
    56 ∷ 0 ∷ 57 ∷ 0 ∷ 58 ∷ 0 ∷ 59 ∷ 0 ∷ 60 ∷ 0 ∷ 61 ∷ 0 ∷ 62 ∷ 0 ∷ 63 ∷ 0 ∷ 252 ∷ 255 ∷ 255 ∷ 255 ∷ 255 ∷ 255 ∷ 255 ∷ 255 ∷
    9 ∷ 0 ∷ 0 ∷ 0 ∷ 0 ∷ 0 ∷ 0 ∷ 0 ∷ 2 ∷ 0 ∷ 0 ∷ 0 ∷ 0 ∷ 0 ∷ 0 ∷ 0 ∷ 2 ∷ 0 ∷ 0 ∷ 0 ∷ 0 ∷ 0 ∷ 0 ∷ 0 ∷
    2 ∷ 0 ∷ 0 ∷ 0 ∷ 0 ∷ 0 ∷ 0 ∷ 0 ∷ 1 ∷ 0 ∷ 0 ∷ 0 ∷ 0 ∷ 0 ∷ 0 ∷ 0 ∷ 71 ∷ 0 ∷ 72 ∷ 0 ∷ 73 ∷ 0 ∷ 74 ∷ 0 ∷
    75 ∷ 0 ∷ 76 ∷ 0 ∷ 77 ∷ 0 ∷ 78 ∷ 0 ∷ [])
unfolding next_state head_of
doubled_stream = refl

wide_stream : stream_of (generated wide 2147483646 2)
    ≡ (
    80 ∷ 86 ∷ 87 ∷ 49 ∷ 2 ∷ 0 ∷ 0 ∷ 0 ∷ 2 ∷ 0 ∷ 0 ∷ 0 ∷ 0 ∷ 0 ∷ 0 ∷ 0 ∷ 0 ∷ 0 ∷ 0 ∷ 0 ∷ 0 ∷ 0 ∷ 0 ∷ 0 ∷
    1 ∷ 0 ∷ 0 ∷ 0 ∷ 0 ∷ 0 ∷ 0 ∷ 0 ∷ 1 ∷ 0 ∷ 0 ∷ 0 ∷ 0 ∷ 0 ∷ 0 ∷ 0 ∷ 1 ∷ 0 ∷ 0 ∷ 0 ∷ 0 ∷ 0 ∷ 0 ∷ 0 ∷
    1 ∷ 0 ∷ 0 ∷ 0 ∷ 0 ∷ 0 ∷ 0 ∷ 0 ∷ 254 ∷ 0 ∷ 0 ∷ 0 ∷ 0 ∷ 0 ∷ 0 ∷ 0 ∷ 1 ∷ 0 ∷ 0 ∷ 0 ∷ 0 ∷ 0 ∷ 0 ∷ 0 ∷
    1 ∷ 0 ∷ 0 ∷ 0 ∷ 0 ∷ 0 ∷ 0 ∷ 0 ∷ 2 ∷ 0 ∷ 0 ∷ 0 ∷ 0 ∷ 0 ∷ 0 ∷ 0 ∷ 1 ∷ 0 ∷ 0 ∷ 0 ∷ 0 ∷ 0 ∷ 0 ∷ 0 ∷
    1 ∷ 0 ∷ 0 ∷ 0 ∷ 0 ∷ 0 ∷ 0 ∷ 0 ∷ 1 ∷ 0 ∷ 0 ∷ 0 ∷ 0 ∷ 0 ∷ 0 ∷ 0 ∷ 29 ∷ 0 ∷ 0 ∷ 0 ∷ 0 ∷ 0 ∷ 0 ∷ 0 ∷ [])
unfolding next_state head_of
wide_stream = refl

-- the boxes of a list
long_boxes : map (λ (write : Box3 × List ℕ). write.0) (generated long 2147483647 5)
    ≡ (
    record { begin = negsuc 950 ∷ pos 1099511628055 ∷ pos 73 ∷ []; size = 61 ∷ 14 ∷ 2 ∷ [] } ∷
    record { begin = negsuc 504 ∷ pos 1099511627926 ∷ pos 68 ∷ []; size = 48 ∷ 25 ∷ 9 ∷ [] } ∷
    record { begin = negsuc 779 ∷ pos 1099511628059 ∷ pos 45 ∷ []; size = 53 ∷ 3 ∷ 26 ∷ [] } ∷
    record { begin = negsuc 285 ∷ pos 1099511627989 ∷ pos 3 ∷ []; size = 4 ∷ 53 ∷ 5 ∷ [] } ∷
    record { begin = negsuc 47 ∷ pos 1099511627851 ∷ pos 47 ∷ []; size = 48 ∷ 9 ∷ 12 ∷ [] } ∷ [])
unfolding next_state head_of
long_boxes = refl
