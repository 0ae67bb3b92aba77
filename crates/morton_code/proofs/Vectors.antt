-- Known codes.
use Rattle.std.proofs.Common.{◌≡◌, refl, length, [], ◌∷◌}
use Rattle.vol_base.specs.Grids.{pairs}
use Rattle.vol_spec.specs.Codes.{code_of}

bits_5_1_3 : length (pairs (5 ∷ 1 ∷ 3 ∷ [])) ≡ 5
unfolding pairs
bits_5_1_3 = refl

code_5_1_3 : code_of (5 ∷ 1 ∷ 3 ∷ []) (4 ∷ 0 ∷ 2 ∷ []) ≡ 24
unfolding pairs
code_5_1_3 = refl

code_3_0_0 : code_of (5 ∷ 1 ∷ 3 ∷ []) (3 ∷ 0 ∷ 0 ∷ []) ≡ 5
unfolding pairs
code_3_0_0 = refl

code_large : code_of (64 ∷ 64 ∷ 16 ∷ []) (1 ∷ 3 ∷ 0 ∷ []) ≡ 19
unfolding pairs
code_large = refl
