-- The text of a box, as it is printed, and as it is read (this project's).
use Rattle.std.specs.Prelude.{ℕ, ℤ, List, [], ◌∷◌, codes}
use Rattle.std.specs.Fmt.{signed_decimal}
use Rattle.vol_base.specs.declared.boxes.Box3.{Box3}
use Rattle.vol_base.specs.Boxes.{at, end}
use Rattle.vol_base.specs.FaultTexts.{texts}

-- from one coordinate up to another
abbrev pub span_text : ℤ → ℤ → List ℕ
span_text low high = texts (signed_decimal low ∷ codes ":" ∷ signed_decimal high ∷ [])

-- the two ends of a box on an axis
abbrev pub ends_text : Box3 → ℕ → List ℕ
ends_text b axis = span_text (at b.begin axis) (end b axis)

-- as `[0:5,-3:4,0:1]`
abbrev pub box_text : Box3 → List ℕ
box_text b = texts (codes "[" ∷ ends_text b 0 ∷ codes "," ∷ ends_text b 1 ∷ codes "," ∷ ends_text b 2
    ∷ codes "]" ∷ [])
