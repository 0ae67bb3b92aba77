-- The line that `generate` prints (this project's).
use Rattle.std.specs.Prelude.{ℕ, List, [], ◌∷◌, codes}
use Rattle.std.specs.Fmt.{decimal}
use Rattle.vol_base.specs.FaultTexts.{texts}
use Rattle.vol_shell.specs.Lines.{line_feed}

-- what `generate` prints: of how many writes, how many objects of how many bytes together, and the sum of the values
abbrev pub generated_line : ℕ → ℕ → ℕ → ℕ → List ℕ
generated_line writes objects bytes sum =
    texts (codes "writes " ∷ decimal writes ∷ codes " objects " ∷ decimal objects ∷ codes " bytes "
    ∷ decimal bytes ∷ codes " sum " ∷ decimal sum ∷ line_feed ∷ [])
