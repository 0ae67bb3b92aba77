-- The line that only `reshard` tells (this project's). A line is a text and a line feed.
use Rattle.std.specs.Prelude.{ℕ, List, [], ◌∷◌, codes}
use Rattle.vol_base.specs.FaultTexts.{texts}
use Rattle.vol_shell.specs.Lines.{line_feed}

-- two scales that aren't of one volume: the first item in which they differ
abbrev pub differs_line : List ℕ → List ℕ
differs_line item = texts (codes "differs " ∷ item ∷ line_feed ∷ [])
