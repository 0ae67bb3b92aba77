-- The line that `serve` prints (this project's). A line is a text and a line feed.
use Rattle.std.specs.Prelude.{ℕ, List, [], ◌∷◌, codes}
use Rattle.std.specs.Fmt.{decimal}
use Rattle.vol_base.specs.FaultTexts.{texts}
use Rattle.vol_shell.specs.Lines.{line_feed}

-- the port where a server listens
abbrev pub listening_line : ℕ → List ℕ
listening_line port = texts (codes "listening " ∷ decimal port ∷ line_feed ∷ [])
