-- The line that only `update` tells (this project's). A line is a text and a line feed.
use Rattle.std.specs.Prelude.{ℕ, List, [], ◌∷◌, codes}
use Rattle.std.specs.Fmt.{decimal}
use Rattle.vol_base.specs.FaultTexts.{fault_text, texts}
use Rattle.vol_base.specs.declared.faults.Fault.{Fault}
use Rattle.vol_shell.specs.Lines.{line_feed}

-- a shard with a fault, and the minishard that has it
abbrev pub shard_line : ℕ → ℕ → Fault → List ℕ
shard_line shard minishard fault = texts (codes "shard " ∷ decimal shard ∷ codes " " ∷ decimal minishard
    ∷ codes ": " ∷ fault_text fault ∷ line_feed ∷ [])
