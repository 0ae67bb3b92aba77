-- The line of a stream with a fault (this project's).
use Rattle.std.specs.Prelude.{ℕ, List, [], ◌∷◌}
use Rattle.vol_base.specs.FaultTexts.{texts}
use Rattle.vol_shell.specs.Lines.{line_feed}
use Rattle.write_plan.specs.StreamTexts.{stream_text}
use Rattle.write_plan.specs.declared.fault.PlanFault.{PlanFault}

-- a stream of writes with a fault
abbrev pub stream_line : PlanFault → List ℕ
stream_line fault = texts (stream_text fault ∷ line_feed ∷ [])
