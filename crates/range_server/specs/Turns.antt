-- What comes behind a request of a connection (this project's).
use Rattle.std.specs.Prelude.{ℕ}
use Rattle.range_server.specs.declared.conn.Turn.{Turn}
use Rattle.range_server.specs.declared.conn.Turn.TheVariants.{End, Next}
use Rattle.range_server.specs.declared.reply.Ending.{Ending}

-- of the bytes that stand in front, where the connection goes on
abbrev pub IfNext : Turn → (ℕ → Type 0) → Type 0
IfNext (Next len) P = P len
IfNext (End how) P = Unit {0}

-- of how it ended, where it did
abbrev pub IfEnd : Turn → (Ending → Type 0) → Type 0
IfEnd (Next len) P = Unit {0}
IfEnd (End how) P = P how
