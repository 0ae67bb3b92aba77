-- The line of what was written (this project's).
use Rattle.vol_spec.specs.Types.{Bytes}
use Rattle.shard_writer.specs.declared.written.Written.{Written}
use Rattle.command_base.specs.Lines.{written_line}

-- how many objects were put, and how many cells they hold
abbrev pub count_line : Written → Bytes
count_line written = written_line written.objects written.cells
