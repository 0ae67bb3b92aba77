-- Counting cells (this project's).
use Rattle.std.specs.Prelude.{◌+◌, Bool, true, false}
use Rattle.view_judge.specs.declared.report.ViewsReport.{ViewsReport}
use Rattle.verify_cmd.specs.declared.report.Report.{Report}

-- a report with a cell more, whose chunk is stored or absent
abbrev pub counted : Report → Bool → Report
counted report true = record { cells = report.cells + 1; stored = report.stored + 1; absent = report.absent }
counted report false = record { cells = report.cells + 1; stored = report.stored; absent = report.absent + 1 }

-- a report of the first view, with the numbers of the further ones
abbrev pub joined : Report → ViewsReport → Report
joined first others = record {
  cells = first.cells + others.cells;
  stored = first.stored + others.stored;
  absent = first.absent + others.absent;
}
