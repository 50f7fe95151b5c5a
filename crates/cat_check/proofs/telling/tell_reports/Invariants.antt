use Rattle.std.proofs.Common.{take}
use Rattle.std.specs.Io.KnownBytes.{Appends}
use Rattle.std.specs.List.{flat_map}
use Rattle.cat_check.specs.Telling.{report_text}
use Rattle.cat_check.proofs.telling.tell_reports.Given as goal

abbrev pub invariant-loop-report : goal.invariant-loop-report
invariant-loop-report g l = Appends (g.W.Write.contents l.fn.out) (g.W.Write.contents l.out) (flat_map report_text (take l.report-index l.reports))
