use Rattle.std.proofs.Common.{◌≡◌, take}
use Rattle.std.specs.Prelude.{All, map}
use Rattle.cat_directory.specs.Frames.{OnlyReads}
use Rattle.cat_check.specs.Judged.{IsJudged}
use Rattle.cat_check.specs.declared.report.Report.{Report}
use Rattle.cat_check.proofs.checked.reports_of.Given as goal

abbrev pub invariant-loop-generation : goal.invariant-loop-generation
invariant-loop-generation g l = record {
  each : map (λ (r : Report). r.generation) l.reports.items ≡ take l.generation-index l.generations;
  judged : All (λ r. IsJudged (g.S.Holder.bytes l.fn.shelf) (g.S.Holder.can_fail l.fn.shelf) r.generation r.verdict) l.reports.items;
  frame : OnlyReads g.S.Holder.bytes g.S.Holder.may_leave g.S.Holder.can_fail l.fn.shelf l.shelf;
}
