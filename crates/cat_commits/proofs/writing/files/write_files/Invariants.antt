use Rattle.std.proofs.Common.{◌≡◌}
use Rattle.cat_commits.specs.writing.NewFiles.{names_of, NoMoreBut}
use Rattle.cat_commits.proofs.writing.Writing.{Progress}
use Rattle.cat_commits.proofs.writing.files.write_files.Given as goal

abbrev pub invariant-loop-file : goal.invariant-loop-file
invariant-loop-file g l = record {
  progress : Progress l.files l.file-index (g.D.Holder.bytes l.fn.device) (g.D.Holder.bytes l.device);
  crash : NoMoreBut (names_of l.files) (g.D.Holder.may_leave l.fn.device) (g.D.Holder.may_leave l.device);
  can : g.D.Holder.can_fail l.device → g.D.Holder.can_fail l.fn.device;
  count : g.D.Holder.fault_count l.device ≡ g.D.Holder.fault_count l.fn.device;
}
