use Rattle.std.proofs.Common.{◌≡◌, ◌+◌}
use Rattle.cat_directory.specs.Frames.{OnlyReads}
use Rattle.cat_merge.specs.Places.{passed_at, IsPlace}
use Rattle.cat_merge.specs.files.Sources.{AreJudged}
use Rattle.cat_merge.proofs.files.judging.lacks_sources.Given as goal

abbrev pub invariant-loop : goal.invariant-loop
invariant-loop g l = record {
  place : IsPlace l.fn.inputs l.place;
  passed : passed_at l.fn.inputs l.place ≡ passed_at l.fn.inputs l.fn.from + l.counter;
  judged : AreJudged (g.S.Holder.bytes l.fn.shelf) l.fn.inputs (passed_at l.fn.inputs l.fn.from) (passed_at l.fn.inputs l.place) l.lacking;
  frame : OnlyReads g.S.Holder.bytes g.S.Holder.may_leave g.S.Holder.can_fail l.fn.shelf l.shelf;
  count : g.S.Holder.fault_count l.shelf ≡ g.S.Holder.fault_count l.fn.shelf;
}
