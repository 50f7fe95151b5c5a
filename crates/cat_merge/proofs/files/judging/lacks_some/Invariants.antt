use Rattle.std.proofs.Common.{◌≡◌, take}
use Rattle.std.specs.Prelude.{All}
use Rattle.cat_directory.specs.Frames.{OnlyReads}
use Rattle.cat_merge.specs.files.Sources.{MayReachRange}
use Rattle.cat_merge.proofs.files.judging.lacks_some.Given as goal

abbrev pub invariant-loop-range : goal.invariant-loop-range
invariant-loop-range g l = record {
  reached : All (MayReachRange (g.S.Holder.bytes l.fn.shelf)) (take l.range-index l.ranges);
  frame : OnlyReads g.S.Holder.bytes g.S.Holder.may_leave g.S.Holder.can_fail l.fn.shelf l.shelf;
  count : g.S.Holder.fault_count l.shelf ≡ g.S.Holder.fault_count l.fn.shelf;
}
