use Rattle.std.proofs.Common.{◌≡◌, take}
use Rattle.cat_directory.specs.Frames.{OnlyReads}
use Rattle.cat_ledger_laws.specs.model.Opening.{AreLeavesOf}
use Rattle.cat_ledger_laws.specs.shape.OpeningLaws.{MayHold}
use Rattle.cat_commits.proofs.reading.leaves.read_leaves.Given as goal

abbrev pub invariant-loop-segment : goal.invariant-loop-segment
invariant-loop-segment g l = record {
  read : AreLeavesOf (MayHold (g.S.Holder.bytes l.fn.shelf)) l.schema (take l.segment-index l.listed) l.leaves.items;
  frame : OnlyReads g.S.Holder.bytes g.S.Holder.may_leave g.S.Holder.can_fail l.fn.shelf l.shelf;
  count : g.S.Holder.fault_count l.shelf ≡ g.S.Holder.fault_count l.fn.shelf;
}
