use Rattle.cat_directory.specs.Frames.{OnlyReads}
use Rattle.cat_check.proofs.counts.bytes_in.Given as goal

abbrev pub invariant-loop-name : goal.invariant-loop-name
invariant-loop-name g l = OnlyReads g.S.Holder.bytes g.S.Holder.may_leave g.S.Holder.can_fail l.fn.shelf l.shelf
