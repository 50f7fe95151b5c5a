use Rattle.cat_directory.specs.Frames.{OnlyReads}
use Rattle.cat_check.proofs.look.look_at_segments.Given as goal

abbrev pub invariant-loop-listed : goal.invariant-loop-listed
invariant-loop-listed g l = OnlyReads g.S.Holder.bytes g.S.Holder.may_leave g.S.Holder.can_fail l.fn.shelf l.shelf
