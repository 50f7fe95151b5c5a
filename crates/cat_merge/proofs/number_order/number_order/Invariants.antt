use Rattle.cat_views.specs.cat_segment.Index.{AreAllRows}
use Rattle.cat_merge.specs.IdRuns.{count_before}
use Rattle.cat_merge.proofs.number_order.number_order.Given as goal

abbrev pub invariant-loop-place : goal.invariant-loop-place
invariant-loop-place l = AreAllRows (count_before l.inputs l.place) l.order.items
