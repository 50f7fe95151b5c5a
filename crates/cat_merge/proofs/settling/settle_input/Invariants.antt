use Rattle.std.proofs.Common.{◌≡◌, ◌+◌, ◌-◌, ◌++◌, true, length, take, replicate}
use Rattle.cat_model.specs.View.{selected}
use Rattle.cat_merge.proofs.settling.settle_input.Given as goal

abbrev pub invariant-loop-row : goal.invariant-loop-row
invariant-loop-row l = record {
  next : l.next ≡ l.first + length (selected (take l.row l.before) (take l.row l.now));
  live : l.live ≡ take l.first l.initial.live ++ (selected (take l.row l.before) (take l.row l.now) ++ replicate (length l.initial.live - l.next) true);
}
