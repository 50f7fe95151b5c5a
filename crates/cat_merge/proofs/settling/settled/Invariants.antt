use Rattle.std.proofs.Common.{◌≡◌, ◌-◌, ◌++◌, true, length, map, replicate}
use Rattle.std.specs.List.{flat_map}
use Rattle.cat_model.specs.View.{live_rows}
use Rattle.cat_merge.proofs.Settled.{settled_of}
use Rattle.cat_merge.proofs.settling.settled.Given as goal

-- the rows kept of the inputs so far are settled, those behind them are live
abbrev pub invariant-loop-index : goal.invariant-loop-index
invariant-loop-index l = record {
  next : l.next ≡ length (settled_of l.inputs (map (λ n. n.now) l.now) l.index);
  live : l.live ≡ settled_of l.inputs (map (λ n. n.now) l.now) l.index ++ replicate (length (flat_map live_rows l.inputs) - l.next) true;
}
