use Rattle.std.proofs.Common.{drop}
use Rattle.cat_merge.specs.Runs.{IsMergeRun, IsFirstFrom}
use Rattle.cat_merge.proofs.policy.window.Given as goal

-- the run from this index on, and what comes first from there
abbrev pub invariant-loop-index : goal.invariant-loop-index
invariant-loop-index l = record {
  run : IsMergeRun l.fn.factor l.fn.minimum (drop l.index l.fn.sizes) l.run;
  first : IsFirstFrom l.fn.factor l.fn.minimum l.fn.sizes l.index l.first;
}
