use Rattle.std.proofs.Common.{◌≡◌, ◌≤◌, ◌∷◌, get_or, take}
use Rattle.std.specs.Prelude.{All}
use Rattle.cat_segment.specs.Sources.{lengths_between}
use Rattle.cat_segment.proofs.column_parts.are_few.Given as goal

abbrev pub invariant-loop-end : goal.invariant-loop-end
invariant-loop-end l = record {
  start : l.start ≡ get_or (0 ∷ l.ends) l.end-index 0;
  few : All (λ n. n ≤ 64) (take l.end-index (lengths_between 0 l.ends));
}
