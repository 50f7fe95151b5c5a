use Rattle.std.proofs.Common.{◌≡◌, ◌∷◌, get_or, take}
use Rattle.std.specs.List.Sorted.{IsStrictlyIncreasing}
use Rattle.std.specs.Prelude.{All}
use Rattle.cat_model.specs.Layout.{pieces}
use Rattle.cat_columns.proofs.sets.rows_rise.Given as goal

abbrev pub invariant-loop-end : goal.invariant-loop-end
invariant-loop-end l = record {
  from : l.from ≡ get_or (0 ∷ l.ends) l.end-index 0;
  rise : All IsStrictlyIncreasing (take l.end-index (pieces 0 l.ends l.ordinals));
}
