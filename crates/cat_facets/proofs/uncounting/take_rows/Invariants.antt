use Rattle.std.proofs.Common.{◌≡◌, ℕ, ◌+◌, ◌<◌, ◌++◌, [], length, get_or, map}
use Rattle.cat_model.specs.Ordinals.{text_at}
use Rattle.cat_model.specs.RowSets.{indices}
use Rattle.cat_facets.specs.Tallies.{label_count, labelled_count}
use Rattle.cat_facets.proofs.uncounting.take_rows.Given as goal

abbrev pub invariant-loop-row : goal.invariant-loop-row
invariant-loop-row l = record {
  can : (goal.iterator-loop-row).can_next l.row-iterator;
  finite : (goal.iterator-loop-row).is_finite l.row-iterator;
  rows : l.yielded ++ l.row-iterator ≡ indices l.rows;
  counts : (g : ℕ) → g < length l.labels → get_or l.initial.totals g 0 ≡ get_or l.totals g 0 + label_count (text_at l.labels g) (map (λ r. get_or l.column r []) l.yielded);
  labelled : l.labelled ≡ labelled_count (map (λ r. get_or l.column r []) l.yielded);
}
