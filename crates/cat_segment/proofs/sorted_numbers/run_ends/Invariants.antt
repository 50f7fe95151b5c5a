use Rattle.std.proofs.Common.{◌≡◌}
use Rattle.cat_segment.specs.NumberRuns.{number_at_place}
use Rattle.cat_segment.proofs.RunEnds.{EndsBefore}
use Rattle.cat_segment.proofs.sorted_numbers.run_ends.Given as goal

abbrev pub invariant-loop-place : goal.invariant-loop-place
invariant-loop-place l = EndsBefore l.column l.rows l.ends l.place × (l.number ≡ number_at_place l.column l.rows l.place)
