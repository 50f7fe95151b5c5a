-- A set of rows in the making.
use Rattle.std.specs.Prelude.{◌≡◌, ℕ, ◌+◌, ◌<◌, ◌≤◌, length, map}
use Rattle.cat_model.specs.Query as model
use Rattle.cat_model.specs.View.{Segment, row_matches}
use Rattle.cat_cached_sets.specs.declared.cache.warm.Warming.{Warming}
use Rattle.cat_model.specs.Limits.{step_limit}

-- the set of the segment's rows that the query matches, of which so many rows are passed
pub record Warm : Type 0 where
  pub segment : Segment
  pub query : model.Query
  pub passed : ℕ

-- A step passes 256 rows where there are more. Else it passes all that are left, and answers the set: of each row, whether the query matches it.
abbrev pub IsWarmStep : Warm → Warm → Warming → Type 0
IsWarmStep old new (Warming.Passed n) = record {
  rows : n ≡ old.passed + step_limit;
  left : n < length old.segment.rows;
  new : new ≡ record old { passed = n };
}
IsWarmStep old new (Warming.Made set) = record {
  end : length old.segment.rows ≤ old.passed + step_limit;
  set : set ≡ map (row_matches old.query) old.segment.rows;
  new : new ≡ record old { passed = length old.segment.rows };
}
