use Rattle.std.proofs.Common.{◌≡◌, ℕ, ◌<◌, [], get_or}
use Rattle.cat_model.specs.Layout.{pieces}
use Rattle.cat_columns.specs.inverted.Postings.{start_of, IsPart}
use Rattle.cat_columns.proofs.inverted.posted.are_parts.Given as goal

abbrev pub invariant-loop-end : goal.invariant-loop-end
invariant-loop-end l = record {
  start : l.start ≡ start_of 0 l.ends l.end-index;
  parts : (k : ℕ) → k < l.end-index → IsPart l.len (get_or (pieces 0 l.ends l.rows) k []);
}
