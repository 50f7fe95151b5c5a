use Rattle.std.proofs.Common.{ℕ, ◌<◌}
use Rattle.cat_commits.specs.Listings.{DiffersFrom}
use Rattle.cat_commits.proofs.listing.numbers_differ_one_by_one.Given as goal

abbrev pub invariant-loop-index : goal.invariant-loop-index
invariant-loop-index l = (j : ℕ) → j < l.index → DiffersFrom l.listing j
