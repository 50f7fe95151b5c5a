use Rattle.std.proofs.Common.{◌≢◌, ℕ, ◌<◌}
use Rattle.cat_commits.specs.Listings.{listed_segment_at}
use Rattle.cat_commits.proofs.listing.differs_from_earlier.Given as goal

abbrev pub invariant-loop-earlier : goal.invariant-loop-earlier
invariant-loop-earlier l = (i : ℕ) → i < l.earlier → (listed_segment_at l.listing i).number ≢ l.number
