use Rattle.std.proofs.Common.{◌≡◌}
use Rattle.cat_commits.specs.Listings.{all_listed_in}
use Rattle.cat_commits.proofs.listing.segments.Given as goal

abbrev pub invariant-loop-index : goal.invariant-loop-index
invariant-loop-index l = l.segments.items ≡ all_listed_in l.index l.listing
