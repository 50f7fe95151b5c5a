use Rattle.std.proofs.Common.{nat_eq}
use Rattle.std.specs.HashSet.{contains}
use Rattle.cat_commits.proofs.Listings.{Hashed}
use Rattle.cat_commits.proofs.listing.numbers_differ_by_hash.Given as goal

abbrev pub invariant-loop-index : goal.invariant-loop-index
invariant-loop-index l = Hashed l.listing l.index (contains nat_eq l.seen)
