use Rattle.std.proofs.Common.{◌≡◌, take}
use Rattle.cat_ledger_laws.specs.shape.OpeningLaws.{listed_with}
use Rattle.cat_commits.proofs.writing.listing.entries_of.Given as goal

abbrev pub invariant-loop-index : goal.invariant-loop-index
invariant-loop-index l = l.entries.items ≡ listed_with (take l.index l.segments) (take l.index l.leaves)
