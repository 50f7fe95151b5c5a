use Rattle.std.proofs.Common.{◌≡◌, map, take}
use Rattle.cat_ledger_laws.specs.shape.Shapes.{ListedLive}
use Rattle.cat_commits.proofs.writing.listing.segments_of.Given as goal

abbrev pub invariant-loop-entry : goal.invariant-loop-entry
invariant-loop-entry l = l.segments.items ≡ map (λ (x : ListedLive). record { number = x.number; file = x.file }) (take l.entry-index l.entries)
