use Rattle.std.proofs.Common.{◌≡◌, ◌-◌}
use Rattle.cat_items.specs.file_parts.Reading.{many_at, rest_of}
use Rattle.cat_commits.specs.Layouts.{listed_at}
use Rattle.cat_commits.proofs.listing.pass_segments.Given as goal

abbrev pub invariant-loop : goal.invariant-loop
invariant-loop l = rest_of (many_at (listed_at l.generation l.next) (l.count - l.counter) l.cursor) ≡ rest_of (many_at (listed_at l.generation l.next) l.count l.fn.cursor)
