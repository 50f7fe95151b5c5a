use Rattle.std.proofs.Common.{◌≡◌, ℕ, ◌<◌, ◌≤◌, length, map, take, get_or}
use Rattle.cat_model.specs.Limits.{row_limit}
use Rattle.cat_model.specs.View.{Leaf}
use Rattle.cat_commits.specs.writing.Entries.{listed_after}
use Rattle.cat_commits.proofs.writing.listing.entries_next.Given as goal

abbrev pub invariant-loop-leaf : goal.invariant-loop-leaf
invariant-loop-leaf l = record {
  made : l.entries.items ≡ map (listed_after l.earlier l.generation) (take l.leaf-index l.leaves);
  rows : (k : ℕ) (d : Leaf) → k < l.leaf-index → (1 ≤ length (get_or l.leaves k d).live) × (length (get_or l.leaves k d).live ≤ row_limit);
}
