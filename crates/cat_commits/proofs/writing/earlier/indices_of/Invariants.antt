use Rattle.std.proofs.Common.{◌≡◌, ℕ, nat_eq, take}
use Rattle.std.specs.HashMap.{get}
use Rattle.cat_commits.specs.writing.Entries.{index_of}
use Rattle.cat_commits.proofs.writing.earlier.indices_of.Given as goal

abbrev pub invariant-loop-index : goal.invariant-loop-index
invariant-loop-index l = (n : ℕ) → get nat_eq l.indices n ≡ index_of n (take l.index l.entries)
