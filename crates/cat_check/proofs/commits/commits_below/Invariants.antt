use Rattle.std.proofs.Common.{◌≡◌, take}
use Rattle.cat_check.proofs.Older.{generations_below}
use Rattle.cat_check.proofs.commits.commits_below.Given as goal

abbrev pub invariant-loop-name : goal.invariant-loop-name
invariant-loop-name l = l.generations.items ≡ generations_below l.bound (take l.name-index l.names)
