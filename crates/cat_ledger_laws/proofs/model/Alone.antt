-- The number of a merge in the making is no other user's.
use Rattle.std.proofs.Common.{ℕ, ◌<◌, List, Option, Some, None, arith}
use Rattle.std.specs.List.{AllByRecursion}
use Rattle.cat_model.specs.Files.{Name}
use Rattle.cat_model.proofs.Lists.{All-each}
use Rattle.cat_ledger_laws.specs.model.Portions.{Portion, Merging}
use Rattle.cat_ledger_laws.specs.model.Ledger.{RecordedView, LedgerCommit, names_of_merging, IsPast, IsOther, NotOf, IsAlone}

-- where no merge is in the making
pub nobody_alone : (ps : List Portion) (vs : List RecordedView) (cs : List LedgerCommit) → IsAlone None ps vs cs
nobody_alone ps vs cs = record { portions = All-each (NotOf None) (λ q. tt) _; views = All-each (NotOf None) (λ q. tt) _; commits = All-each (NotOf None) (λ q. tt) _ }

-- a name that is past has not the number that is taken next
pub past_other : (n g : ℕ) (q : Name) → IsPast n g q → IsOther n q
past_other n g (Name.segment m) p = λ e. omega (arith, p.1, e)
past_other n g (Name.source m) p = λ e. omega (arith, p.1, e)
past_other n g (Name.live m d) p = λ e. let less : m < n = p.0.1 in omega (arith, e)
past_other n g (Name.commit d) p = tt

-- and the merge in the making has not that number
pub fresh_apart : (n g : ℕ) (o : Option Merging) → AllByRecursion (IsPast n g) (names_of_merging o) → NotOf o (Name.segment n)
fresh_apart n g None a = tt
fresh_apart n g (Some m) a = λ e. let less : m.number < n = a.0.1 in omega (arith, e)

pub source_apart : (o : Option Merging) (n : ℕ) → NotOf o (Name.segment n) → NotOf o (Name.source n)
source_apart None n h = tt
source_apart (Some m) n h = h
