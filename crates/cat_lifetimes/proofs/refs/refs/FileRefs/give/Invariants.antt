use Rattle.std.proofs.Common.{[], take, map}
use Rattle.cat_ledger_laws.specs.model.Users.{Changes}
use Rattle.cat_lifetimes.specs.refs.Counts.{names_in, used_in}
use Rattle.cat_lifetimes.proofs.refs.refs.FileRefs.give.Given as goal

abbrev pub invariant-loop-name : goal.invariant-loop-name
invariant-loop-name l = Changes [] (names_in (take l.name-index l.names)) l.fn.self (map used_in l.self-inside.users.entries)
