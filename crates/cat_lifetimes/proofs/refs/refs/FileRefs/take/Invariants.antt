use Rattle.std.proofs.Common.{◌+◌, ◌≤◌, [], length, take, map}
use Rattle.std.specs.HashMap.{spare}
use Rattle.cat_ledger_laws.specs.model.Users.{Changes}
use Rattle.cat_lifetimes.specs.refs.Counts.{names_in, used_in}
use Rattle.cat_lifetimes.proofs.refs.refs.FileRefs.take.Given as goal

abbrev pub invariant-loop-name : goal.invariant-loop-name
invariant-loop-name l = record {
  room : length l.names ≤ spare l.self-inside.users + l.name-index;
  users : Changes (names_in (take l.name-index l.names)) [] l.fn.self (map used_in l.self-inside.users.entries);
}
