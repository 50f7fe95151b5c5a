use Rattle.std.proofs.Common.{◌≡◌, map}
use Rattle.std.specs.List.{IsDistinct}
use Rattle.std.specs.Map.{keys_of}
use Rattle.cat_directory.specs.Names.{same_name}
use Rattle.cat_lifetimes.specs.refs.Counts.{used_in}
use Rattle.cat_lifetimes.proofs.refs.Sweeps.{Sweeping}
use Rattle.cat_lifetimes.proofs.refs.refs.FileRefs.sweep.Given as goal

abbrev pub invariant-loop-name : goal.invariant-loop-name
invariant-loop-name g l = record {
  sweeping : Sweeping l.fn.self (map used_in l.self-inside.users.entries) l.name-items l.name-index (g.D.Holder.bytes l.fn.directory) (g.D.Holder.bytes l.directory)
      (g.D.Holder.may_leave l.fn.directory) (g.D.Holder.may_leave l.directory);
  once : IsDistinct same_name (keys_of l.self-inside.users.entries);
  faults : g.D.Holder.fault_count l.directory ≡ g.D.Holder.fault_count l.fn.directory;
  can : g.D.Holder.can_fail l.directory → g.D.Holder.can_fail l.fn.directory;
}
