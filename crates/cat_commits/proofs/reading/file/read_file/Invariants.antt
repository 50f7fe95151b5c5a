use Rattle.std.proofs.Common.{◌≡◌, ◌≢◌, ◌-◌, ◌≤◌, List, ℕ, length, take, Some, None}
use Rattle.cat_directory.specs.Frames.{OnlyReads}
use Rattle.cat_commits.proofs.reading.file.read_file.Given as goal

abbrev pub decreases-loop-alloc : goal.decreases-loop-alloc
decreases-loop-alloc g l = l.size - length l.bytes.items

abbrev pub invariant-loop-alloc : goal.invariant-loop-alloc
invariant-loop-alloc g l = record {
  within : length l.bytes.items ≤ l.size;
  there : g.S.Holder.bytes l.fn.shelf l.name ≢ Some None;
  told : (bs : List ℕ) → g.S.Holder.bytes l.fn.shelf l.name ≡ Some (Some bs) → l.bytes.items ≡ take (length l.bytes.items) bs;
  all : (bs : List ℕ) → g.S.Holder.bytes l.fn.shelf l.name ≡ Some (Some bs) → l.size ≡ length bs;
  frame : OnlyReads g.S.Holder.bytes g.S.Holder.may_leave g.S.Holder.can_fail l.fn.shelf l.shelf;
  count : g.S.Holder.fault_count l.shelf ≡ g.S.Holder.fault_count l.fn.shelf;
}
