use Rattle.std.proofs.Common.{◌≡◌, length, map, take}
use Rattle.std.specs.Prelude.{sum}
use Rattle.std.specs.List.{flat_map}
use Rattle.cat_directory.specs.Frames.{OnlyReads}
use Rattle.cat_merge.specs.Copied.{bytes_in}
use Rattle.cat_merge.specs.declared.sources.SourceRange.{SourceRange}
use Rattle.cat_merge.specs.files.Sources.{sources_told, TellsAll}
use Rattle.cat_merge.proofs.files.sources.read_ranges.Given as goal

abbrev pub invariant-loop-range : goal.invariant-loop-range
invariant-loop-range g l = record {
  read : TellsAll (g.S.Holder.bytes l.fn.shelf) → l.bytes.items ≡ flat_map (bytes_in (sources_told (g.S.Holder.bytes l.fn.shelf))) (take l.range-index l.ranges);
  long : length l.bytes.items ≡ sum (map (λ (r : SourceRange). r.len) (take l.range-index l.ranges));
  frame : OnlyReads g.S.Holder.bytes g.S.Holder.may_leave g.S.Holder.can_fail l.fn.shelf l.shelf;
  count : g.S.Holder.fault_count l.shelf ≡ g.S.Holder.fault_count l.fn.shelf;
}
