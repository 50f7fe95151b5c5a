use Rattle.std.proofs.Common.{◌≡◌, ◌+◌, length}
use Rattle.indexmap.specs.IndexMap.{values}
use Rattle.cat_live_table.specs.buffer.Buffered.{sources_of}
use Rattle.cat_live_table.proofs.buffer.buffer.source_bytes.Given as goal

-- the bytes so far and those of what is left
abbrev pub invariant-loop-record : goal.invariant-loop-record
invariant-loop-record l = l.bytes + length (sources_of l.record-iterator) ≡ length (sources_of (values l.entries))
