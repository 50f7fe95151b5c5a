use Rattle.std.proofs.Common.{◌≡◌, ◌++◌}
use Rattle.indexmap.specs.IndexMap.{values}
use Rattle.cat_live_table.specs.buffer.Buffered.{sources_of}
use Rattle.cat_live_table.proofs.buffer.buffer.sources_in.Given as goal

-- the texts so far and those of what is left
abbrev pub invariant-loop-record : goal.invariant-loop-record
invariant-loop-record l = l.sources.items ++ sources_of l.record-iterator ≡ sources_of (values l.entries)
