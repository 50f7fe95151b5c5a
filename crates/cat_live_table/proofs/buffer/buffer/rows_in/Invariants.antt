use Rattle.std.proofs.Common.{◌≡◌, ◌++◌, map}
use Rattle.indexmap.specs.IndexMap.{values}
use Rattle.cat_views.specs.cat_segment.Fields.{row_record}
use Rattle.cat_live_table.proofs.buffer.buffer.rows_in.Given as goal

-- the rows so far and those of what is left
abbrev pub invariant-loop-record : goal.invariant-loop-record
invariant-loop-record l = map row_record l.rows.items ++ l.record-iterator ≡ values l.entries
