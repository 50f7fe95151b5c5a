use Rattle.std.proofs.Common.{◌≡◌, take}
use Rattle.cat_service_tests.proofs.plain.tables.copy_records.Given as goal

abbrev pub invariant-loop-record : goal.invariant-loop-record
invariant-loop-record l = l.copies.items ≡ take l.record-index l.records
