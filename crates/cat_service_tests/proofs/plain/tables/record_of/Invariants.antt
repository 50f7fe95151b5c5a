use Rattle.std.proofs.Common.{◌≡◌, take, find, None}
use Rattle.cat_model.specs.Text.{same_text}
use Rattle.cat_service_tests.proofs.plain.tables.record_of.Given as goal

abbrev pub invariant-loop-record : goal.invariant-loop-record
invariant-loop-record l = find (λ r. same_text r.item.id l.id) (take l.record-index l.records) ≡ None
