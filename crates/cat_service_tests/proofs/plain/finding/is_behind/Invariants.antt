use Rattle.std.proofs.Common.{◌≡◌, take, false}
use Rattle.std.specs.List.{list_any}
use Rattle.std.specs.Prelude.{◌==◌, ◌&&◌}
use Rattle.cat_model.specs.Page.{before}
use Rattle.cat_search.specs.Sorts.{sort_of}
use Rattle.cat_service_tests.proofs.plain.finding.is_behind.Given as goal

abbrev pub invariant-loop-record : goal.invariant-loop-record
invariant-loop-record l = list_any (λ m. (m.number == l.mark) && before (sort_of l.sort) m l.hit) (take l.record-index l.records) ≡ false
