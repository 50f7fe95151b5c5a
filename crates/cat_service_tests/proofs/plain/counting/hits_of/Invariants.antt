use Rattle.std.proofs.Common.{◌≡◌, take}
use Rattle.std.specs.List.{filter}
use Rattle.cat_model.specs.Query.{matches}
use Rattle.cat_search.specs.cat_query.View.{query_of}
use Rattle.cat_service_tests.proofs.plain.counting.hits_of.Given as goal

abbrev pub invariant-loop-record : goal.invariant-loop-record
invariant-loop-record l = l.found.items ≡ filter (λ r. matches (query_of l.query) r.item) (take l.record-index l.records)
