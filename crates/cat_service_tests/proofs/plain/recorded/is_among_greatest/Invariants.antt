use Rattle.std.proofs.Common.{◌≡◌, ◌≤◌, take, ltb}
use Rattle.std.specs.Prelude.{count_by}
use Rattle.cat_service_tests.proofs.plain.recorded.is_among_greatest.Given as goal

abbrev pub invariant-loop-other : goal.invariant-loop-other
invariant-loop-other l = record {
  few : l.greater ≤ l.other-index;
  counted : l.greater ≡ count_by (λ u. ltb l.token u) (take l.other-index l.tokens);
}
