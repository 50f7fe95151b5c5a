use Rattle.std.proofs.Common.{◌≡◌, map, length, IsUtf8, None}
use Rattle.std.specs.Prelude.{option_map}
use Rattle.cat_model.specs.Words.{lowered, runs}
use Rattle.cat_query.proofs.OneWord.{agreed}
use Rattle.cat_query.proofs.runs.only_run.Given as goal

abbrev pub invariant-loop-rest : goal.invariant-loop-rest
invariant-loop-rest l = record {
  utf8 : IsUtf8 l.rest;
  done : agreed (option_map (λ r. lowered r.now) l.found) (map lowered (runs l.rest)) ≡ agreed None (map lowered (runs l.fn.text));
}

abbrev pub decreases-loop-rest : goal.decreases-loop-rest
decreases-loop-rest l = length l.rest
