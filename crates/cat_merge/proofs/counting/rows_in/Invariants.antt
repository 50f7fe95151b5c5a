use Rattle.std.proofs.Common.{◌≡◌, length, take}
use Rattle.cat_model.specs.Merged.{rows_of_all}
use Rattle.cat_merge.specs.Walk.{AreInputs}
use Rattle.cat_merge.proofs.counting.rows_in.Given as goal

abbrev pub invariant-loop-input : goal.invariant-loop-input
invariant-loop-input l = record {
  rows : l.rows ≡ length (rows_of_all (take l.input-index l.inputs));
  inputs : AreInputs (take l.input-index l.inputs);
}
