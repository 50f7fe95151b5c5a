use Rattle.std.proofs.Common.{◌≡◌, ◌<◌, ◌^◌, ◌++◌, map, length, IsUtf8}
use Rattle.std.specs.Prelude.{All}
use Rattle.cat_model.specs.Words.{lowered, runs}
use Rattle.cat_model.specs.Forms.{IsWord}
use Rattle.cat_items.proofs.analysis.words.Given as goal

abbrev pub invariant-loop-rest : goal.invariant-loop-rest
invariant-loop-rest l = record {
  utf8 : IsUtf8 l.rest;
  short : length l.rest < 2 ^ 32;
  forms : All IsWord l.found.items;
  done : l.found.items ++ map lowered (runs l.rest) ≡ map lowered (runs l.fn.text);
}

abbrev pub decreases-loop-rest : goal.decreases-loop-rest
decreases-loop-rest l = length l.rest
