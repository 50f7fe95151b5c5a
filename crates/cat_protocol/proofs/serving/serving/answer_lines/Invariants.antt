-- The lines so far, with those that the rest ends, are all of them.
use Rattle.std.proofs.Common.{◌≡◌, List, ◌++◌, ◌≤◌, length, take, map, vec_capacity}
use Rattle.std.specs.Prelude.{Option, Ok}
use Rattle.cat_model.specs.Text.{Text}
use Rattle.cat_model.specs.Input.{ended_after, rest_after}
use Rattle.cat_protocol.specs.serving.Machine.{short_line}
use Rattle.cat_protocol.specs.declared.serving.machine.Stage.TheVariants.{Open}
use Rattle.cat_protocol.specs.serving.Serving.{Says, ServesLines}
use Rattle.cat_protocol.proofs.serving.serving.answer_lines.Given as goal

abbrev pub invariant-lines : goal.invariant-lines
invariant-lines g l = record {
  room : 10002 ≤ vec_capacity l.gathered;
  short : length l.gathered.items ≤ 10002;
  done : List (Option Text);
  served : ServesLines (Says g.M.Machine.opens g.M.Machine.step g.M.Machine.token) (Open l.fn.machine) done (Open l.machine) (g.W.Write.contents l.fn.to) (g.W.Write.contents l.to) (Ok tt);
  whole : done ++ map short_line (ended_after l.gathered.items l.rest) ≡ map short_line (ended_after l.fn.gathered.items l.fn.bytes);
  left : take 10002 (rest_after l.gathered.items l.rest) ≡ take 10002 (rest_after l.fn.gathered.items l.fn.bytes);
}

abbrev pub decreases-lines : goal.decreases-lines
decreases-lines g l = length l.rest
