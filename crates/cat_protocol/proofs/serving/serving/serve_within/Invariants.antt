-- The lines that ended in the bytes so far are answered, and what came after the last of them is gathered.
use Rattle.std.proofs.Common.{◌≡◌, [], ◌≤◌, length, take, map, vec_capacity}
use Rattle.std.specs.Prelude.{Ok}
use Rattle.std.specs.Io.KnownBytes.{Consumes}
use Rattle.cat_model.specs.Text.{Text}
use Rattle.cat_model.specs.Input.{ended_lines, rest_after}
use Rattle.cat_protocol.specs.serving.Machine.{short_line}
use Rattle.cat_protocol.specs.serving.Serving.{IsReady, Says, ServesLines}
use Rattle.cat_protocol.specs.declared.serving.machine.Stage.TheVariants.{Waiting}
use Rattle.cat_protocol.proofs.serving.serving.serve_within.Given as goal

abbrev pub invariant-reads : goal.invariant-reads
invariant-reads g l = record {
  ready : IsReady l.stage;
  room : 10002 ≤ vec_capacity l.gathered;
  short : length l.gathered.items ≤ 10002;
  bytes : Text;
  read : Consumes (g.R.Read.remaining l.fn.reader) (g.R.Read.remaining l.reader) bytes;
  served : ServesLines (Says g.M.Machine.opens g.M.Machine.step g.M.Machine.token) (Waiting l.fn.seed) (map short_line (ended_lines bytes)) l.stage
      (g.W.Write.contents l.fn.writer) (g.W.Write.contents l.writer) (Ok tt);
  gathered : take 10002 l.gathered.items ≡ take 10002 (rest_after [] bytes);
}
