use Rattle.cat_check.specs.Telling.{unnamed_line}
use Rattle.cat_check.proofs.Pieces.{line_more}
use Rattle.cat_check.proofs.telling.tell_unnamed.Goals as goal

pub loop-name-preserved : goal.loop-name-preserved
loop-name-preserved g c = line_more unnamed_line c.args.names.now c.loop-name.name-index _ _ _ _ c.loop-name-test.true c.loop-name.invariant c.in_ok-writeln.ensures.bytes
