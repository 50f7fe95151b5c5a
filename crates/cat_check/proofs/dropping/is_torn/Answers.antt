use Rattle.cat_check.proofs.dropping.is_torn.Goals as goal
use Rattle.cat_check.proofs.dropping.is_torn.Goals.{in-Ok, in-Err-Damaged, in-Err}

pub returns-clause-ok : goal.returns-clause-ok
returns-clause-ok g c =
    elim c.match-read_said.branch [
      | in-Ok w ↦ rw w.result-is (w.in-Ok.field-0, w.in-Ok.ensures.ok)
      | in-Err-Damaged w ↦ rw w.result-is (w.in-Err-Damaged.ensures.torn w.in-Err-Damaged.field-0-is)
      | in-Err w ↦ rw w.result-is tt
    ]
