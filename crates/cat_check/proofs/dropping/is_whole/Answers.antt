use Rattle.cat_check.specs.Judged.{IsLost}
use Rattle.cat_check.proofs.Agreeing.{lost_if_torn}
use Rattle.cat_commits.proofs.Frames.{so_before}
use Rattle.cat_check.proofs.dropping.is_whole.Goals as goal

pub returns-in-Err-Damaged-clause-ok : goal.returns-in-Err-Damaged-clause-ok
returns-in-Err-Damaged-clause-ok g c = lost_if_torn (g.S.Holder.bytes c.args.shelf.now) c.args.generation (c.in-Err-Damaged.ensures.torn c.in-Err-Damaged.field-0-is)

pub returns-in-Err-Damaged-open_said-clause-ok : goal.returns-in-Err-Damaged-open_said-clause-ok
returns-in-Err-Damaged-open_said-clause-ok g c =
    so_before (λ t. IsLost t c.args.generation) c.in-Ok.ensures.frame (c.in-Err-Damaged-open_said.ensures.damaged c.in-Err-Damaged-open_said.field-0-is)
