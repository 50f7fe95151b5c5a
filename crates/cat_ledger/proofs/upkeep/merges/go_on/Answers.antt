use Rattle.std.proofs.lemmas.Bool.{iff_false}
use Rattle.cat_ledger_state.proofs.Merging.{none_to_copy}
use Rattle.cat_ledger.proofs.Failures.{fails_as, fails_or}
use Rattle.cat_ledger.proofs.upkeep.merges.go_on.Goals as goal

pub returns-in-Ok-clause-fails : goal.returns-in-Ok-clause-fails
returns-in-Ok-clause-fails g c = fails_as _ _ (λ P no. no) c.in-Ok.ensures.fails

pub returns-in-Err-clause-fails : goal.returns-in-Err-clause-fails
returns-in-Err-clause-fails g c = fails_as _ _ (λ P no. no) c.in-Err.ensures.fails

pub returns-in-Ok-finish-clause-fails : goal.returns-in-Ok-finish-clause-fails
returns-in-Ok-finish-clause-fails g c = fails_or _ (fails_as _ _ (λ P no. no) c.in-Ok-finish.ensures.fails)

pub returns-in-Err-finish-clause-fails : goal.returns-in-Err-finish-clause-fails
returns-in-Err-finish-clause-fails g c = fails_or _ (fails_as _ _ (λ P no. no) c.in-Err-finish.ensures.fails)

pub returns-in-Err-finish-clause-reach : goal.returns-in-Err-finish-clause-reach
returns-in-Err-finish-clause-reach g c = λ memory.
    none_to_copy (g.D.Holder.bytes c.args.device.now) c.args.core.now.merging (iff_false c.has_rows_left.ensures c.if-has_rows_left.false)
