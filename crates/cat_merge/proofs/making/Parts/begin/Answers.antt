use Rattle.std.proofs.lemmas.Result.{IfOk-from_err}
use Rattle.cat_merge.proofs.making.Parts.begin.Goals as goal

pub returns-in_err-row_maps : goal.returns-in_err-row_maps
returns-in_err-row_maps c = record { ok = IfOk-from_err _ _ c.from_residual.ensures.0 }
