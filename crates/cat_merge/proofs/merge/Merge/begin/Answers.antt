use Rattle.std.proofs.lemmas.Result.{IfOk-from_err}
use Rattle.std.proofs.Common.{◌≤◌, List, length, sym, subst, arith}
use Rattle.std.specs.List.{flat_map}
use Rattle.cat_model.specs.Limits.{row_limit}
use Rattle.cat_model.specs.View.{Leaf, live_rows}
use Rattle.cat_merge.proofs.Passed.{live_few}
use Rattle.cat_merge.proofs.merge.Merge.begin.Goals as goal

pub begin-requires-clause-few : goal.begin-requires-clause-few
begin-requires-clause-few c =
    subst (λ (l : List Leaf). length (flat_map live_rows l) ≤ row_limit) (sym c.deref-2.ensures.value) (omega (arith, live_few c.args.inputs.items, c.requires.few))

pub returns-in_err-parts : goal.returns-in_err-parts
returns-in_err-parts c = record { ok = IfOk-from_err _ _ c.from_residual.ensures.0 }

pub returns-in_err-copy : goal.returns-in_err-copy
returns-in_err-copy c = record { ok = IfOk-from_err _ _ c.from_residual-in_err-copy.ensures.0 }
