use Rattle.std.proofs.lemmas.List.{take_all, take_more}
use Rattle.std.proofs.Common.{ℕ, List, [], ◌∷◌, ◌++◌, sym, ap₂, ◌∙◌}
use Rattle.std.proofs.lemmas.Result.{IfOk-from_err}
use Rattle.cat_merge.proofs.word_column.copied.Goals as goal

pub loop-text-init : goal.loop-text-init
loop-text-init c = c.in_ok-copies.ensures.items

pub loop-text-preserved : goal.loop-text-preserved
loop-text-preserved c =
    c.in_ok-push.ensures.items
    ∙ ap₂ (λ (l : List (List ℕ)) (x : List ℕ). l ++ x ∷ []) c.loop-text.invariant (c.in_ok-copy.ensures.ok ∙ c.text-item.is)
    ∙ sym (take_more c.args.texts.now c.loop-text.text-index c.text-item.result c.loop-text-test.true)

pub returns : goal.returns
returns c = record { ok = c.loop-text.invariant ∙ take_all c.loop-text.text-index c.args.texts.now c.loop-text-test.false }

pub returns-in_err-copies : goal.returns-in_err-copies
returns-in_err-copies c = record { ok = IfOk-from_err _ _ c.from_residual.ensures.0 }

pub returns-in_err-copy : goal.returns-in_err-copy
returns-in_err-copy c = record { ok = IfOk-from_err _ _ c.from_residual-in_err-copy.ensures.0 }

pub returns-in_err-push : goal.returns-in_err-push
returns-in_err-push c = record { ok = IfOk-from_err _ _ c.from_residual-in_err-push.ensures.0 }
