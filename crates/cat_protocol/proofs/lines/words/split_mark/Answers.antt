use Rattle.std.proofs.Common.{subst, sym, ◌∙◌}
use Rattle.cat_model.specs.Lines.{mark_text}
use Rattle.cat_protocol.specs.lines.Words.{HasNoSpace}
use Rattle.cat_protocol.proofs.lines.WordsSplit.{space_within, one_split, mark_no_space}
use Rattle.cat_protocol.proofs.lines.words.split_mark.Goals as goal

pub returns-in_err-word-clause-none : goal.returns-in_err-word-clause-none
returns-in_err-word-clause-none c = rw c.from_residual.ensures (λ mark rest form e. space_within _ rest (subst HasNoSpace e c.in_err-word.ensures.none))

pub returns-in_err-mark-clause-none : goal.returns-in_err-mark-clause-none
returns-in_err-mark-clause-none c = rw c.from_residual-in_err-mark.ensures (λ mark rest form e.
    let word = c.in_ok-word.ensures in
    let split = one_split _ (mark_text mark) _ rest word.first (mark_no_space mark form) (sym word.found ∙ e) in
    c.in_err-mark.ensures.none mark form split.0)
