use Rattle.std.proofs.Common.{subst, sym, ◌∙◌}
use Rattle.cat_model.specs.Lines.{sort_text}
use Rattle.cat_protocol.specs.lines.Words.{HasNoSpace}
use Rattle.cat_protocol.proofs.lines.WordsSplit.{space_within, one_split, sort_no_space}
use Rattle.cat_protocol.proofs.lines.sort.split_sort.Goals as goal

pub returns-in_err-word-clause-none : goal.returns-in_err-word-clause-none
returns-in_err-word-clause-none c = rw c.from_residual.ensures (λ sort rest form e. space_within _ rest (subst HasNoSpace e c.in_err-word.ensures.none))

pub returns-in_err-sort-clause-none : goal.returns-in_err-sort-clause-none
returns-in_err-sort-clause-none c = rw c.from_residual-in_err-sort.ensures (λ sort rest form e.
    let word = c.in_ok-word.ensures in
    let split = one_split _ (sort_text sort) _ rest word.first (sort_no_space sort form) (sym word.found ∙ e) in
    c.in_err-sort.ensures.none sort form split.0)
