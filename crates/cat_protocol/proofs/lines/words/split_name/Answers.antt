use Rattle.std.proofs.Common.{subst, sym, ◌∙◌}
use Rattle.cat_protocol.specs.lines.Words.{HasNoSpace}
use Rattle.cat_protocol.proofs.lines.WordsSplit.{space_within, one_split, name_no_space}
use Rattle.cat_protocol.proofs.lines.words.split_name.Goals as goal

pub returns-in_err-word-clause-none : goal.returns-in_err-word-clause-none
returns-in_err-word-clause-none c = rw c.from_residual.ensures (λ name rest form e. space_within _ rest (subst HasNoSpace e c.in_err-word.ensures.none))

pub returns-in_err-name-clause-none : goal.returns-in_err-name-clause-none
returns-in_err-name-clause-none c = rw c.from_residual-in_err-name.ensures (λ name rest form e.
    let word = c.in_ok-word.ensures in
    let split = one_split _ name _ rest word.first (name_no_space name form) (sym word.found ∙ e) in
    c.in_err-name.ensures.none name form split.0)
