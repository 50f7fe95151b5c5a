use Rattle.std.proofs.Common.{subst, sym, ◌∙◌, arith}
use Rattle.std.specs.Fmt.{decimal}
use Rattle.cat_protocol.specs.lines.Words.{HasNoSpace}
use Rattle.cat_protocol.proofs.lines.WordsSplit.{space_within, one_split, decimal_no_space}
use Rattle.cat_protocol.proofs.lines.words.split_number.Goals as goal

pub returns-in_err-word-clause-none : goal.returns-in_err-word-clause-none
returns-in_err-word-clause-none c = rw c.from_residual.ensures (λ n rest small e. space_within _ rest (subst HasNoSpace e c.in_err-word.ensures.none))

pub returns-in_err-n-clause-none : goal.returns-in_err-n-clause-none
returns-in_err-n-clause-none c = rw c.from_residual-in_err-n.ensures (λ n rest small e.
    let word = c.in_ok-word.ensures in
    let split = one_split _ (decimal n) _ rest word.first (decimal_no_space n (omega arith)) (sym word.found ∙ e) in
    c.in_err-n.ensures.none n small split.0)
