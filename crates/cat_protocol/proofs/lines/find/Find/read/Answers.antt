use Rattle.std.proofs.Common.{sym, ◌∙◌}
use Rattle.cat_protocol.proofs.lines.WordsSplit.{one_number, one_sort}
use Rattle.cat_protocol.proofs.lines.find.Find.read.Goals as goal

pub returns-in_err-count-clause-none : goal.returns-in_err-count-clause-none
returns-in_err-count-clause-none c = rw c.from_residual-in_err-count.ensures (λ token count sort mark query h.
    let first = c.in_ok-token.ensures.found in
    let behind = one_number _ token _ _ first.0 h.token_is_number (sym first.1 ∙ h.spelled) in
    c.in_err-count.ensures.none count _ h.count_is_number behind.1)

pub returns-in_err-sort-clause-none : goal.returns-in_err-sort-clause-none
returns-in_err-sort-clause-none c = rw c.from_residual-in_err-sort.ensures (λ token count sort mark query h.
    let first = c.in_ok-token.ensures.found in
    let behind = one_number _ token _ _ first.0 h.token_is_number (sym first.1 ∙ h.spelled) in
    let second = c.in_ok-count.ensures.found in
    let then = one_number _ count _ _ second.0 h.count_is_number (sym second.1 ∙ behind.1) in
    c.in_err-sort.ensures.none sort _ h.sort_has_form then.1)

pub returns-in_err-mark-clause-none : goal.returns-in_err-mark-clause-none
returns-in_err-mark-clause-none c = rw c.from_residual-in_err-mark.ensures (λ token count sort mark query h.
    let first = c.in_ok-token.ensures.found in
    let behind = one_number _ token _ _ first.0 h.token_is_number (sym first.1 ∙ h.spelled) in
    let second = c.in_ok-count.ensures.found in
    let then = one_number _ count _ _ second.0 h.count_is_number (sym second.1 ∙ behind.1) in
    let third = c.in_ok-sort.ensures.found in
    let last = one_sort _ sort _ _ third.0 h.sort_has_form (sym third.1 ∙ then.1) in
    c.in_err-mark.ensures.none mark query h.mark_has_form last)
