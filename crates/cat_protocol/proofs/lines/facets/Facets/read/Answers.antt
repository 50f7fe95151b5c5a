use Rattle.std.proofs.Common.{sym, ◌∙◌}
use Rattle.cat_protocol.proofs.lines.WordsSplit.{one_number, one_name}
use Rattle.cat_protocol.proofs.lines.facets.Facets.read.Goals as goal

pub returns-in_err-dimension-clause-none : goal.returns-in_err-dimension-clause-none
returns-in_err-dimension-clause-none c = rw c.from_residual-in_err-dimension.ensures (λ token dim count query h.
    let first = c.in_ok-token.ensures.found in
    let behind = one_number _ token _ _ first.0 h.token_is_number (sym first.1 ∙ h.spelled) in
    c.in_err-dimension.ensures.none dim _ h.dim_has_form behind.1)

pub returns-in_err-count-clause-none : goal.returns-in_err-count-clause-none
returns-in_err-count-clause-none c = rw c.from_residual-in_err-count.ensures (λ token dim count query h.
    let first = c.in_ok-token.ensures.found in
    let behind = one_number _ token _ _ first.0 h.token_is_number (sym first.1 ∙ h.spelled) in
    let second = c.in_ok-dimension.ensures.found in
    let then = one_name _ dim _ _ second.0 h.dim_has_form (sym second.1 ∙ behind.1) in
    c.in_err-count.ensures.none count _ h.count_is_number then.1)
