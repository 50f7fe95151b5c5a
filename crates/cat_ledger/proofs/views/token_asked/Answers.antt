use Rattle.std.proofs.Common.{sym, ◌∙◌}
use Rattle.cat_ledger.proofs.Made.{asked_is, asked_nowhere}
use Rattle.cat_ledger.proofs.views.token_asked.Goals as goal

pub returns-then-not-is_recorded-clause-none : goal.returns-then-not-is_recorded-clause-none
returns-then-not-is_recorded-clause-none c = λ t asked.
    asked_nowhere c.args.core.now c.args.token c.newest_token.result c.unwrap_or-token.result t c.unwrap_or-token.ensures
    c.newest_token.ensures.there (sym c.is_recorded.ensures ∙ c.if-not-is_recorded.true) asked

pub returns-clause-some : goal.returns-clause-some
returns-clause-some c =
    asked_is c.args.core.now c.args.token c.newest_token.result c.unwrap_or-token.result c.unwrap_or-token.ensures
    c.newest_token.ensures.greatest (sym c.is_recorded.ensures ∙ c.if-not-is_recorded.false)

pub returns-clause-there : goal.returns-clause-there
returns-clause-there c = sym c.is_recorded.ensures ∙ c.if-not-is_recorded.false
