use Rattle.std.proofs.Common.{Some, ◌∙◌, ap, sym}
use Rattle.cat_ledger.proofs.Made.{found_there, found_token}
use Rattle.cat_ledger.proofs.Results.{if_ok}
use Rattle.cat_ledger.proofs.views.copy_view.Goals as goal

pub unreachable-requires : goal.unreachable-requires
unreachable-requires c = found_there c.args.core.now.views c.args.token c.requires (sym c.in_default.ensures)

pub returns-clause-view : goal.returns-clause-view
returns-clause-view c = if_ok _ _ c.copy.result (λ v same. sym c.in-Some.ensures ∙ ap Some (sym same)) c.copy.ensures.ok

pub returns-clause-token : goal.returns-clause-token
returns-clause-token c = if_ok _ _ c.copy.result (λ v same.
    ap (λ v. v.token) same ∙ found_token c.args.core.now.views c.args.token c.in-Some.view.now (sym c.in-Some.ensures)) c.copy.ensures.ok
