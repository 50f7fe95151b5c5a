use Rattle.std.proofs.Common.{false, refl, true}
use Rattle.cat_ledger.proofs.Made.{recorded_at}
use Rattle.cat_ledger.proofs.Results.{on_ok}
use Rattle.cat_ledger_laws.proofs.lines.JoinedCalls.{views_stand}
use Rattle.cat_ledger_laws.proofs.shape.Views.{records_make}
use Rattle.cat_ledger.proofs.views.record_where_none.Goals as goal

pub returns-then-is_recorded-clause-ok : goal.returns-then-is_recorded-clause-ok
returns-then-is_recorded-clause-ok c =
    λ told. views_stand told told c.args.core.now c.args.core.now
    (recorded_at c.args.core.now c.count.result true c.count.ensures.count c.if-is_recorded.ensures) (refl, λ q. refl)

pub returns-clause-ok : goal.returns-clause-ok
returns-clause-ok c =
    on_ok c.record_view.result (λ ok told. records_make c.args.core.now c.record_view.new.self told told c.requires.flushed
    (recorded_at c.args.core.now c.count.result false c.count.ensures.count c.if-is_recorded.ensures) ok (λ q. refl)) c.record_view.ensures.ok
