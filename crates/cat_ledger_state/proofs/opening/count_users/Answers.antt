use Rattle.cat_ledger_state.proofs.Known.{all_used}
use Rattle.cat_ledger_state.proofs.opening.count_users.Goals as goal

pub returns-clause-used : goal.returns-clause-used
returns-clause-used c =
    all_used _ _ _ c.args.refs.now c.take.new.self c.take-2.new.self c.take-3.new.self c.in_ok-take.ensures.ok c.in_ok-take-2.ensures.ok c.in_ok-take-3.ensures.ok
