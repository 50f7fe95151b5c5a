use Rattle.cat_ledger.proofs.Histories.{found_is_taken, found_is_tried, newest_is_answered, newest_is_found, none_is_lost}
use Rattle.cat_ledger.proofs.ledger.Ledger.histories_last.Goals as goal

pub returns-clause-answered : goal.returns-clause-answered
returns-clause-answered g c =
    newest_is_answered g.D.Holder.bytes g.D.Holder.may_leave c.args.self.now

pub returns-clause-tried : goal.returns-clause-tried
returns-clause-tried g c =
    rw (← c.self.view_is) (found_is_tried g.D.Holder.bytes g.D.Holder.may_leave (record { device = c.self.inside.device; core = c.self.inside.core; policy = c.self.inside.policy })
    c.self.invariant.carried c.self.invariant.lasts)

pub returns-clause-taken : goal.returns-clause-taken
returns-clause-taken g c =
    rw (← c.self.view_is) (found_is_taken g.D.Holder.bytes g.D.Holder.may_leave (record { device = c.self.inside.device; core = c.self.inside.core; policy = c.self.inside.policy })
    c.self.invariant.carried c.self.invariant.lasts)

pub returns-clause-lost : goal.returns-clause-lost
returns-clause-lost g c =
    rw (← c.self.view_is) (none_is_lost g.D.Holder.bytes g.D.Holder.may_leave (record { device = c.self.inside.device; core = c.self.inside.core; policy = c.self.inside.policy })
    c.self.invariant.carried c.self.invariant.lasts)

pub returns-clause-found : goal.returns-clause-found
returns-clause-found g c =
    rw (← c.self.view_is) (newest_is_found g.D.Holder.bytes g.D.Holder.may_leave (record { device = c.self.inside.device; core = c.self.inside.core; policy = c.self.inside.policy })
    c.self.invariant.carried c.self.invariant.lasts)
