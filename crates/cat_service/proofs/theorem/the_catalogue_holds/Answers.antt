use Rattle.cat_directory.specs.Names.{by_names}
use Rattle.cat_service.proofs.theorem.Calls.{calls_agree, calls_opened}
use Rattle.cat_service.proofs.theorem.Found.{calls_are_found, reads_afterwards}
use Rattle.cat_service.proofs.theorem.the_catalogue_holds.Goals as goal

pub returns-clause-opened : goal.returns-clause-opened
returns-clause-opened g c = calls_opened (by_names g.D.Holder.bytes g.D.Holder.may_leave g.D.Holder.can_fail g.D.Holder.fault_count)

pub returns-clause-agree : goal.returns-clause-agree
returns-clause-agree g c =
    calls_agree (by_names g.D.Holder.bytes g.D.Holder.may_leave g.D.Holder.can_fail g.D.Holder.fault_count)
    (by_names g.E.Holder.bytes g.E.Holder.may_leave g.E.Holder.can_fail g.E.Holder.fault_count)

pub returns-clause-found : goal.returns-clause-found
returns-clause-found g c =
    calls_are_found c.segments_are_told_by_their_bytes.ensures c.live_rows_are_told_by_their_bytes.ensures.rows
    (by_names g.D.Holder.bytes g.D.Holder.may_leave g.D.Holder.can_fail g.D.Holder.fault_count)
    (by_names g.E.Holder.bytes g.E.Holder.may_leave g.E.Holder.can_fail g.E.Holder.fault_count)

pub returns-clause-afterwards : goal.returns-clause-afterwards
returns-clause-afterwards g c =
    reads_afterwards (by_names g.D.Holder.bytes g.D.Holder.may_leave g.D.Holder.can_fail g.D.Holder.fault_count)
    (by_names g.E.Holder.bytes g.E.Holder.may_leave g.E.Holder.can_fail g.E.Holder.fault_count)
