use Rattle.cat_commands.specs.cat_protocol.serving.Serving.{ended_as}
use Rattle.cat_service.specs.Serving.{device_at}
use Rattle.cat_service.proofs.Serves.{caused_in, served_in}
use Rattle.cat_service.proofs.Survived.{FindsTables}
use Rattle.cat_service.proofs.serving.serve.Goals as goal

pub returns-clause-caused : goal.returns-clause-caused
returns-clause-caused g c =
    let finds : FindsTables g.D.Holder.may_leave = record {
      segments = c.segments_are_told_by_their_bytes.ensures;
      lives = c.live_rows_are_told_by_their_bytes.ensures.rows;
      refused = c.refused_are_found.ensures;
    } in
    rw c.device_left.ensures.device (caused_in g.D.Holder.bytes g.D.Holder.may_leave g.D.Holder.can_fail g.D.Holder.fault_count finds c.args.device c.serve_machine-served.result.stage c.device_left.ensures.lasts c.device_left.ensures.outlives _ _ _ _ (ended_as c.serve_machine-served.result.ended)
    c.serve_machine-served.ensures.ends)

pub returns-clause-served : goal.returns-clause-served
returns-clause-served g c =
    let finds : FindsTables g.D.Holder.may_leave = record {
      segments = c.segments_are_told_by_their_bytes.ensures;
      lives = c.live_rows_are_told_by_their_bytes.ensures.rows;
      refused = c.refused_are_found.ensures;
    } in
    rw c.device_left.ensures.device (served_in g.D.Holder.bytes g.D.Holder.may_leave g.D.Holder.can_fail g.D.Holder.fault_count c.args.device (device_at c.serve_machine-served.result.stage) _ _ _ _ (ended_as c.serve_machine-served.result.ended)
    (caused_in g.D.Holder.bytes g.D.Holder.may_leave g.D.Holder.can_fail g.D.Holder.fault_count finds c.args.device c.serve_machine-served.result.stage c.device_left.ensures.lasts c.device_left.ensures.outlives _ _ _ _ (ended_as c.serve_machine-served.result.ended)
    c.serve_machine-served.ensures.ends))
