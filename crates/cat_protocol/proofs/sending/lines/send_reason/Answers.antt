use Rattle.std.proofs.Common.{refl}
use Rattle.cat_protocol.proofs.sending.Written.{front_before, sent_at_fault, no_query_in_pieces, query_sent}
use Rattle.cat_protocol.proofs.sending.lines.send_reason.Goals as goal

pub returns-in_err-send_number-in-Query : goal.returns-in_err-send_number-in-Query
returns-in_err-send_number-in-Query g c =
    rw (no_query_in_pieces c.args.refusal c.number-number.result c.in-Query.place c.in-Query.is c.number-number.ensures)
    (sent_at_fault _ c.from_residual.ensures.0 (front_before _ c.in_err-send_number-in-Query.ensures))

pub returns-in_ok-send_number-in-Query : goal.returns-in_ok-send_number-in-Query
returns-in_ok-send_number-in-Query g c =
    query_sent _ _ _ c.send_number-in-Query.result c.args.refusal c.in-Query.place _ _ c.in-Query.is c.in_ok-send_number-in-Query.ensures c.send_number-in-Query.ensures c.number-number.ensures refl
