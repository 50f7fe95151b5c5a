use Rattle.std.proofs.Common.{◌++◌, codes}
use Rattle.std.specs.Fmt.{decimal}
use Rattle.cat_protocol.proofs.sending.Written.{front_before, sent_behind, sent_at_fault}
use Rattle.cat_protocol.proofs.sending.lines.send_opened.Goals as goal

pub returns-in_err-send : goal.returns-in_err-send
returns-in_err-send g c = sent_at_fault _ c.from_residual.ensures.0 (front_before (decimal c.args.token ++ codes "\n") c.in_err-send.ensures)

pub returns : goal.returns
returns g c = sent_behind _ _ _ _ (codes "OK ") _ c.in_ok-send.ensures c.send_number.ensures
