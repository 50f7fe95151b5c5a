use Rattle.std.proofs.Common.{◌∙◌, subst}
use Rattle.std.specs.Io.KnownBytes.{Appends}
use Rattle.cat_protocol.proofs.sending.Written.{all_out, front_as, front_before, gathered_at_fault}
use Rattle.cat_protocol.proofs.sending.gathered.Gathered.put_long.Goals as goal

pub returns-in_err-send : goal.returns-in_err-send
returns-in_err-send g c =
    gathered_at_fault _ _ _ _ c.from_residual.ensures.0 (front_before c.args.bytes.now (front_as (c.as_slice.ensures.value ∙ c.self.view_is) c.in_err-send.ensures))

pub returns : goal.returns
returns g c =
    all_out _ _ _ _ c.args.self.now c.new-self-inside.result.items c.args.bytes.now c.new-self-inside.ensures
    (subst (Appends (g.W.Write.contents c.args.to.now) (g.W.Write.contents c.send.new.to)) (c.as_slice.ensures.value ∙ c.self.view_is) c.in_ok-send.ensures)
    c.send-2.ensures
