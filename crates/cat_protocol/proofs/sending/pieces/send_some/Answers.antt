use Rattle.cat_protocol.proofs.sending.Taken.{takes_so}
use Rattle.cat_protocol.proofs.sending.pieces.send_some.Goals as goal

pub returns : goal.returns
returns g c =
    let so = takes_so _ _ c.args.bytes.now c.write.result c.write.ensures.bound c.write.ensures.bytes in
    rw c.taken.ensures (record { bound = so.bound; ok = so.ok; err = so.err })
