use Rattle.std.proofs.Common.{[], refl}
use Rattle.std.proofs.KnownBytes.{Consumes-nil}
use Rattle.cat_protocol.specs.serving.Serving.{ended_as}
use Rattle.cat_protocol.proofs.serving.Endings.{ends_unbuffered, stands_at}
use Rattle.cat_protocol.proofs.serving.serving.serve_machine.Goals as goal

pub returns-in_default-clause-ends : goal.returns-in_default-clause-ends
returns-in_default-clause-ends g c =
    let m = g.M.Machine in
    let input = g.R.Read.remaining c.args.reader.now in
    let before = g.W.Write.contents c.args.writer.now in
    let after = g.W.Write.contents c.refuse-fault.new.to in
    ends_unbuffered m.opens m.step m.token c.args.seed input input [] (Consumes-nil input) refl before after c.refuse-fault.result c.refuse-fault.ensures

pub returns-in_default-vec-clause-ends : goal.returns-in_default-vec-clause-ends
returns-in_default-vec-clause-ends g c =
    let m = g.M.Machine in
    let input = g.R.Read.remaining c.args.reader.now in
    let before = g.W.Write.contents c.args.writer.now in
    let after = g.W.Write.contents c.refuse-fault-in_default-vec.new.to in
    let fault = c.refuse-fault-in_default-vec.result in
    ends_unbuffered m.opens m.step m.token c.args.seed input input [] (Consumes-nil input) refl before after fault c.refuse-fault-in_default-vec.ensures

pub returns-clause-stage : goal.returns-clause-stage
returns-clause-stage g c =
    let m = g.M.Machine in
    stands_at m.opens m.step m.token c.args.seed c.serve_within.result.stage _ _ _ _ (ended_as c.serve_within.result.ended) c.serve_within.ensures
