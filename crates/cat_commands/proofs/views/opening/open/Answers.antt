use Rattle.std.proofs.Common.{ap, refl}
use Rattle.cat_ledger.specs.Ledgers.{device_in, policy_in, shape_in}
use Rattle.cat_commands.proofs.views.Answered.{open_refused, opened}
use Rattle.cat_commands.proofs.views.opening.open.Goals as goal

pub returns-in-Ok-clause-answers : goal.returns-in-Ok-clause-answers
returns-in-Ok-clause-answers g c =
    let old = c.args.ledger.now in
    let new = c.hold.new.self in
    opened (policy_in old) (g.D.Holder.bytes (device_in old)) (g.D.Holder.bytes (device_in new)) (shape_in old) (shape_in new)
    c.args.session c.args.token c.in-Ok.token c.in-Ok.ensures.asked c.in-Ok.ensures.held (λ q. ap (λ d. g.D.Holder.bytes d q) c.in-Ok.ensures.same)

pub returns-in-Err-clause-answers : goal.returns-in-Err-clause-answers
returns-in-Err-clause-answers g c =
    let old = c.args.ledger.now in
    let new = c.hold.new.self in
    open_refused (policy_in old) (g.D.Holder.bytes (device_in old)) (g.D.Holder.bytes (device_in new)) (shape_in old) (shape_in new)
    c.args.session c.args.token c.in-Err.refusal c.in-Err.ensures.gone
    (ap shape_in c.in-Err.ensures.err, λ q. ap (λ d. g.D.Holder.bytes d q) c.in-Err.ensures.same) c.in-Err.ensures.refusal

pub returns-in-Ok-clause-told : goal.returns-in-Ok-clause-told
returns-in-Ok-clause-told g c = (c.in-Ok.token, c.in-Ok.ensures.asked, refl, c.in-Ok.ensures.held)

pub returns-in-Ok-clause-goes : goal.returns-in-Ok-clause-goes
returns-in-Ok-clause-goes g c = c.in-Ok.ensures.goes

pub returns-in-Ok-clause-same : goal.returns-in-Ok-clause-same
returns-in-Ok-clause-same g c = c.in-Ok.ensures.same
