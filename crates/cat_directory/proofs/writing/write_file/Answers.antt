use Rattle.cat_directory.proofs.Torn.{begun, written}
use Rattle.cat_directory.proofs.writing.write_file.Goals as goal

pub returns-in_err-create-clause-torn : goal.returns-in_err-create-clause-torn
returns-in_err-create-clause-torn g c = λ now is.
    begun c.args.bytes.now (g.D.Holder.may_leave c.args.device.now c.args.name) (g.D.Holder.may_leave c.create.new.self c.args.name) (c.in_err-create.ensures.torn now is)

pub returns-clause-torn : goal.returns-clause-torn
returns-clause-torn g c = λ now is.
    written c.args.bytes.now (g.D.Holder.bytes c.args.device.now c.args.name) (g.D.Holder.bytes c.create.new.self c.args.name) now
    (g.D.Holder.may_leave c.args.device.now c.args.name) (g.D.Holder.may_leave c.create.new.self c.args.name) (g.D.Holder.may_leave c.append.new.self c.args.name)
    is c.in_ok-create.ensures.ok (c.in_ok-create.ensures.torn now is) c.append.ensures.torn
