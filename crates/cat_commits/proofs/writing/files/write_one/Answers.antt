use Rattle.std.proofs.Common.{subst}
use Rattle.cat_commits.specs.writing.NewFiles.{NewBytes, OnlyTorn}
use Rattle.cat_commits.proofs.writing.files.write_one.Goals as goal

pub returns-clause-torn : goal.returns-clause-torn
returns-clause-torn g c =
    let told = g.D.Holder.bytes c.args.device.now in
    let left = g.D.Holder.may_leave c.args.device.now in
    let left' = g.D.Holder.may_leave c.write_file.new.device in
    subst (λ (f : NewBytes). OnlyTorn f.name f.bytes told left left') c.file.view_is
    (subst (λ bytes. OnlyTorn c.file.inside.name bytes told left left') c.deref.ensures.value c.write_file.ensures.torn)
