use Rattle.std.proofs.Common.{ap, refl, subst, ◌∙◌}
use Rattle.cat_directory.specs.Devices.{IsSettled, removed, told_after}
use Rattle.cat_directory.specs.declared.name.FileName.TheVariants.{Commit}
use Rattle.cat_check.specs.Standing.{IsStanding}
use Rattle.cat_check.proofs.Before.{none_but_one}
use Rattle.cat_check.proofs.dropping.drop_torn.Goals as goal

pub returns-in_err-delete_lasting-clause-only : goal.returns-in_err-delete_lasting-clause-only
returns-in_err-delete_lasting-clause-only g c =
    let told = g.D.Holder.bytes c.args.device.now in
    none_but_one told (g.D.Holder.bytes c.find_standing.new.device) (g.D.Holder.bytes c.delete_lasting.new.device) (Commit c.in-OverWhole.torn) c.in_ok-standing.ensures.frame.same c.delete_lasting.ensures.others
    (record { torn = _; below = _; name = refl; standing = subst (IsStanding told) c.in-OverWhole.is c.in_ok-standing.ensures.ok })

pub returns-in_ok-delete_lasting-clause-only : goal.returns-in_ok-delete_lasting-clause-only
returns-in_ok-delete_lasting-clause-only g c =
    let told = g.D.Holder.bytes c.args.device.now in
    none_but_one told (g.D.Holder.bytes c.find_standing.new.device) (g.D.Holder.bytes c.delete_lasting.new.device) (Commit c.in-OverWhole.torn) c.in_ok-standing.ensures.frame.same c.delete_lasting.ensures.others
    (record { torn = _; below = _; name = refl; standing = subst (IsStanding told) c.in-OverWhole.is c.in_ok-standing.ensures.ok })

pub returns-in_ok-delete_lasting-clause-gone : goal.returns-in_ok-delete_lasting-clause-gone
returns-in_ok-delete_lasting-clause-gone g c =
    let name = Commit c.in-OverWhole.torn in
    let same = c.in_ok-standing.ensures.frame.same name in
    (c.in_ok-delete_lasting.ensures.ok ∙ ap (told_after removed) same, subst (λ t. IsSettled (told_after removed t) (g.D.Holder.may_leave c.delete_lasting.new.device name)) same c.in_ok-delete_lasting.ensures.lasts)
