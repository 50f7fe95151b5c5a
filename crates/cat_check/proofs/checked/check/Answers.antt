use Rattle.std.proofs.Common.{◌≡◌, ◌∙◌, List, true, sym, subst}
use Rattle.std.specs.Prelude.{map}
use Rattle.std.specs.List.Sorted.{IsStrictlySortedBy}
use Rattle.cat_directory.specs.declared.name.FileName.{FileName}
use Rattle.cat_directory.specs.Devices.{Lists}
use Rattle.cat_directory.specs.Names.{name_cmp}
use Rattle.cat_check.specs.Below.{AreOlder}
use Rattle.cat_check.specs.Unread.{is_any_unread}
use Rattle.cat_directory.specs.Frames.{OnlyReads}
use Rattle.cat_check.specs.declared.report.Report.{Report}
use Rattle.cat_commits.proofs.Frames.{reads_on}
use Rattle.cat_check.proofs.Before.{all_before, newest_before}
use Rattle.cat_check.proofs.checked.check.Goals as goal

pub returns-clause-ok : goal.returns-clause-ok
returns-clause-ok g c =
    let listed : Lists (g.D.Holder.bytes c.args.device.now) c.deref.result.now =
    subst (λ (names : List FileName). Lists (g.D.Holder.bytes c.args.device.now) names) (sym c.deref.ensures.value) c.in_ok-names.ensures.ok in
    let frame : OnlyReads g.D.Holder.bytes g.D.Holder.may_leave g.D.Holder.can_fail c.args.device.now c.names.new.self =
    record { same = c.in_ok-names.ensures.same; crash = c.in_ok-names.ensures.crash; can = c.in_ok-names.ensures.can } in
    record {
      names = c.deref.result.now;
      listed = listed;
      newest = newest_before c.deref.result.now c.in_ok-newest.newest frame c.in_ok-newest.ensures.judged;
      older = subst (λ (names : List FileName). AreOlder names (map (λ (r : Report). r.generation) c.in_ok-older.older.items)) (c.deref-2.ensures.value ∙ sym c.deref.ensures.value)
          (c.in_ok-older.ensures.older (subst (λ (names : List FileName). IsStrictlySortedBy name_cmp names) (c.deref.ensures.value ∙ sym c.deref-2.ensures.value) listed.rising));
      judged = all_before c.in_ok-older.older.items (reads_on frame c.in_ok-newest.ensures.frame) c.in_ok-older.ensures.judged;
      known = λ any. c.in_ok-unnamed.ensures (subst (λ (reports : List Report). is_any_unread c.in_ok-newest.newest reports ≡ true) (sym c.deref-4.ensures.value) any);
    }
