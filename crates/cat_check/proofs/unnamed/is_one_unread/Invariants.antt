use Rattle.std.proofs.Common.{◌≡◌, take, false}
use Rattle.std.specs.List.{list_any}
use Rattle.cat_check.specs.Unread.{is_unread}
use Rattle.cat_check.proofs.unnamed.is_one_unread.Given as goal

abbrev pub invariant-loop-report : goal.invariant-loop-report
invariant-loop-report l = list_any is_unread (take l.report-index l.reports) ≡ false
