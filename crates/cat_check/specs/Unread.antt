-- Commits whose own file couldn't be read, so that nobody knows which files they need.
use Rattle.std.specs.Prelude.{Bool, true, false, List, Option, Some, None, ◌||◌}
use Rattle.std.specs.List.{list_any}
use Rattle.cat_model.specs.CommitFile.{CommitFile}
use Rattle.cat_check.specs.declared.verdict.Verdict.{Verdict}
use Rattle.cat_check.specs.declared.verdict.Verdict.TheVariants as verdict
use Rattle.cat_check.specs.declared.report.Report.{Report}

-- the device failed, and its own file says no commit
abbrev pub is_unread_as : Verdict → Option CommitFile → Bool
is_unread_as verdict.Unread None = true
is_unread_as verdict.Unread (Some commit) = false
is_unread_as (verdict.Whole counts) said = false
is_unread_as (verdict.Damaged faults) said = false

abbrev pub is_unread : Report → Bool
is_unread report = is_unread_as report.verdict report.said

-- that is so of the newest commit or of an older one
abbrev pub is_any_unread : Option Report → List Report → Bool
is_any_unread None older = list_any is_unread older
is_any_unread (Some report) older = is_unread report || list_any is_unread older
