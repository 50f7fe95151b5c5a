-- How the program ends, and with which exit status.
use Rattle.std.specs.Prelude.{ℕ, Option, Some, None}
use Rattle.cat_check.specs.declared.checked.Checked.{Checked}
use Rattle.cat_check.specs.declared.report.Report.{Report}
use Rattle.cat_check.specs.declared.verdict.Verdict.{Verdict}
use Rattle.cat_check.specs.declared.verdict.Verdict.TheVariants as verdict
use Rattle.catalogue_check.specs.declared.endings.Ending.{Ending}
use Rattle.catalogue_check.specs.declared.endings.Ending.TheVariants.{Whole, NotWhole, Unjudged}

-- by what is judged of the newest commit
abbrev pub ending_at : Verdict → Ending
ending_at (verdict.Whole counts) = Whole
ending_at (verdict.Damaged faults) = NotWhole
ending_at verdict.Unread = Unjudged

-- by the newest commit, if there is one
abbrev pub ending_with : Option Report → Ending
ending_with None = NotWhole
ending_with (Some report) = ending_at report.verdict

abbrev pub ending_of : Checked → Ending
ending_of checked = ending_with checked.newest

-- the exit status
abbrev pub status_of : Ending → ℕ
status_of Whole = 0
status_of NotWhole = 1
status_of Unjudged = 2
