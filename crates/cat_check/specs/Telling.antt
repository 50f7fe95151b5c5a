-- What is told of a folder, as a text.
use Rattle.std.specs.Prelude.{ℕ, List, [], ◌++◌, codes, length, Option, None, Some}
use Rattle.std.specs.Fmt.{decimal}
use Rattle.std.specs.List.{flat_map}
use Rattle.cat_model.specs.CommitFile.{CommitFile}
use Rattle.cat_directory.specs.Names.{file_text}
use Rattle.cat_directory.specs.declared.name.FileName.{FileName}
use Rattle.cat_check.specs.declared.fault.Fault.{Fault}
use Rattle.cat_check.specs.declared.verdict.Verdict.{Verdict}
use Rattle.cat_check.specs.declared.verdict.Verdict.TheVariants as verdict
use Rattle.cat_check.specs.declared.report.Report.{Report}
use Rattle.cat_check.specs.declared.checked.Checked.{Checked}
use Rattle.cat_check.specs.declared.dropping.Standing.{Standing}
use Rattle.cat_check.specs.declared.dropping.Standing.TheVariants as standing
use Rattle.cat_check.specs.Faults.{fault_text}

-- ---- the line of a commit, and those of its faults

-- what is judged, in words
abbrev pub verdict_text : Verdict → List ℕ
verdict_text (verdict.Whole counts) = codes "whole"
verdict_text (verdict.Damaged faults) = codes "damaged"
verdict_text verdict.Unread = codes "unread, since the device failed"

-- the numbers that the commit's own file says
abbrev pub said_text : Option CommitFile → List ℕ
said_text None = []
said_text (Some commit) = codes "; token " ++ (decimal commit.token ++ (codes ", segments " ++ decimal (length commit.segments)))

-- the rows of a commit that is whole
abbrev pub counts_text : Verdict → List ℕ
counts_text (verdict.Whole counts) = codes ", rows " ++ (decimal counts.rows ++ (codes ", live rows " ++ decimal counts.live_rows))
counts_text (verdict.Damaged faults) = []
counts_text verdict.Unread = []

-- all of its numbers that are known
abbrev pub numbers_text : Report → List ℕ
numbers_text report = said_text report.said ++ (counts_text report.verdict ++ (codes "; bytes " ++ decimal report.bytes))

-- what who committed said of it
abbrev pub note_text : Option CommitFile → List ℕ
note_text None = []
note_text (Some commit) = codes "; text \"" ++ (commit.text ++ codes "\"")

-- a line of a file that breaks a rule
abbrev pub fault_line : Fault → List ℕ
fault_line fault = codes "  " ++ (fault_text fault ++ codes "\n")

-- a line for each fault of a commit that is damaged
abbrev pub faults_text : Verdict → List ℕ
faults_text (verdict.Whole counts) = []
faults_text (verdict.Damaged faults) = flat_map fault_line faults.items
faults_text verdict.Unread = []

-- the number of the commit and what is judged
abbrev pub head_text : Report → List ℕ
head_text report = codes "commit " ++ (decimal report.generation ++ (codes ": " ++ verdict_text report.verdict))

abbrev pub report_text : Report → List ℕ
report_text report = head_text report ++ (numbers_text report ++ (note_text report.said ++ (codes "\n" ++ faults_text report.verdict)))

-- ---- all that is found

abbrev pub newest_text : Option Report → List ℕ
newest_text None = codes "there is no commit\n"
newest_text (Some report) = report_text report

-- the line of a file that no commit names
abbrev pub unnamed_line : FileName → List ℕ
unnamed_line name = file_text name ++ codes ": no commit names it\n"

-- the newest commit, if there is one, each older one in order, and each file that no commit names
abbrev pub check_text : Checked → List ℕ
check_text checked = newest_text checked.newest ++ (flat_map report_text checked.older.items ++ flat_map unnamed_line checked.unnamed.items)

-- ---- what was dropped

abbrev pub standing_text : Standing → List ℕ
standing_text standing.Empty = codes "dropped nothing: there is no commit\n"
standing_text (standing.Readable newest) = codes "dropped nothing: commit " ++ (decimal newest ++ codes " isn't torn\n")
standing_text (standing.Alone torn) = codes "dropped nothing: commit " ++ (decimal torn ++ codes " is torn, and there is no older one\n")
standing_text (standing.OverDamaged torn below) =
    codes "dropped nothing: commit " ++ (decimal torn ++ (codes " is torn, and commit " ++ (decimal below ++ codes " isn't whole\n")))
standing_text (standing.OverWhole torn below) =
    codes "dropped commit " ++ (decimal torn ++ (codes ", which was torn: commit " ++ (decimal below ++ codes " is the newest now\n")))
