-- What is told of a file that breaks a rule.
use Rattle.std.specs.Prelude.{ℕ, List, ◌++◌, codes}
use Rattle.std.specs.Fmt.{decimal}
use Rattle.cat_directory.specs.Names.{file_text}
use Rattle.cat_check.specs.declared.fault.Fault.{Fault}
use Rattle.cat_check.specs.declared.fault.Rule.{Rule}
use Rattle.cat_check.specs.declared.fault.Rule.TheVariants as rule

-- the rule, in words
abbrev pub rule_text : Rule → List ℕ
rule_text rule.Absent = codes "it is absent"
rule_text rule.Unread = codes "the device failed"
rule_text rule.NoCommit = codes "its bytes are no commit's"
rule_text (rule.OtherCommit generation) = codes "it says that it is commit " ++ decimal generation
rule_text rule.NoSegment = codes "its bytes are no segment's"
rule_text (rule.OtherSegment number) = codes "it says that it is segment " ++ decimal number
rule_text rule.OtherFields = codes "it has other fields than the commit"
rule_text rule.NoLiveRows = codes "its bytes are no live rows'"
rule_text (rule.OtherLiveRows number generation) = codes "it says that it is of segment " ++ (decimal number ++ (codes " and commit " ++ decimal generation))
rule_text (rule.OtherRows rows wanted) = codes "it has " ++ (decimal rows ++ (codes " rows in place of " ++ decimal wanted))
rule_text (rule.OtherSize size wanted) = codes "it has " ++ (decimal size ++ (codes " bytes in place of " ++ decimal wanted))
rule_text rule.NotRising = codes "its first write isn't behind those before it"
rule_text rule.PastToken = codes "it has a write past the commit's token"
rule_text rule.IdTwice = codes "it has a live row with the id of one before it"
rule_text rule.Together = codes "the files don't fit together"

-- the name of the file, and the rule
abbrev pub fault_text : Fault → List ℕ
fault_text fault = file_text fault.file ++ (codes ": " ++ rule_text fault.rule)
