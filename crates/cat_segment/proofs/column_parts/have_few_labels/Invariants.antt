use Rattle.std.proofs.Common.{take}
use Rattle.std.specs.Prelude.{All}
use Rattle.cat_segment.specs.Parts.{HasFewLabels}
use Rattle.cat_segment.proofs.column_parts.have_few_labels.Given as goal

abbrev pub invariant-loop-part : goal.invariant-loop-part
invariant-loop-part l = All HasFewLabels (take l.part-index l.parts)
