use Rattle.std.proofs.Common.{refl, subst, arith}
use Rattle.std.specs.Prelude.{All}
use Rattle.std.proofs.lemmas.List.{take_all}
use Rattle.cat_segment.proofs.Steps.{holds_more}
use Rattle.cat_segment.specs.Parts.{HasFewLabels}
use Rattle.cat_segment.proofs.column_parts.have_few_labels.Goals as goal

pub loop-part-preserved : goal.loop-part-preserved
loop-part-preserved c =
    holds_more c.args.parts.now c.loop-part.part-index c.part-item.result c.loop-part-test.true c.part-item.is HasFewLabels c.loop-part.invariant
    (c.has_few_labels.ensures.0 c.if-not-has_few_labels.false)

pub returns : goal.returns
returns c = (λ _. subst (All HasFewLabels) (take_all c.loop-part.part-index c.args.parts.now (omega arith)) c.loop-part.invariant, λ _. refl)
