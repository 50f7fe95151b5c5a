use Rattle.std.proofs.Common.{◌∙◌, ◌||◌, ap}
use Rattle.cat_model.specs.Text.{same_text}
use Rattle.cat_columns.specs.Columns.{has_text}
use Rattle.cat_columns.proofs.Members.{any_text_more}
use Rattle.cat_columns.proofs.gathering.add_texts.Goals as goal

pub loop-text-preserved : goal.loop-text-preserved
loop-text-preserved c = λ q.
    any_text_more (same_text q) c.args.row.now c.loop-text.text-index c.text-item.result _ _ _ c.loop-text-test.true (c.loop-text.invariant q)
    (c.in_ok-add_text.ensures.ok q ∙ ap (λ t. has_text q c.loop-text.texts || same_text q t) c.text-item.is)
