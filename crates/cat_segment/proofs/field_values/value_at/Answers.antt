use Rattle.std.proofs.Common.{sym, ap, ◌∙◌}
use Rattle.std.specs.Prelude.{slice_get}
use Rattle.std.proofs.lemmas.Option.{slice_get-map}
use Rattle.cat_items.specs.Contents.{field_content_of}
use Rattle.cat_items.proofs.Contents.{content-got}
use Rattle.cat_segment.proofs.Filled.{formed_in}
use Rattle.cat_segment.proofs.field_values.value_at.Goals as goal

pub returns-clause-value : goal.returns-clause-value
returns-clause-value c =
    content-got c.values.result.now c.args.index c.get.result c.get.ensures.lookup.3
    ∙ sym (slice_get-map field_content_of c.values.result.now c.args.index)
    ∙ ap (λ l. slice_get l c.args.index) c.values.ensures.value
    ∙ slice_get-map (λ p. p.content) c.args.item.now.fields c.args.index

pub returns-clause-formed : goal.returns-clause-formed
returns-clause-formed c = formed_in c.args.item.now.fields c.args.index c.values.ensures.forms
