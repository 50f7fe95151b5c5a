use Rattle.std.proofs.Common.{◌∙◌, ap, map}
use Rattle.cat_items.specs.Contents.{field_content_of}
use Rattle.cat_items.proofs.Contents.{contents-named_contents}
use Rattle.cat_items.proofs.item.Item.values.Goals as goal

pub returns-clause-value : goal.returns-clause-value
returns-clause-value c =
    ap (map field_content_of) c.as_slice.ensures.value
    ∙ contents-named_contents _ _ c.self.invariant.each
    ∙ ap (λ i. map (λ p. p.content) i.fields) c.self.view_is
