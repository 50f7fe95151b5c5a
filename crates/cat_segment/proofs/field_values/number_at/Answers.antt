use Rattle.std.proofs.Common.{Some, ap, sym, ◌∙◌}
use Rattle.cat_model.specs.Item.{number_in}
use Rattle.cat_items.specs.Contents.{field_content_of}
use Rattle.cat_segment.proofs.field_values.number_at.Goals as goal

pub returns-in-Some-Number-clause-value : goal.returns-in-Some-Number-clause-value
returns-in-Some-Number-clause-value c =
    sym (ap (λ v. number_in (Some (field_content_of v))) c.in-Some-Number.field-0-is) ∙ ap number_in c.in-Some-Number.ensures.value
