use Rattle.std.proofs.Common.{length}
use Rattle.cat_segment.proofs.Few.{ends_rise, few_between}
use Rattle.cat_segment.proofs.column_parts.has_few_labels.Goals as goal

pub are_few-requires : goal.are_few-requires
are_few-requires c =
    let cut = rw c.in-Facet.is at c.requires in
    rw c.deref.ensures.value (ends_rise 0 c.in-Facet.ends.items (length c.in-Facet.field-2.items) cut.0)

pub returns-in-Facet : goal.returns-in-Facet
returns-in-Facet c =
    let cut = rw c.in-Facet.is at c.requires in
    let few = few_between c.in-Facet.ends.items c.in-Facet.field-2.items cut.0 in
    let told = rw c.deref.ensures.value at c.are_few.ensures in
    rw c.in-Facet.is ((λ t. few.0 (told.0 t)), (λ all. told.1 (few.1 all)))
