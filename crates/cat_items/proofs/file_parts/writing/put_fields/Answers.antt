use Rattle.std.proofs.Common.{◌≡◌, ◌++◌, length, ap, ◌∙◌, rules}
use Rattle.std.specs.List.{flat_map}
use Rattle.cat_base.specs.Bytes.{spelled_u32}
use Rattle.cat_model.specs.Layout.{spelled_field, spelled_fields}
use Rattle.cat_items.proofs.file_parts.Puts.{put_two, put_more, put_all}
use Rattle.cat_items.proofs.file_parts.writing.put_fields.Goals as goal

pub loop-field-preserved : goal.loop-field-preserved
loop-field-preserved c =
    put_more spelled_field c.fields-fields.result.now c.loop-field.field-index c.field-item.result c.put_count.new.out.items c.loop-field.out.items c.put_field.new.out.items c.loop-field-test.true
    (c.in_ok-put_field.ensures ∙ ap (λ f. c.loop-field.out.items ++ spelled_field f) c.field-item.is) c.loop-field.invariant

pub returns : goal.returns
returns c =
    let old = c.args.out.now.items in
    let fields = c.fields-fields.result.now in
    let counted : c.put_count.new.out.items ≡ old ++ spelled_u32 (length fields) = search rules in
    put_two old c.put_count.new.out.items c.loop-field.out.items (spelled_u32 (length fields)) (flat_map spelled_field fields)
    counted (put_all spelled_field fields c.loop-field.field-index c.put_count.new.out.items c.loop-field.out.items c.loop-field-test.false c.loop-field.invariant)
    ∙ ap (λ s. old ++ spelled_fields s) c.fields-fields.ensures.value
