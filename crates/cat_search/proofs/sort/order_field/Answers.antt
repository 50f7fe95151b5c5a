use Rattle.std.proofs.Common.{◌≡◌, ◌∙◌, ap, sym, refl, inl, inr, Some, true, false}
use Rattle.cat_model.specs.Answer.{is_sort_kind}
use Rattle.cat_query.specs.cat_items.Kinds.{field_kind_of}
use Rattle.cat_search.proofs.Fields.{named_field, no_field}
use Rattle.cat_search.proofs.sort.order_field.Goals as goal

pub returns-in_default-clause-err : goal.returns-in_default-clause-err
returns-in_default-clause-err c =
    (refl, no_field c.args.name.now c.fields-fields.result.now c.args.schema.now c.fields-fields.ensures.value (sym c.in_default.is ∙ c.index_of.ensures))

pub returns-in-Number-clause-ok : goal.returns-in-Number-clause-ok
returns-in-Number-clause-ok c =
    let h = named_field c.args.name.now c.fields-fields.result.now c.args.schema.now c.in-Some.index c.index-fields-index.result c.fields-fields.ensures.value (sym c.in-Some.is ∙ c.index_of.ensures) c.index-fields-index.is in
    let kind = ap (λ k. is_sort_kind (Some k)) (sym c.kind.ensures) in
    let sorts : is_sort_kind (Some (field_kind_of c.kind.result)) ≡ true = elim c.in-Number.is [
      | inl e ↦ ap (λ k. is_sort_kind (Some (field_kind_of k))) e
      | inr e ↦ ap (λ k. is_sort_kind (Some (field_kind_of k))) e
    ] in
    (refl, h.0, h.1 ∙ kind ∙ sorts)

pub returns-in-Text-clause-err : goal.returns-in-Text-clause-err
returns-in-Text-clause-err c =
    let h = named_field c.args.name.now c.fields-fields.result.now c.args.schema.now c.in-Some.index c.index-fields-index.result c.fields-fields.ensures.value (sym c.in-Some.is ∙ c.index_of.ensures) c.index-fields-index.is in
    let kind = ap (λ k. is_sort_kind (Some k)) (sym c.kind.ensures) in
    let sorts : is_sort_kind (Some (field_kind_of c.kind.result)) ≡ false = elim c.in-Text.is [
      | inl e ↦ ap (λ k. is_sort_kind (Some (field_kind_of k))) e
      | inr e ↦ ap (λ k. is_sort_kind (Some (field_kind_of k))) e
    ] in
    (refl, h.1 ∙ kind ∙ sorts)
