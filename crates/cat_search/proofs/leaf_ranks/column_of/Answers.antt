use Rattle.std.proofs.Common.{◌≡◌, ◌∙◌, [], ap, subst}
use Rattle.std.specs.List.{HoldsAt}
use Rattle.cat_model.specs.Item.{Field, Kind, Schema}
use Rattle.cat_views.specs.cat_segment.Contents.{contents_under_name}
use Rattle.cat_search.proofs.leaf_ranks.column_of.Goals as goal

pub returns-then-has_field : goal.returns-then-has_field
returns-then-has_field c =
    let field = c.args.field in
    let f : Field = record { name = []; kind = Kind.text } in
    let named = subst (λ (s : Schema). HoldsAt (λ f. f.name ≡ field.name.now) s field.index) c.schema.ensures (c.has_field.ensures.name c.if-has_field.true) in
    c.column_at.ensures.contents f ∙ ap (λ n. contents_under_name n c.args.segment.now.rows) (named f)
