-- What the kinds of field mean, and when fields are the same.
use Rattle.std.specs.Prelude.{Bool, nat_eq}
use Rattle.std.specs.Cmp.{IsEquivalence, and_equiv, on_equiv, nat_eq_equiv}
use Rattle.std.specs.Cmp.Lexicographic.{pointwise, lists_equiv, nat_list_eq_equiv}
use Rattle.std.specs.Ordering.{on, eq_of_both}
use Rattle.cat_model.specs.Item as model
use Rattle.cat_model.specs.Layout.{kind_byte}
use Rattle.cat_items.specs.declared.schema.Kind.{Kind}
use Rattle.cat_items.specs.declared.schema.Kind.TheVariants.{Text, Keyword, Number, Facet}

abbrev pub field_kind_of : Kind → model.Kind
field_kind_of Text = model.Kind.text
field_kind_of Keyword = model.Kind.keyword
field_kind_of Number = model.Kind.number
field_kind_of Facet = model.Kind.facet

-- one name and one kind; kinds are told apart by the bytes that stand for them in files
abbrev pub same_field : model.Field → model.Field → Bool
same_field = eq_of_both (on (λ f. f.name) (pointwise nat_eq)) (on (λ f. kind_byte f.kind) nat_eq)

pub same_field_equiv : IsEquivalence same_field
same_field_equiv = and_equiv (on_equiv (λ f. f.name) nat_list_eq_equiv) (on_equiv (λ f. kind_byte f.kind) nat_eq_equiv)

-- as many fields, and each the same
abbrev pub same_fields : model.Schema → model.Schema → Bool
same_fields = pointwise same_field

pub same_fields_equiv : IsEquivalence same_fields
same_fields_equiv = lists_equiv same_field_equiv
