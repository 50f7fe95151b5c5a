-- What the values of an item mean.
use Rattle.std.specs.Prelude.{◌≡◌, List, [], ◌∷◌, length, All, IfSome, IsUtf8}
use Rattle.std.specs.Int.{w64}
use Rattle.std.specs.Int.RustNames.{FitsSigned}
use Rattle.std.specs.Arc.{arc_value}
use Rattle.cat_model.specs.Item as model
use Rattle.cat_model.specs.Forms.{IsWord, IsFormedItem}
use Rattle.cat_items.specs.declared.item.FieldValue.{FieldValue}
use Rattle.cat_items.specs.declared.item.FieldValue.TheVariants as value
use Rattle.cat_items.specs.declared.item.Item.TheInside.{Inside}

abbrev pub field_content_of : FieldValue → model.Content
field_content_of (value.Words ws) = model.Content.words ws
field_content_of (value.Keyword k) = model.Content.keyword k
field_content_of (value.Number n) = model.Content.number n
field_content_of (value.Labels ls) = model.Content.labels ls

-- each value under the name of its field
abbrev pub named_contents : List model.Field → List FieldValue → List model.FieldContent
named_contents [] vs = []
named_contents (f ∷ fs) [] = []
named_contents (f ∷ fs) (v ∷ vs) = record { name = f.name; content = field_content_of v } ∷ named_contents fs vs

-- the item has the field under its name, with a value of its kind
abbrev pub IsHad : model.Field → model.Field → FieldValue → Type 0
IsHad field own v = (own.name ≡ field.name) × model.IsContent field.kind (field_content_of v)

-- what a value is by its type alone: a text is UTF-8, each word is one, and a number has 64 bits
abbrev pub IsTyped : model.Content → Type 0
IsTyped (model.Content.words ws) = All IsWord ws
IsTyped (model.Content.keyword k) = IfSome k IsUtf8
IsTyped (model.Content.number z) = IfSome z (FitsSigned w64)
IsTyped (model.Content.labels ls) = All IsUtf8 ls

abbrev pub item_of_inside : Inside → model.Item
item_of_inside i = record { id = i.id; fields = named_contents (arc_value i.fields).items i.values.items; source = i.source.items }

-- what an item keeps: a value for each field, and the forms
pub record IsKept (i : Inside) : Type 0 where
  pub each : length i.values.items ≡ length (arc_value i.fields).items
  pub formed : IsFormedItem (item_of_inside i)
