-- Sorts, and the fields that they go by.
use Rattle.std.specs.Prelude.{◌≡◌, ℕ, Bool, true}
use Rattle.std.specs.List.{position_or_len}
use Rattle.cat_model.specs.Text.{Text, same_text}
use Rattle.cat_model.specs.Item.{Schema, kind_of}
use Rattle.cat_model.specs.Answer.{is_sort_kind}
use Rattle.cat_model.specs.Page as model
use Rattle.cat_search.specs.declared.sort.Sort.{Sort}
use Rattle.cat_search.specs.declared.sort.Sort.TheVariants as sort
use Rattle.cat_search.specs.declared.sort.OrderField.{OrderField}
use Rattle.cat_search.specs.declared.sort.Order.{Order}
use Rattle.cat_search.specs.declared.sort.Order.TheVariants as order

-- what a sort means
abbrev pub sort_of : Sort → model.Sort
sort_of sort.Added = model.Sort.added
sort_of (sort.Rising name) = model.Sort.rising name.now
sort_of (sort.Falling name) = model.Sort.falling name.now

-- the sort that the order is of
abbrev pub sort_in : Order → model.Sort
sort_in order.Added = model.Sort.added
sort_in (order.Rising field) = model.Sort.rising field.name.now
sort_in (order.Falling field) = model.Sort.falling field.name.now

-- the index of the field of this name, and past the last one where there is none
abbrev pub index_named : Text → Schema → ℕ
index_named name schema = position_or_len (λ f. same_text f.name name) schema

-- one can sort by the field of this name
abbrev pub can_sort_by : Schema → Text → Bool
can_sort_by schema name = is_sort_kind (kind_of schema name)

-- the field has this name and the name's index in the schema, and one can sort by it
abbrev pub IsSortField : Schema → Text → OrderField → Type 0
IsSortField schema name field =
    (field.name.now ≡ name) × (field.index ≡ index_named name schema) × (can_sort_by schema name ≡ true)

-- the field has its index in the schema
abbrev pub IsIndexed : Schema → OrderField → Type 0
IsIndexed schema field = field.index ≡ index_named field.name.now schema

-- the field of the order, if it goes by one, has its index in the schema
abbrev pub HasIndex : Schema → Order → Type 0
HasIndex schema order.Added = Unit {0}
HasIndex schema (order.Rising field) = IsIndexed schema field
HasIndex schema (order.Falling field) = IsIndexed schema field

-- the order is the sort's, by the field's index in the schema
pub record IsOrderOf (schema : Schema) (s : model.Sort) (o : Order) : Type 0 where
  pub sort : sort_in o ≡ s
  pub index : HasIndex schema o

-- the order goes by the field of this name
abbrev pub GoesBy : Order → Text → Type 0
GoesBy order.Added name = ⊥
GoesBy (order.Rising field) name = field.name.now ≡ name
GoesBy (order.Falling field) name = field.name.now ≡ name
