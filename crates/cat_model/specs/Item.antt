-- Items and records: Lucene's documents. The kinds of field answer to its TextField, a StringField that is sorted by too
-- (SortedDocValuesField), LongField and SortedSetDocValuesFacetField. Schemas, limits and the form of ids are our own.
use Rattle.std.specs.Prelude.{◌≡◌, ℕ, ℤ, ◌≤◌, ◌-◌, ◌&&◌, ◌||◌, ◌==◌, not, Bool, false, IsTrue, ltb, leb, length, map, codes, List, [], ◌∷◌, Option, Some, None, find, option_map}
use Rattle.std.specs.List.{AllByRecursion, list_all}
use Rattle.std.specs.Char.{is_ascii_graphic, is_ascii_digit, is_ascii_lowercase}
use Rattle.cat_base.specs.Texts.{IsTextSet}
use Rattle.cat_model.specs.Text.{Text, same_text}
use Rattle.cat_model.specs.Limits.{field_limit, id_limit, name_limit}

-- the kinds of field
pub data Kind : Type 0 where
  text : Kind
  keyword : Kind
  number : Kind
  facet : Kind

-- a field of the schema
pub record Field : Type 0 where
  pub name : Text
  pub kind : Kind

-- a lower letter, a digit or `_`
abbrev pub is_name_byte : ℕ → Bool
is_name_byte b = is_ascii_lowercase b || is_ascii_digit b || b == 95

-- 1 to `name_limit` bytes: a lower letter, then lower letters, digits and `_`
abbrev pub has_name_form : Text → Bool
has_name_form [] = false
has_name_form (b ∷ bs) = is_ascii_lowercase b && list_all is_name_byte bs && leb (length bs) (name_limit - 1)

-- the name of a field has that form, and isn't `id`
abbrev pub is_field_name : Text → Bool
is_field_name t = has_name_form t && not (same_text t (codes "id"))

-- the fields in byte order of their names
abbrev pub Schema : Type 0
Schema = List Field

-- at most `field_limit` fields, whose names have the form and rise by bytes
pub record IsSchema (schema : Schema) : Type 0 where
  pub few : length schema ≤ field_limit
  pub rising : IsTextSet (map (λ f. f.name) schema)
  pub named : AllByRecursion (λ f. IsTrue (is_field_name f.name)) schema

-- the kind of the field of this name, if there is one
abbrev pub kind_of : Schema → Text → Option Kind
kind_of schema name = option_map (λ f. f.kind) (find (λ f. same_text f.name name) schema)

-- what an item has in a field: a set is a rising list without doubles
pub data Content : Type 0 where
  words : List Text → Content
  keyword : Option Text → Content
  number : Option ℤ → Content
  labels : List Text → Content

-- a field of an item, and what the item has in it
pub record FieldContent : Type 0 where
  pub name : Text
  pub content : Content

-- an item: its id, its fields, and its source, the text of JSON that it came as
pub record Item : Type 0 where
  pub id : Text
  pub fields : List FieldContent
  pub source : Text

-- an id has 1 to `id_limit` bytes, each from `!` to `~`
abbrev pub is_id : Text → Bool
is_id t = ltb 0 (length t) && leb (length t) id_limit && list_all is_ascii_graphic t

-- the content is of the kind, and a set of words or of labels rises strictly
pub data IsContent : Kind → Content → Type 0 where
  words : (ws : List Text) → IsTextSet ws → IsContent Kind.text (Content.words ws)
  keyword : (k : Option Text) → IsContent Kind.keyword (Content.keyword k)
  number : (z : Option ℤ) → IsContent Kind.number (Content.number z)
  labels : (ls : List Text) → IsTextSet ls → IsContent Kind.facet (Content.labels ls)

-- one for each field of the schema, in its order, under its name and of its kind
abbrev pub AreFields : Schema → List FieldContent → Type 0
AreFields [] [] = Unit {0}
AreFields (f ∷ fs) (p ∷ ps) = ((p.name ≡ f.name) × IsContent f.kind p.content) × AreFields fs ps
AreFields _ _ = ⊥

-- the item has the fields of the schema
abbrev pub IsItem : Schema → Item → Type 0
IsItem schema i = AreFields schema i.fields

-- what the item has in the field of this name
abbrev pub content_of : Text → Item → Option Content
content_of name i = option_map (λ p. p.content) (find (λ p. same_text p.name name) i.fields)

-- the words of a text field, and none of another
abbrev pub words_in : Option Content → List Text
words_in (Some (Content.words ws)) = ws
words_in _ = []

-- the labels of a facet field, and none of another
abbrev pub labels_in : Option Content → List Text
labels_in (Some (Content.labels ls)) = ls
labels_in _ = []

-- the value of a keyword field, if there is one
abbrev pub keyword_in : Option Content → Option Text
keyword_in (Some (Content.keyword k)) = k
keyword_in _ = None

-- the value of a number field, if there is one
abbrev pub number_in : Option Content → Option ℤ
number_in (Some (Content.number z)) = z
number_in _ = None

-- an item under the number of the write that put it
pub record Record : Type 0 where
  pub number : ℕ
  pub item : Item
