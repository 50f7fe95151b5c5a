-- The schema and the item that a text is.
use Rattle.std.specs.Prelude.{◌≡◌, ◌&&◌, true, List, [], ◌∷◌, map, length, nat_lt, ◌==◌, if◌then◌else◌, Option, Some, None, is_some, ok_or, option_map, option_and_then, Result, Ok, Err, bytes_eq, codes}
use Rattle.std.specs.List.{list_all}
use Rattle.std.specs.Map.{lookup}
use Rattle.std.specs.Option.{option_or, option_map_or}
use Rattle.std.specs.Str.{is_utf8}
use Rattle.serde_json.specs.Data.{Data, Items, no_items, item, Members, no_members, member}
use Rattle.serde_json.specs.Events.{items_len, members_len}
use Rattle.serde_json.specs.Find.{as_object, as_str, as_null, as_number, as_array, as_i64, get, get_member}
use Rattle.serde_json.specs.Read.{read}
use Rattle.cat_base.specs.declared.refusal.Refusal.{Refusal}
use Rattle.cat_base.specs.declared.refusal.Refusal.TheVariants.{Id, Json as NoJson, Kind as WrongKind, Large, Member}
use Rattle.cat_base.specs.Texts.{sorted_set}
use Rattle.cat_model.specs.Text.{Text}
use Rattle.cat_model.specs.Item.{Field, Kind, Schema, Content, FieldContent, Item, kind_of, is_field_name, is_id}
use Rattle.cat_model.specs.Words.{words}
use Rattle.cat_model.specs.Forms.{is_plain_byte}
use Rattle.cat_model.specs.Heard.{Json}
use Rattle.cat_model.specs.Limits.{field_limit, keyword_limit, label_limit, source_limit}

-- the JSON value that bytes are: none where they are no UTF-8, no JSON, or nest deeper than 127
abbrev pub json_of : Text → Option Data
json_of bytes = if is_utf8 bytes then read bytes else None

-- what is wrong with bytes before they are read as JSON: none, or no UTF-8
abbrev pub text_fault : Text → Option Refusal
text_fault bytes = if is_utf8 bytes && nat_lt 0 (length bytes) then None else Some NoJson

-- the kind that is named so
abbrev pub kind_named : Text → Option Kind
kind_named s =
    lookup (bytes_eq s)
    ((codes "text", Kind.text) ∷ (codes "keyword", Kind.keyword) ∷ (codes "number", Kind.number) ∷ (codes "facet", Kind.facet) ∷ [])

-- the field that a member is: its name has the form, and its value is the name of a kind
abbrev pub field_of : Text → Data → Option Field
field_of s d = if is_field_name s then option_map (λ k. record { name = s; kind = k }) (option_and_then kind_named (as_str d)) else None

-- the fields that members are, where each is one
abbrev pub fields_of : Members → Option Schema
fields_of no_members = Some []
fields_of (member name d ms) = option_and_then (λ f. option_map (λ fs. f ∷ fs) (fields_of ms)) (field_of name d)

-- the schema that the members of an object are: each is a field, and they are no more than `field_limit`
abbrev pub schema_in : Members → Option Schema
schema_in ms = if nat_lt field_limit (members_len ms) then None else fields_of ms

-- the schema that bytes are, or why they are none
abbrev pub schema_of : Text → Result Schema Refusal
schema_of bytes = option_map_or (λ d. ok_or (option_and_then schema_in (as_object d)) WrongKind) (json_of bytes) (Err NoJson)

-- ---- what is wrong with a text

-- a keyword has at most `keyword_limit` bytes, none of them a control character
abbrev pub keyword_fault : Text → Option Refusal
keyword_fault s = if nat_lt keyword_limit (length s) then Some Large else (if list_all is_plain_byte s then None else Some WrongKind)

-- a label is a keyword that isn't empty
abbrev pub label_fault : Text → Option Refusal
label_fault s = if length s == 0 then Some WrongKind else keyword_fault s

-- ---- what is wrong with a member

-- a label in a list is a text
abbrev pub some_label_fault : Data → Option Refusal
some_label_fault d = option_map_or label_fault (as_str d) (Some WrongKind)

-- the first label that is wrong
abbrev pub labels_fault : Items → Option Refusal
labels_fault no_items = None
labels_fault (item d ds) = option_or (some_label_fault d) (labels_fault ds)

-- a list has at most `label_limit` labels
abbrev pub list_fault : Items → Option Refusal
list_fault ds = if nat_lt label_limit (items_len ds) then Some Large else labels_fault ds

-- a value fits the kind of its field
abbrev pub value_fault : Kind → Data → Option Refusal
value_fault Kind.text d = if is_some (as_str d) then None else Some WrongKind
value_fault Kind.keyword d = option_map_or keyword_fault (as_str d) (Some WrongKind)
value_fault Kind.number d = if is_some (option_and_then as_i64 (as_number d)) then None else Some WrongKind
value_fault Kind.facet d = option_map_or list_fault (as_array d) (Some WrongKind)

-- a member that is null is as if absent
abbrev pub field_fault : Kind → Data → Option Refusal
field_fault k d = if is_some (as_null d) then None else value_fault k d

-- a member has the name of a field, `id` apart
abbrev pub member_fault : Schema → Text → Data → Option Refusal
member_fault fs name d =
    if bytes_eq name (codes "id") then None else option_map_or (λ k. field_fault k d) (kind_of fs name) (Some Member)

-- the first member that is wrong; members are in byte order of their names
abbrev pub first_fault : Schema → Members → Option Refusal
first_fault fs no_members = None
first_fault fs (member name d ms) = option_or (member_fault fs name d) (first_fault fs ms)

-- ---- what a field has

-- the labels of a list
abbrev pub label_texts : Items → List Text
label_texts no_items = []
label_texts (item d ds) = option_map_or (λ s. s ∷ label_texts ds) (as_str d) (label_texts ds)

-- the value of a field whose member is right, or absent
abbrev pub value_of : Kind → Option Data → Content
value_of Kind.text d = Content.words (option_map_or words (option_and_then as_str d) [])
value_of Kind.keyword d = Content.keyword (option_and_then as_str d)
value_of Kind.number d = Content.number (option_and_then as_i64 (option_and_then as_number d))
value_of Kind.facet d = Content.labels (option_map_or (λ ds. sorted_set (label_texts ds)) (option_and_then as_array d) [])

-- what each field has
abbrev pub contents_in : Schema → Members → List FieldContent
contents_in fs ms = map (λ f. record { name = f.name; content = value_of f.kind (get_member f.name ms) }) fs

-- ---- the item

-- the item that members with this id are, or why they are none
abbrev pub with_id : Schema → Text → Members → Text → Result Item Refusal
with_id fs bytes ms id =
    if is_id id then option_map_or Err (first_fault fs ms) (Ok (record { id = id; fields = contents_in fs ms; source = bytes })) else Err Id

-- the item that the members of an object are, or why they are none
abbrev pub of_members : Schema → Text → Members → Result Item Refusal
of_members fs bytes ms = option_map_or (with_id fs bytes ms) (option_and_then as_str (get_member (codes "id") ms)) (Err Id)

-- the item that a value of JSON is, or why it is none
abbrev pub of_value : Schema → Text → Data → Result Item Refusal
of_value fs bytes d = option_map_or (of_members fs bytes) (as_object d) (Err WrongKind)

-- what is wrong with the bytes of an item before they are read as JSON: too many, none, or no UTF-8
abbrev pub source_fault : Text → Option Refusal
source_fault bytes = if nat_lt source_limit (length bytes) then Some Large else text_fault bytes

-- a value of JSON passed each check for an item: it is an object, with an id, and no member of it is wrong
pub record PassesChecks (fs : Schema) (d : Data) (id : Text) : Type 0 where
  pub members : Members
  pub object : Some members ≡ as_object d
  pub has_id : option_and_then as_str (get (codes "id") d) ≡ Some id
  pub form : is_id id ≡ true
  pub right : first_fault fs members ≡ None

-- the item that bytes are under a schema, or the first refusal
abbrev pub item_of : Schema → Text → Result Item Refusal
item_of fs bytes = if nat_lt source_limit (length bytes) then Err Large else option_map_or (of_value fs bytes) (json_of bytes) (Err NoJson)

-- how texts of JSON are read
abbrev pub json : Json
json = record { schema_of = schema_of; item_of = item_of }
