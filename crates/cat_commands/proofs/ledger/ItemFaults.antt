-- What is wrong with the text of an item is no failure of a device, and no limit that is reached.
use Rattle.std.proofs.Common.{◌≡◌, Bool, true, false, length, subst}
use Rattle.std.specs.Prelude.{◌≢◌, ◌==◌, Option, Some, None, is_some, Result, Ok, Err, bytes_eq, codes, nat_lt, if◌then◌else◌}
use Rattle.std.specs.List.{list_all}
use Rattle.std.specs.Option.{option_and_then, option_map_or, option_or}
use Rattle.serde_json.specs.Data.{Data, Items, item, no_items, Members, member, no_members}
use Rattle.serde_json.specs.Events.{items_len}
use Rattle.serde_json.specs.Find.{as_array, as_i64, as_null, as_number, as_object, as_str, get_member}
use Rattle.cat_base.specs.declared.refusal.Refusal.{Refusal}
use Rattle.cat_base.specs.declared.refusal.Refusal.TheVariants.{Device, Id, Json, Kind, Large, Member, Spent}
use Rattle.cat_model.specs.Forms.{is_plain_byte}
use Rattle.cat_model.specs.Item as model
use Rattle.cat_model.specs.Limits.{keyword_limit, label_limit, source_limit}
use Rattle.cat_model.specs.Text.{Text}
use Rattle.cat_items.specs.Reading.{contents_in, field_fault, first_fault, item_of, json_of, keyword_fault, label_fault, labels_fault, list_fault, member_fault, of_members, of_value, some_label_fault, value_fault, with_id}

-- the refusal is neither
abbrev pub IsOfText : Refusal → Type 0
IsOfText e = (e ≢ Device) × (e ≢ Spent)

-- what is wrong, if something is, is neither
abbrev IsFault : Option Refusal → Type 0
IsFault None = Unit {0}
IsFault (Some e) = IsOfText e

-- the same of what a text is, or why it is nothing
abbrev IsRead : Result model.Item Refusal → Type 0
IsRead (Ok i) = Unit {0}
IsRead (Err e) = IsOfText e

either : {A : Type 0} (P : A → Type 0) (b : Bool) (x y : A) → P x → P y → P (if b then x else y)
either P true x y one other = one
either P false x y one other = other

first : (x y : Option Refusal) → IsFault x → IsFault y → IsFault (option_or x y)
first None y one other = other
first (Some e) y one other = one

of_some : {A B : Type 0} (P : B → Type 0) (f : A → B) (o : Option A) (d : B) → ((x : A) → P (f x)) → P d → P (option_map_or f o d)
of_some P f None d all none = none
of_some P f (Some x) d all none = all x

kind : IsFault (Some Kind)
kind = (λ h. cc h, λ h. cc h)

large : IsFault (Some Large)
large = (λ h. cc h, λ h. cc h)

keyword : (s : Text) → IsFault (keyword_fault s)
keyword s =
    either IsFault (nat_lt keyword_limit (length s)) (Some Large) (if list_all is_plain_byte s then None else Some Kind) large
    (either IsFault (list_all is_plain_byte s) None (Some Kind) tt kind)

label : (s : Text) → IsFault (label_fault s)
label s = either IsFault (length s == 0) (Some Kind) (keyword_fault s) kind (keyword s)

some_label : (d : Data) → IsFault (some_label_fault d)
some_label d = of_some IsFault label_fault (as_str d) (Some Kind) label kind

labels : (ds : Items) → IsFault (labels_fault ds)
labels no_items = tt
labels (item d ds) = first (some_label_fault d) (labels_fault ds) (some_label d) (labels ds)

list : (ds : Items) → IsFault (list_fault ds)
list ds = either IsFault (nat_lt label_limit (items_len ds)) (Some Large) (labels_fault ds) large (labels ds)

value : (k : model.Kind) (d : Data) → IsFault (value_fault k d)
value model.Kind.text d = either IsFault (is_some (as_str d)) None (Some Kind) tt kind
value model.Kind.keyword d = of_some IsFault keyword_fault (as_str d) (Some Kind) keyword kind
value model.Kind.number d = either IsFault (is_some (option_and_then as_i64 (as_number d))) None (Some Kind) tt kind
value model.Kind.facet d = of_some IsFault list_fault (as_array d) (Some Kind) list kind

field : (k : model.Kind) (d : Data) → IsFault (field_fault k d)
field k d = either IsFault (is_some (as_null d)) None (value_fault k d) tt (value k d)

one_member : (fs : model.Schema) (name : Text) (d : Data) → IsFault (member_fault fs name d)
one_member fs name d =
    either IsFault (bytes_eq name (codes "id")) None (option_map_or (λ k. field_fault k d) (model.kind_of fs name) (Some Member)) tt
    (of_some IsFault (λ k. field_fault k d) (model.kind_of fs name) (Some Member) (λ k. field k d) (λ h. cc h, λ h. cc h))

members : (fs : model.Schema) (ms : Members) → IsFault (first_fault fs ms)
members fs no_members = tt
members fs (member name d ms) = first (member_fault fs name d) (first_fault fs ms) (one_member fs name d) (members fs ms)

judged : (i : model.Item) (o : Option Refusal) → IsFault o → IsRead (option_map_or Err o (Ok i))
judged i None h = tt
judged i (Some e) h = h

named : (fs : model.Schema) (bytes : Text) (ms : Members) (id : Text) → IsRead (with_id fs bytes ms id)
named fs bytes ms id =
    let item : model.Item = record { id = id; fields = contents_in fs ms; source = bytes } in
    either IsRead (model.is_id id) (option_map_or Err (first_fault fs ms) (Ok item)) (Err Id)
    (judged item (first_fault fs ms) (members fs ms)) (λ h. cc h, λ h. cc h)

object : (fs : model.Schema) (bytes : Text) (ms : Members) → IsRead (of_members fs bytes ms)
object fs bytes ms =
    of_some IsRead (with_id fs bytes ms) (option_and_then as_str (get_member (codes "id") ms)) (Err Id) (named fs bytes ms) (λ h. cc h, λ h. cc h)

whole : (fs : model.Schema) (bytes : Text) (d : Data) → IsRead (of_value fs bytes d)
whole fs bytes d = of_some IsRead (of_members fs bytes) (as_object d) (Err Kind) (object fs bytes) kind

-- so is what is told of it
pub is_of_text : (fs : model.Schema) (bytes : Text) (e : Refusal) → item_of fs bytes ≡ Err e → IsOfText e
is_of_text fs bytes e is =
    let read = of_some IsRead (of_value fs bytes) (json_of bytes) (Err Json) (whole fs bytes) (λ h. cc h, λ h. cc h) in
    subst IsRead is (either IsRead (nat_lt source_limit (length bytes)) (Err Large) (option_map_or (of_value fs bytes) (json_of bytes) (Err Json)) large read)
