-- An item that is read has the forms of items.
use Rattle.std.proofs.Common.{◌≡◌, ℕ, ◌+◌, ◌≤◌, List, [], ◌∷◌, length, get_or, map, Bool, true, false, cond, not, ◌&&◌, eqb, ltb, false-eqb, Option, Some, None, Ordering, Less, Equal, Greater, nat_cmp, IsUtf8, refl, sym, ap, ◌∙◌, subst, arith, rules}
use Rattle.std.specs.Prelude.{All, option_map, find, bytes_eq, codes}
use Rattle.std.specs.Option.{option_or, option_map_or}
use Rattle.std.specs.List.{list_all, AllByRecursion}
use Rattle.std.specs.List.Sorted.{IsStrictlySortedBy}
use Rattle.std.specs.Ordering.{match_ordering, is_eq}
use Rattle.std.specs.BTreeSet.{insert_key}
use Rattle.std.specs.Cmp.Lexicographic.{slice_cmp}
use Rattle.std.proofs.lemmas.List.Elements.{All-nil, All-cons, All-head, All-tail}
use Rattle.std.proofs.lemmas.Map.Text.{is_eq-slice_cmp}
use Rattle.std.proofs.lemmas.Slice.Eq.{bytes_eq-Decides}
use Rattle.std.specs.Str.{is_utf8}
use Rattle.json.specs.Lex.{lex, punctuate}
use Rattle.json.specs.Json.{value}
use Rattle.serde_json.specs.Read.{read}
use Rattle.serde_json.specs.Data.{Data, null, boolean, number, string, array, object, Items, no_items, item, Members, no_members, member}
use Rattle.serde_json.specs.Events.{items_len}
use Rattle.serde_json.specs.Find.{get, get_member, as_object, as_str}
use Rattle.cat_base.specs.declared.refusal.Refusal.{Refusal}
use Rattle.cat_base.specs.declared.refusal.Refusal.TheVariants as refusal
use Rattle.cat_base.specs.Texts.{sorted_set, IsTextSet}
use Rattle.cat_model.specs.Text.{Text, same_text}
use Rattle.cat_model.specs.Item.{Field, Kind, Schema, IsSchema, is_id, is_field_name, has_name_form, kind_of}
use Rattle.cat_model.specs.Forms.{is_plain_byte, IsKeyword, IsLabel, IsFormed, IsFormedItem}
use Rattle.cat_items.specs.declared.item.FieldValue.{FieldValue}
use Rattle.cat_items.specs.Contents.{field_content_of, named_contents, IsTyped}
use Rattle.cat_items.specs.Reading.{json_of, keyword_fault, label_fault, some_label_fault, labels_fault, list_fault, field_fault, member_fault, first_fault, label_texts, value_of}
use Rattle.cat_items.proofs.LoweredRuns.{All-sorted_set}
use Rattle.cat_items.proofs.Names.{names}

-- ---- keywords and labels

at_most_128 : (n : ℕ) → ltb 128 n ≡ false → n ≤ 128
at_most_128 n h = grind (arith, rules)

at_most_64 : (n : ℕ) → ltb 64 n ≡ false → n ≤ 64
at_most_64 n h = grind (arith, rules)

keyword_form : (t : Text) → IsUtf8 t → keyword_fault t ≡ None → IsKeyword t
keyword_form t utf8 right = by (ltb 128 (length t)) (list_all is_plain_byte t) refl refl right
  where
    by : (long plain : Bool) → ltb 128 (length t) ≡ long → list_all is_plain_byte t ≡ plain → cond long (Some refusal.Large) (cond plain None (Some refusal.Kind)) ≡ None → IsKeyword t
    by true plain is_long is_plain right = absurd (cc)
    by false true is_long is_plain right = record { utf8 = utf8; short = at_most_128 (length t) is_long; plain = is_plain }
    by false false is_long is_plain right = absurd (cc)

label_form : (t : Text) → IsUtf8 t → label_fault t ≡ None → IsLabel t
label_form t utf8 right = by (eqb (length t) 0) refl right
  where
    by : (empty : Bool) → eqb (length t) 0 ≡ empty → cond empty (Some refusal.Kind) (keyword_fault t) ≡ None → IsLabel t
    by true is_empty right = absurd (cc)
    by false is_empty right = record { keyword = keyword_form t utf8 right; some = omega (arith, false-eqb (length t) 0 (sym is_empty)) }

both_right : (a b : Option Refusal) → option_or a b ≡ None → (a ≡ None) × (b ≡ None)
both_right None b e = (refl, e)
both_right (Some r) b e = absurd (cc)

pub each_right : (ds : Items) → labels_fault ds ≡ None → All (λ s. label_fault s ≡ None) (label_texts ds)
each_right no_items right = All-nil (λ s. label_fault s ≡ None)
each_right (item d ds) right = let h = both_right (some_label_fault d) (labels_fault ds) right in by (as_str d) h.0 (each_right ds h.1)
  where
    by : (o : Option Text) → option_map_or label_fault o (Some refusal.Kind) ≡ None → All (λ s. label_fault s ≡ None) (label_texts ds) → All (λ s. label_fault s ≡ None) (option_map_or (λ s. s ∷ label_texts ds) o (label_texts ds))
    by None right rest = rest
    by (Some s) right rest = All-cons (λ s. label_fault s ≡ None) s (label_texts ds) right rest

length-label_texts : (ds : Items) → length (label_texts ds) ≤ items_len ds
length-label_texts no_items = omega arith
length-label_texts (item d ds) = by (as_str d) (length-label_texts ds)
  where
    by : (o : Option Text) → length (label_texts ds) ≤ items_len ds → length (option_map_or (λ s. s ∷ label_texts ds) o (label_texts ds)) ≤ items_len (item d ds)
    by None le = omega arith
    by (Some s) le = omega arith

length-insert_key : (xs : List Text) (k : Text) → length (insert_key (slice_cmp nat_cmp) xs k) ≤ length xs + 1
length-insert_key [] k = omega arith
length-insert_key (x ∷ xs) k = by (slice_cmp nat_cmp k x) (length-insert_key xs k)
  where
    by : (r : Ordering) → length (insert_key (slice_cmp nat_cmp) xs k) ≤ length xs + 1 → length (match_ordering r (k ∷ x ∷ xs) (x ∷ xs) (x ∷ insert_key (slice_cmp nat_cmp) xs k)) ≤ length (x ∷ xs) + 1
    by Less le = omega arith
    by Equal le = omega arith
    by Greater le = omega arith

-- a set has no more texts than its list
length-sorted_set : (xs : List Text) → length (sorted_set xs) ≤ length xs
length-sorted_set [] = omega arith
length-sorted_set (x ∷ xs) = let rest = length-sorted_set xs in let more = length-insert_key (sorted_set xs) x in omega arith

labels_form : (ds : Items) → list_fault ds ≡ None → All IsUtf8 (sorted_set (label_texts ds)) → IsFormed (value_of Kind.facet (Some (array ds)))
labels_form ds right utf8 = by (ltb 64 (items_len ds)) refl right
  where
    by : (many : Bool) → ltb 64 (items_len ds) ≡ many → cond many (Some refusal.Large) (labels_fault ds) ≡ None → (length (sorted_set (label_texts ds)) ≤ 64) × All IsLabel (sorted_set (label_texts ds))
    by true is_many right = absurd (cc)
    by false is_many right =
        let few = at_most_64 (items_len ds) is_many in
        let texts = length-label_texts ds in
        let set = length-sorted_set (label_texts ds) in
        let each = All-sorted_set (λ s. label_fault s ≡ None) (label_texts ds) (each_right ds right) in
        (omega arith, λ k d lt. label_form (get_or (sorted_set (label_texts ds)) k d) (utf8 k d lt) (each k d lt))

-- ---- the value of a member

-- the member is absent or has no fault
abbrev pub IsRight : Kind → Option Data → Type 0
IsRight k o = option_map_or (field_fault k) o None ≡ None

value_form : (k : Kind) (o : Option Data) → IsRight k o → IsTyped (value_of k o) → IsFormed (value_of k o)
value_form Kind.text o right typed = typed
value_form Kind.keyword None right typed = tt
value_form Kind.keyword (Some null) right typed = tt
value_form Kind.keyword (Some (boolean b)) right typed = tt
value_form Kind.keyword (Some (number n)) right typed = tt
value_form Kind.keyword (Some (string s)) right typed = keyword_form s typed right
value_form Kind.keyword (Some (array ds)) right typed = tt
value_form Kind.keyword (Some (object ms)) right typed = tt
value_form Kind.number o right typed = typed
value_form Kind.facet None right typed = (omega arith, All-nil IsLabel)
value_form Kind.facet (Some null) right typed = (omega arith, All-nil IsLabel)
value_form Kind.facet (Some (boolean b)) right typed = (omega arith, All-nil IsLabel)
value_form Kind.facet (Some (number n)) right typed = (omega arith, All-nil IsLabel)
value_form Kind.facet (Some (string s)) right typed = (omega arith, All-nil IsLabel)
value_form Kind.facet (Some (array ds)) right typed = labels_form ds right typed
value_form Kind.facet (Some (object ms)) right typed = (omega arith, All-nil IsLabel)

-- ---- the members of the fields

same_from_Equal : (a b : Text) → slice_cmp nat_cmp a b ≡ Equal → a ≡ b
same_from_Equal a b e = (bytes_eq-Decides a b).0 (sym (is_eq-slice_cmp a b) ∙ ap is_eq e)

other_from_Less : (a b : Text) → slice_cmp nat_cmp a b ≡ Less → same_text a b ≡ false
other_from_Less a b e = sym (is_eq-slice_cmp a b) ∙ ap is_eq e

-- where no member has a fault, the one of a name has none
member_right : (fs : Schema) (ms : Members) (name : Text) → first_fault fs ms ≡ None → option_map_or (member_fault fs name) (get_member name ms) None ≡ None
member_right fs no_members name right = refl
member_right fs (member n d ms) name right =
    let h = both_right (member_fault fs n d) (first_fault fs ms) right in
    by (slice_cmp nat_cmp name n) refl h.0 (member_right fs ms name h.1)
  where
    by : (r : Ordering) → slice_cmp nat_cmp name n ≡ r → member_fault fs n d ≡ None → option_map_or (member_fault fs name) (get_member name ms) None ≡ None
        → option_map_or (member_fault fs name) (match_ordering r (get_member name ms) (Some d) (get_member name ms)) None ≡ None
    by Less is here later = later
    by Equal is here later = ap (λ m. member_fault fs m d) (same_from_Equal name n is) ∙ here
    by Greater is here later = later

-- the names differ, so each field is found by its own
pub kinds : (fs : List Field) → IsTextSet (names fs) → AllByRecursion (λ f. kind_of fs f.name ≡ Some f.kind) fs
unfolding IsStrictlySortedBy
kinds [] rising = tt
kinds (f ∷ fs) rising = (
  ap (λ b. option_map (λ g. g.kind) (cond b (Some f) (find (λ g. same_text g.name f.name) fs))) ((bytes_eq-Decides f.name f.name).1 refl),
  later fs rising.0 (kinds fs rising.1),
)
  where
    later : (gs : List Field) → AllByRecursion (λ y. slice_cmp nat_cmp f.name y ≡ Less) (names gs) → AllByRecursion (λ g. kind_of fs g.name ≡ Some g.kind) gs → AllByRecursion (λ g. kind_of (f ∷ fs) g.name ≡ Some g.kind) gs
    later [] above found = tt
    later (g ∷ gs) above found = (
      ap (λ b. option_map (λ h. h.kind) (cond b (Some f) (find (λ h. same_text h.name g.name) fs))) (other_from_Less f.name g.name above.0) ∙ found.0,
      later gs above.1 found.1,
    )

not_id : (name : Text) → is_field_name name ≡ true → bytes_eq name (codes "id") ≡ false
not_id name h = by (has_name_form name) (bytes_eq name (codes "id")) h
  where
    by : (form same : Bool) → (form && not same) ≡ true → same ≡ false
    by true true e = (cc)
    by true false e = refl
    by false same e = absurd (cc)

field_right : (fs : Schema) (name : Text) (k : Kind) (o : Option Data) → is_field_name name ≡ true → kind_of fs name ≡ Some k → option_map_or (member_fault fs name) o None ≡ None → IsRight k o
field_right fs name k None named kind right = refl
field_right fs name k (Some d) named kind right =
    ap (λ found. option_map_or (λ k. field_fault k d) found (Some refusal.Member)) (sym kind)
    ∙ ap (λ b. cond b None (option_map_or (λ k. field_fault k d) (kind_of fs name) (Some refusal.Member))) (sym (not_id name named))
    ∙ right

pub fields_right : (fs gs : List Field) (ms : Members) → first_fault fs ms ≡ None → AllByRecursion (λ g. is_field_name g.name ≡ true) gs → AllByRecursion (λ g. kind_of fs g.name ≡ Some g.kind) gs
    → AllByRecursion (λ g. IsRight g.kind (get_member g.name ms)) gs
fields_right fs [] ms right named found = tt
fields_right fs (g ∷ gs) ms right named found =
    (field_right fs g.name g.kind (get_member g.name ms) named.0 found.0 (member_right fs ms g.name right), fields_right fs gs ms right named.1 found.1)

-- ---- the item

parts_form : (g : Field → Option Data) (fs : List Field) (vs : List FieldValue) → map field_content_of vs ≡ map (λ f. value_of f.kind (g f)) fs → AllByRecursion (λ f. IsRight f.kind (g f)) fs → All (λ v. IsTyped (field_content_of v)) vs
    → All (λ p. IsFormed p.content) (named_contents fs vs)
parts_form g [] vs e right typed = All-nil (λ p. IsFormed p.content)
parts_form g (f ∷ fs) [] e right typed = All-nil (λ p. IsFormed p.content)
parts_form g (f ∷ fs) (v ∷ vs) e right typed =
    let here : field_content_of v ≡ value_of f.kind (g f) = (cc) in
    let later : map field_content_of vs ≡ map (λ f. value_of f.kind (g f)) fs = (cc) in
    let formed = value_form f.kind (g f) right.0 (subst IsTyped here (All-head (λ v. IsTyped (field_content_of v)) v vs typed)) in
    All-cons (λ p. IsFormed p.content) _ (named_contents fs vs) (subst IsFormed (sym here) formed) (parts_form g fs vs later right.1 (All-tail (λ v. IsTyped (field_content_of v)) v vs typed))

-- no bytes are no JSON
read_none : read [] ≡ None
unfolding lex punctuate value
read_none = refl

none_read : (b : Bool) → cond b (read []) None ≡ None
none_read true = read_none
none_read false = refl

pub some_bytes : (bytes : Text) (d : Data) → json_of bytes ≡ Some d → 1 ≤ length bytes
some_bytes [] d e = let none = none_read (is_utf8 []) in absurd (cc)
some_bytes (b ∷ bytes) d e = omega arith

object_parts : (fs : Schema) (vs : List FieldValue) (d : Data) (ms : Members) → IsSchema fs → Some ms ≡ as_object d → first_fault fs ms ≡ None → map field_content_of vs ≡ map (λ f. value_of f.kind (get f.name d)) fs → All (λ v. IsTyped (field_content_of v)) vs
    → All (λ p. IsFormed p.content) (named_contents fs vs)
object_parts fs vs null ms ok obj right e typed = absurd (cc)
object_parts fs vs (boolean b) ms ok obj right e typed = absurd (cc)
object_parts fs vs (number n) ms ok obj right e typed = absurd (cc)
object_parts fs vs (string s) ms ok obj right e typed = absurd (cc)
object_parts fs vs (array ds) ms ok obj right e typed = absurd (cc)
object_parts fs vs (object ns) ms ok obj right e typed =
    let same : ms ≡ ns = (cc) in
    parts_form (λ f. get_member f.name ns) fs vs e (fields_right fs fs ns (subst (λ m. first_fault fs m ≡ None) same right) ok.named (kinds fs ok.rising)) typed

-- what the calls that make an item say: each name that ends in `_is` ties what was copied to what it came from
pub IsFormedItem-read : (fs shared : Schema) (vs : List FieldValue) (bytes source form id : Text) (d : Data) (ms : Members) → IsSchema fs → shared ≡ fs → length bytes ≤ 8192 → source ≡ bytes → json_of bytes ≡ Some d → Some ms ≡ as_object d
    → first_fault fs ms ≡ None → map field_content_of vs ≡ map (λ f. value_of f.kind (get f.name d)) fs → All (λ v. IsTyped (field_content_of v)) vs → is_id form ≡ true → id ≡ form
    → IsFormedItem (record { id = id; fields = named_contents shared vs; source = source })
IsFormedItem-read fs shared vs bytes source form id d ms ok shared_is small source_is json obj right values typed formed id_is =
    let some = some_bytes bytes d json in
    let long = ap length source_is in
    record {
      id = ap is_id id_is ∙ formed;
      source = (omega arith, omega arith);
      fields = subst (λ s. All (λ p. IsFormed p.content) (named_contents s vs)) (sym shared_is) (object_parts fs vs d ms ok obj right values typed);
    }
