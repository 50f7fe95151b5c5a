-- The parts of an item, and the values that stand for them.
use Rattle.std.proofs.Common.{◌≡◌, ◌+◌, ◌<◌, ◌≤◌, ℕ, zero, Bor, get_or, sym, suc, List, [], ◌∷◌, length, map, Bool, true, false, cond, not, Option, Some, None, Ok, refl, ap, ◌∙◌, subst, arith, rules, ltb}
use Rattle.std.specs.Prelude.{option_and_then, option_map, slice_get, find, MatchOption}
use Rattle.std.specs.List.{prefix_len, position, position_or_len, HoldsAt}
use Rattle.std.proofs.lemmas.Option.{slice_get_past}
use Rattle.std.specs.Option.{option_map_or}
use Rattle.serde_json.specs.Data.{Data, Items, Members}
use Rattle.serde_json.specs.Find.{as_str, as_array, get_member}
use Rattle.cat_base.specs.Texts.{sorted_set, IsTextSet}
use Rattle.cat_base.proofs.TextSets.{IsTextSet-nil, IsTextSet-sorted_set}
use Rattle.cat_model.specs.Text.{Text, same_text}
use Rattle.cat_model.specs.Item.{Field, Kind, Content, Item, Schema, IsContent, AreFields, IsItem}
use Rattle.cat_model.specs.Words.{lowered, runs, words}
use Rattle.cat_items.specs.declared.item.FieldValue.{FieldValue}
use Rattle.cat_items.specs.Contents.{field_content_of, named_contents}
use Rattle.cat_items.specs.Reading.{label_texts, value_of, contents_in, item_of}
use Rattle.cat_items.proofs.WholeItem.{item_whole}

-- ---- as many values as fields

-- the parts, from what their values mean
pub named_contents-map : (g : Field → Content) (fs : List Field) (vs : List FieldValue) → map field_content_of vs ≡ map g fs → named_contents fs vs ≡ map (λ f. record { name = f.name; content = g f }) fs
named_contents-map g [] vs e = refl
named_contents-map g (f ∷ fs) [] e = absurd (cc)
named_contents-map g (f ∷ fs) (v ∷ vs) e =
    let here : field_content_of v ≡ g f = (cc) in
    let later : map field_content_of vs ≡ map g fs = (cc) in
    λ i. record { name = f.name; content = here i } ∷ named_contents-map g fs vs later i

-- values that mean something for each field are as many as the fields
pub as_many : (g : Field → Content) (fs : List Field) (vs : List FieldValue) → map field_content_of vs ≡ map g fs → length vs ≡ length fs
as_many g [] [] e = refl
as_many g [] (v ∷ vs) e = absurd (cc)
as_many g (f ∷ fs) [] e = absurd (cc)
as_many g (f ∷ fs) (v ∷ vs) e = let later : map field_content_of vs ≡ map g fs = (cc) in ap suc (as_many g fs vs later)

-- what the values mean, from the parts
pub contents-named_contents : (fs : List Field) (vs : List FieldValue) → length vs ≡ length fs → map field_content_of vs ≡ map (λ p. p.content) (named_contents fs vs)
contents-named_contents [] [] e = refl
contents-named_contents [] (v ∷ vs) e = absurd (omega arith)
contents-named_contents (f ∷ fs) [] e = absurd (omega arith)
contents-named_contents (f ∷ fs) (v ∷ vs) e = ap (λ cs. field_content_of v ∷ cs) (contents-named_contents fs vs (omega arith))

item_at : {X : Type 0} (xs : List X) (i : ℕ) (x : X) → i < length xs → x ≡ get_or xs i x → slice_get xs i ≡ Some x
item_at [] i x lt e = absurd (omega arith)
item_at (y ∷ ys) zero x lt e = ap (λ z. Some z) (sym e)
item_at (y ∷ ys) (suc i) x lt e = item_at ys i x (omega arith) e

-- what a borrowed value means, where `get` gave it
pub content-got : (vs : List FieldValue) (i : ℕ) (r : Option (Bor FieldValue)) → MatchOption r (length vs ≤ i) (λ x. (i < length vs) × HoldsAt (λ y. x.now ≡ y) vs i) → option_map (λ v. field_content_of v.now) r ≡ option_map field_content_of (slice_get vs i)
content-got vs i None past = rw (slice_get_past vs i past) refl
content-got vs i (Some x) here = rw (item_at vs i x.now here.0 (here.1 x.now)) refl

-- the value at the place of the first field of a name is the content of the part of that name
content-at : (name : Text) (fs : List Field) (vs : List FieldValue) → length vs ≡ length fs
    → option_map field_content_of (slice_get vs (prefix_len (λ f. not (same_text f.name name)) fs)) ≡ option_map (λ p. p.content) (find (λ p. same_text p.name name) (named_contents fs vs))
content-at name [] [] e = refl
content-at name [] (v ∷ vs) e = absurd (omega arith)
content-at name (f ∷ fs) [] e = absurd (omega arith)
content-at name (f ∷ fs) (v ∷ vs) e = at (same_text f.name name) (content-at name fs vs (omega arith))
  where
    at : (b : Bool) → option_map field_content_of (slice_get vs (prefix_len (λ f. not (same_text f.name name)) fs)) ≡ option_map (λ p. p.content) (find (λ p. same_text p.name name) (named_contents fs vs))
        → option_map field_content_of (slice_get (v ∷ vs) (cond (not b) (1 + prefix_len (λ f. not (same_text f.name name)) fs) 0))
        ≡ option_map (λ p. p.content) (cond b (Some (record { name = f.name; content = field_content_of v })) (find (λ p. same_text p.name name) (named_contents fs vs)))
    at true h = refl
    at false h = let e : 1 + prefix_len (λ f. not (same_text f.name name)) fs ≡ suc (prefix_len (λ f. not (same_text f.name name)) fs) = omega arith in rw e h

abbrev names_field : Text → Field → Bool
names_field name = λ f. same_text f.name name

placed : (n len : ℕ) (b : Bool) (o : Option ℕ) → ltb n len ≡ b → o ≡ cond b (Some n) None → MatchOption o (len ≤ n) (λ i. i ≡ n)
placed n len true None test is = absurd (cc)
placed n len true (Some i) test is = (cc)
placed n len false None test is = grind (arith, rules)
placed n len false (Some i) test is = absurd (cc)

place_is : (name : Text) (fs : List Field) (o : Option ℕ) → o ≡ position (names_field name) fs → MatchOption o (length fs ≤ position_or_len (names_field name) fs) (λ i. i ≡ position_or_len (names_field name) fs)
place_is name fs o is = placed (position_or_len (names_field name) fs) (length fs) _ o refl is

-- no field of the name, and no part
pub content-none : (name : Text) (fs : List Field) (vs : List FieldValue) → length vs ≡ length fs → None ≡ position (names_field name) fs → None ≡ option_map (λ p. p.content) (find (λ p. same_text p.name name) (named_contents fs vs))
content-none name fs vs e is =
    let past = place_is name fs None is in
    ap (option_map field_content_of) (sym (slice_get_past vs (position_or_len (names_field name) fs) (omega arith))) ∙ content-at name fs vs e

-- the value at the place of the field of the name
pub content-some : (name : Text) (fs : List Field) (vs : List FieldValue) (i : ℕ) → length vs ≡ length fs → Some i ≡ position (names_field name) fs
    → option_map field_content_of (slice_get vs i) ≡ option_map (λ p. p.content) (find (λ p. same_text p.name name) (named_contents fs vs))
content-some name fs vs i e is = ap (λ n. option_map field_content_of (slice_get vs n)) (place_is name fs (Some i) is) ∙ content-at name fs vs e

-- ---- the parts of an item are those that its fields ask for

words_set : (o : Option Text) → IsTextSet (option_map_or words o [])
words_set None = IsTextSet-nil
words_set (Some s) = IsTextSet-sorted_set (map lowered (runs s))

labels_set : (o : Option Items) → IsTextSet (option_map_or (λ ds. sorted_set (label_texts ds)) o [])
labels_set None = IsTextSet-nil
labels_set (Some ds) = IsTextSet-sorted_set (label_texts ds)

IsContent-value_of : (k : Kind) (d : Option Data) → IsContent k (value_of k d)
IsContent-value_of Kind.text d = IsContent.words _ (words_set (option_and_then as_str d))
IsContent-value_of Kind.keyword d = IsContent.keyword _
IsContent-value_of Kind.number d = IsContent.number _
IsContent-value_of Kind.facet d = IsContent.labels _ (labels_set (option_and_then as_array d))

AreFields-contents_in : (fs : Schema) (ms : Members) → AreFields fs (contents_in fs ms)
AreFields-contents_in [] ms = tt
AreFields-contents_in (f ∷ fs) ms = ((refl, IsContent-value_of f.kind (get_member f.name ms)), AreFields-contents_in fs ms)

-- an item that is read has a part for each field, of the field's kind
pub IsItem-item_of : (fs : Schema) (bytes : Text) (i : Item) → item_of fs bytes ≡ Ok i → IsItem fs i
IsItem-item_of fs bytes i is = let w = item_whole fs bytes i is in subst (IsItem fs) w.is (AreFields-contents_in fs w.members)
