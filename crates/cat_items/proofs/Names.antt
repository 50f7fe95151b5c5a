-- The fields of a schema have the names of the object's members, in their order.
use Rattle.std.proofs.Common.{◌≡◌, ℕ, suc, List, [], ◌∷◌, ◌++◌, length, append-nil, map, Bool, true, false, cond, Option, Some, None, option_map, refl, sym, ap, ◌∙◌, subst, nat_cmp, Ordering, Less, Equal, Greater, IsTrue, ◌+◌, get_or, arith}
use Rattle.std.specs.Prelude.{◌↔◌, option_and_then, String, string_bytes}
use Rattle.std.specs.List.{AllByRecursion, IsAllAdjacentAnswer}
use Rattle.std.specs.List.Sorted.{IsStrictlySortedBy}
use Rattle.std.specs.Map.{keys_of}
use Rattle.std.specs.String.{string_cmp}
use Rattle.std.specs.Ordering.{is_lt}
use Rattle.std.specs.Cmp.Lexicographic.{slice_cmp, nat_list_cmp_total}
use Rattle.std.proofs.Math.ListN.{get_or-map, length-map}
use Rattle.std.proofs.lemmas.Bool.{true≢false}
use Rattle.std.proofs.lemmas.Map.Keys.{sorted_from_all_adjacent, Less-from_sorted}
use Rattle.std.specs.declared.alloc.Global.{Global}
use Rattle.serde_json.specs.Data.{Data, Members, no_members, member}
use Rattle.serde_json.specs.Events.{members_len}
use Rattle.serde_json.specs.Find.{as_str}
use Rattle.serde_json.specs.View.{members_view}
use Rattle.serde_json.specs.declared.value.Value.{Value}
use Rattle.cat_base.specs.Texts.{IsTextSet}
use Rattle.cat_model.specs.Item.{Field, Kind, is_field_name}
use Rattle.cat_items.specs.Reading.{kind_named, field_of, fields_of}

abbrev Entry : Type 0
Entry = String Global × Value

abbrev pub names : List Field → List (List ℕ)
names fs = map (λ f. f.name) fs

-- the names of the members, in their order
abbrev pub names_in : Members → List (List ℕ)
names_in no_members = []
names_in (member name d ms) = name ∷ names_in ms

abbrev keys : List Entry → List (List ℕ)
keys es = map string_bytes (keys_of es)

-- ---- order

below_keys : (k : String Global) (ks : List (String Global)) → AllByRecursion (λ y. string_cmp k y ≡ Less) ks → AllByRecursion (λ y. slice_cmp nat_cmp (string_bytes k) y ≡ Less) (map string_bytes ks)
below_keys k [] all = tt
below_keys k (x ∷ ks) all = (all.0, below_keys k ks all.1)

rising_keys : (ks : List (String Global)) → IsStrictlySortedBy string_cmp ks → IsTextSet (map string_bytes ks)
unfolding IsStrictlySortedBy
rising_keys [] sorted = tt
rising_keys (k ∷ ks) sorted = (below_keys k ks sorted.0, rising_keys ks sorted.1)

-- ---- names

record IsFirst (o : Option Field) (p : Option (List Field)) (fs : List Field) : Type 0 where
  first : Field
  rest : List Field
  is_first : o ≡ Some first
  is_rest : p ≡ Some rest
  whole : fs ≡ first ∷ rest

parts : (o : Option Field) (p : Option (List Field)) (fs : List Field) → option_and_then (λ f. option_map (λ fs. f ∷ fs) p) o ≡ Some fs → IsFirst o p fs
parts None p fs e = absurd (cc)
parts (Some f) None fs e = absurd (cc)
parts (Some f) (Some rest) fs e = record { first = f; rest = rest; is_first = refl; is_rest = refl; whole = (cc) }

abbrev made : List ℕ → Bool → Option Kind → Option Field
made name b o = cond b (option_map (λ k. record { name = name; kind = k }) o) None

-- a field that is made has that name, which has the form
made-name : (name : List ℕ) (b : Bool) (o : Option Kind) (f : Field) → made name b o ≡ Some f → (f.name ≡ name) × (b ≡ true)
made-name name true None f e = absurd (cc)
made-name name true (Some k) f e = (let same : f ≡ record { name = name; kind = k } = (cc) in ap (λ g. g.name) same, refl)
made-name name false o f e = absurd (cc)

field_of-name : (name : List ℕ) (d : Data) (f : Field) → field_of name d ≡ Some f → (f.name ≡ name) × (is_field_name name ≡ true)
field_of-name name d f e = made-name name (is_field_name name) (option_and_then kind_named (as_str d)) f e

names_are : (ms : Members) (fs : List Field) → fields_of ms ≡ Some fs → names fs ≡ names_in ms
names_are no_members fs e = let none : fs ≡ [] = (cc) in ap names none
names_are (member name d ms) fs e =
    let p = parts (field_of name d) (fields_of ms) fs e in
    let first = (field_of-name name d p.first p.is_first).0 in
    let rest = names_are ms p.rest p.is_rest in
    ap names p.whole ∙ (λ i. first i ∷ rest i)

-- each field's name has the form of one
pub all_named : (ms : Members) (fs : List Field) → fields_of ms ≡ Some fs → AllByRecursion (λ f. is_field_name f.name ≡ true) fs
all_named no_members fs e = let none : fs ≡ [] = (cc) in subst (AllByRecursion (λ f. is_field_name f.name ≡ true)) (sym none) tt
all_named (member name d ms) fs e =
    let p = parts (field_of name d) (fields_of ms) fs e in
    let n = field_of-name name d p.first p.is_first in
    subst (AllByRecursion (λ f. is_field_name f.name ≡ true)) (sym p.whole) (ap is_field_name n.0 ∙ n.1, all_named ms p.rest p.is_rest)

-- the fields' names rise, since the members' do
pub names_rise : (ms : Members) (fs : List Field) → IsTextSet (names_in ms) → fields_of ms ≡ Some fs → IsTextSet (names fs)
names_rise ms fs sorted e = subst IsTextSet (sym (names_are ms fs e)) sorted

-- as many fields as members
pub as_many : (ms : Members) (fs : List Field) → fields_of ms ≡ Some fs → length fs ≡ members_len ms
as_many no_members fs e = let none : fs ≡ [] = (cc) in ap length none
as_many (member name d ms) fs e =
    let p = parts (field_of name d) (fields_of ms) fs e in
    ap length p.whole ∙ ap suc (as_many ms p.rest p.is_rest)

names_viewed : (es : List Entry) → names_in (members_view es) ≡ keys es
names_viewed [] = refl
names_viewed (m ∷ es) = ap (λ ks. string_bytes m.0 ∷ ks) (names_viewed es)

pub rising_names : (es : List Entry) (fs : List Field) → IsStrictlySortedBy string_cmp (keys_of es) → fields_of (members_view es) ≡ Some fs → IsTextSet (names fs)
rising_names es fs sorted e = names_rise (members_view es) fs (subst IsTextSet (sym (names_viewed es)) (rising_keys (keys_of es) sorted)) e

-- at the end of the walk
pub all_read : (old : List Field) (es : List Entry) (all : Option (List Field)) → es ≡ [] → option_map (λ fs. old ++ fs) (fields_of (members_view es)) ≡ all → all ≡ Some old
all_read old es all none done = sym done ∙ ap (λ l. option_map (λ fs. old ++ fs) (fields_of (members_view l))) none ∙ ap Some (append-nil old)

-- ---- fields whose neighbours rise

abbrev pub comes_before : Field → Field → Bool
comes_before f g = is_lt (slice_cmp nat_cmp f.name g.name)

less_from_is_lt : (r : Ordering) → true ≡ is_lt r → r ≡ Less
less_from_is_lt Less e = refl
less_from_is_lt Equal e = absurd (cc)
less_from_is_lt Greater e = absurd (cc)

abbrev none : Field
none = record { name = []; kind = Kind.text }

name-at : (fs : List Field) (k : ℕ) → get_or (names fs) k [] ≡ (get_or fs k none).name
name-at fs k = get_or-map (λ (f : Field). f.name) fs k none

pair-at : (fs : List Field) (k : ℕ) → slice_cmp nat_cmp (get_or (names fs) k []) (get_or (names fs) (k + 1) []) ≡ slice_cmp nat_cmp (get_or fs k none).name (get_or fs (k + 1) none).name
pair-at fs k = λ i. slice_cmp nat_cmp (name-at fs k i) (name-at fs (k + 1) i)

-- each field before the next by its name: that is, the names rise
pub rising_fields : (fs : List Field) (r : Bool) → IsAllAdjacentAnswer (λ f g b. b ≡ comes_before f g) fs r → IsTrue r ↔ IsTextSet (names fs)
rising_fields fs true all = (
  λ h. sorted_from_all_adjacent nat_list_cmp_total (names fs) [] (λ k lt. pair-at fs k ∙ less_from_is_lt _ (all k none (omega (arith, lt, length-map fs (λ (f : Field). f.name))))),
  λ h. refl,
)
rising_fields fs false (k, lt, out) = (
  λ h. absurd (true≢false (sym h)),
  λ sorted. out none ∙ ap is_lt (sym (pair-at fs k) ∙ Less-from_sorted (slice_cmp nat_cmp) (names fs) k (k + 1) [] sorted (omega arith) (omega (arith, lt, length-map fs (λ (f : Field). f.name)))),
)
