-- A text that is a schema keeps the rules for schemas, since the members of an object that is read stand in byte order.
use Rattle.std.proofs.Common.{◌≡◌, ℕ, ◌≤◌, List, [], ◌∷◌, Bool, true, false, cond, ltb, Option, Some, None, Ok, Err, Ordering, Less, Equal, Greater, nat_cmp, option_map, refl, sym, ap, ◌∙◌, subst, arith, rules}
use Rattle.std.specs.Prelude.{ok_or, option_and_then}
use Rattle.std.specs.Option.{option_map_or}
use Rattle.std.specs.Ordering.{match_ordering}
use Rattle.std.specs.Cmp.Lexicographic.{slice_cmp}
use Rattle.std.specs.BTreeSet.{insert_key}
use Rattle.std.specs.Str.{is_utf8}
use Rattle.json.specs.Lex.{tokens}
use Rattle.json.specs.Json as json
use Rattle.serde_json.specs.Data.{Num, Data, null, boolean, number, string, array, object, Items, Members, no_members, member, put}
use Rattle.serde_json.specs.Events.{members_len}
use Rattle.serde_json.specs.Find.{as_object}
use Rattle.serde_json.specs.Read.{number_of, of_json, of_items, of_members, max_depth, read}
use Rattle.cat_base.specs.declared.refusal.Refusal.{Refusal}
use Rattle.cat_base.specs.declared.refusal.Refusal.TheVariants.{Json as NoJson, Kind as WrongKind}
use Rattle.cat_base.specs.Texts.{sorted_set, IsTextSet}
use Rattle.cat_base.proofs.TextSets.{IsTextSet-sorted_set}
use Rattle.cat_model.specs.Text.{Text}
use Rattle.cat_model.specs.Item.{Schema, IsSchema}
use Rattle.cat_model.proofs.Sayings.{one_hearing, one_way}
use Rattle.cat_items.specs.Reading as reading
use Rattle.cat_items.specs.Laws.{TextsOfSchemasKeepTheRules, EveryLineIsHeardOneWay, EveryInputIsHeardOneWay}
use Rattle.cat_items.proofs.Names.{names_in, names_rise, all_named, as_many}

-- ---- the members that are read

-- the names of the members are the set of some texts
abbrev NamesAreSet : Members → Type 0
NamesAreSet ms = (texts : List Text) × (names_in ms ≡ sorted_set texts)

names_in-put : (k : Text) (d : Data) (ms : Members) → names_in (put k d ms) ≡ insert_key (slice_cmp nat_cmp) (names_in ms) k
names_in-put k d no_members = refl
names_in-put k d (member l e ms) = by (slice_cmp nat_cmp k l) (names_in-put k d ms)
  where
    by : (r : Ordering) → names_in (put k d ms) ≡ insert_key (slice_cmp nat_cmp) (names_in ms) k
        → names_in (match_ordering r (member k d (member l e ms)) (member l d ms) (member l e (put k d ms)))
        ≡ match_ordering r (k ∷ l ∷ names_in ms) (l ∷ names_in ms) (l ∷ insert_key (slice_cmp nat_cmp) (names_in ms) k)
    by Less later = refl
    by Equal later = refl
    by Greater later = ap (λ ks. l ∷ ks) later

NamesAreSet-put : (k : Text) (d : Data) (ms : Members) → NamesAreSet ms → NamesAreSet (put k d ms)
NamesAreSet-put k d ms (texts, is) = (k ∷ texts, names_in-put k d ms ∙ ap (λ ks. insert_key (slice_cmp nat_cmp) ks k) is)

-- members go in one after another, each at the place of its name
of_members-set : (js : json.Members) (found ms : Members) → NamesAreSet found → of_members js found ≡ Some ms → NamesAreSet ms
of_members-set json.no_members found ms set e = let same : found ≡ ms = (cc) in subst NamesAreSet same set
of_members-set (json.member k j js) found ms set e = rest (of_json j) (λ d. of_members-set js (put k d found) ms (NamesAreSet-put k d found set)) e
  where
    rest : (o : Option Data) → ((d : Data) → of_members js (put k d found) ≡ Some ms → NamesAreSet ms) → option_and_then (λ d. of_members js (put k d found)) o ≡ Some ms → NamesAreSet ms
    rest None later e = absurd (cc)
    rest (Some d) later e = later d e

-- the value, if it is an object, has its members so
abbrev ObjectsAreSets : Data → Type 0
ObjectsAreSets d = (ms : Members) → Some ms ≡ as_object d → NamesAreSet ms

of_json-sets : (j : json.Json) (d : Data) → of_json j ≡ Some d → ObjectsAreSets d
of_json-sets json.null d e = let same : null ≡ d = (cc) in subst ObjectsAreSets same (λ ms is. absurd (cc))
of_json-sets (json.boolean b) d e = let same : boolean b ≡ d = (cc) in subst ObjectsAreSets same (λ ms is. absurd (cc))
of_json-sets (json.number s) d e = by (number_of s) e
  where
    by : (o : Option Num) → option_map number o ≡ Some d → ObjectsAreSets d
    by None e = absurd (cc)
    by (Some n) e = let same : number n ≡ d = (cc) in subst ObjectsAreSets same (λ ms is. absurd (cc))
of_json-sets (json.string s) d e = let same : string s ≡ d = (cc) in subst ObjectsAreSets same (λ ms is. absurd (cc))
of_json-sets (json.array js) d e = by (of_items js) e
  where
    by : (o : Option Items) → option_map array o ≡ Some d → ObjectsAreSets d
    by None e = absurd (cc)
    by (Some ds) e = let same : array ds ≡ d = (cc) in subst ObjectsAreSets same (λ ms is. absurd (cc))
of_json-sets (json.object js) d e = by (of_members js no_members) refl e
  where
    by : (o : Option Members) → of_members js no_members ≡ o → option_map object o ≡ Some d → ObjectsAreSets d
    by None whole e = absurd (cc)
    by (Some found) whole e =
        let same : object found ≡ d = (cc) in
        subst ObjectsAreSets same (λ ms is. let here : found ≡ ms = (cc) in subst NamesAreSet here (of_members-set js no_members found ([], refl) whole))

read-sets : (text : Text) (d : Data) → read text ≡ Some d → ObjectsAreSets d
read-sets text d e = by (option_and_then (λ p. json.if_last p.0 p.1) (json.value max_depth (tokens text))) e
  where
    by : (o : Option json.Json) → option_and_then of_json o ≡ Some d → ObjectsAreSets d
    by None e = absurd (cc)
    by (Some j) e = of_json-sets j d e

json_of-sets : (text : Text) (d : Data) → reading.json_of text ≡ Some d → ObjectsAreSets d
json_of-sets text d e = by (is_utf8 text) e
  where
    by : (b : Bool) → cond b (read text) None ≡ Some d → ObjectsAreSets d
    by true e = read-sets text d e
    by false e = absurd (cc)

-- ---- the schema

at_most : (n : ℕ) → ltb 32 n ≡ false → n ≤ 32
at_most n h = grind (arith, rules)

-- fields of members whose names rise, where there are at most 32
is_schema : (o : Option Members) (schema : Schema) → ((ms : Members) → Some ms ≡ o → NamesAreSet ms) → option_and_then reading.schema_in o ≡ Some schema → IsSchema schema
is_schema None schema sets e = absurd (cc)
is_schema (Some ms) schema sets e = by (ltb 32 (members_len ms)) refl e
  where
    by : (b : Bool) → ltb 32 (members_len ms) ≡ b → cond b None (reading.fields_of ms) ≡ Some schema → IsSchema schema
    by true many e = absurd (cc)
    by false many e =
        let (texts, set) = sets ms refl in
        record {
          few = subst (λ n. n ≤ 32) (sym (as_many ms schema e)) (at_most (members_len ms) many);
          rising = names_rise ms schema (subst IsTextSet (sym set) (IsTextSet-sorted_set texts)) e;
          named = all_named ms schema e;
        }

some_ok : (o : Option Schema) (fault : Refusal) (schema : Schema) → ok_or o fault ≡ Ok schema → o ≡ Some schema
some_ok None fault schema e = absurd (cc)
some_ok (Some fs) fault schema e = (cc)

pub rules_kept : TextsOfSchemasKeepTheRules
rules_kept text schema e = by (reading.json_of text) refl e
  where
    by : (o : Option Data) → reading.json_of text ≡ o → option_map_or (λ d. ok_or (option_and_then reading.schema_in (as_object d)) WrongKind) o (Err NoJson) ≡ Ok schema → IsSchema schema
    by None whole e = absurd (cc)
    by (Some d) whole e = is_schema (as_object d) schema (json_of-sets text d whole) (some_ok _ WrongKind schema e)

-- ---- one way to hear

pub lines_one_way : EveryLineIsHeardOneWay
lines_one_way text schema bytes one two is = one_hearing reading.json schema bytes one two (rules_kept text schema is)

pub inputs_one_way : EveryInputIsHeardOneWay
inputs_one_way = one_way reading.json rules_kept
