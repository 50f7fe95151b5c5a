-- The words that rows have in a field: fewer than 2^32 where that holds of each text field.
use Rattle.std.proofs.Common.{◌≡◌, ◌≢◌, ◌<◌, ◌≤◌, ◌^◌, ◌⊎◌, inl, inr, ℕ, zero, suc, Bool, true, false, cond, List, [], ◌∷◌, length, map, get_or, Some, None, refl, sym, ap, ◌∙◌, arith}
use Rattle.std.specs.Prelude.{option_map, find, All}
use Rattle.std.proofs.lemmas.List.{length-map}
use Rattle.std.proofs.lemmas.List.Elements.{All-map}
use Rattle.std.proofs.lemmas.Simd.{map-map}
use Rattle.std.proofs.lemmas.Slice.Eq.{bytes_eq-Decides}
use Rattle.cat_base.specs.Texts.{IsTextSet}
use Rattle.cat_model.specs.Text.{Text, same_text}
use Rattle.cat_model.specs.Item.{Content, Field, Kind, Schema, FieldContent, IsContent, AreFields, content_of, words_in}
use Rattle.cat_model.specs.Layout.{WordPostings, IsLaid, words_of_field}
use Rattle.cat_model.specs.Ordinals.{dictionary_of, postings_of}
use Rattle.cat_model.specs.View.{Row, item_in}
use Rattle.cat_segment.proofs.Formed.{seen, length-dictionary}
use Rattle.cat_segment.proofs.Placed.{contents_named}
use Rattle.cat_segment.specs.Laid.{contents_under, laid_out}

abbrev pub words_under : List Content → List (List Text)
words_under contents = map words_in (seen contents)

-- ---- contents

no_words : (contents : List Content) → All (λ c. length (words_in (Some c)) ≤ 0) contents → length (dictionary_of (words_under contents)) < 2 ^ 32
no_words contents none =
    omega (arith, length-dictionary 0 (words_under contents) (All-map (λ ws. length ws ≤ 0) words_in (seen contents) (All-map (λ o. length (words_in o) ≤ 0) (λ c. Some c) contents none)))

wordless : (kind : Kind) (c : Content) → IsContent kind c → kind ≢ Kind.text → length (words_in (Some c)) ≤ 0
wordless kind c (IsContent.words ws rising) other = absurd (other refl)
wordless kind c (IsContent.keyword k) other = omega arith
wordless kind c (IsContent.number z) other = omega arith
wordless kind c (IsContent.labels ls rising) other = omega arith

-- of what can be laid out
pub words_fit : (kind : Kind) (rows : ℕ) (contents : List Content) → All (IsContent kind) contents → IsLaid rows kind (laid_out kind contents) → length (dictionary_of (words_under contents)) < 2 ^ 32
words_fit Kind.text rows contents kinds laid =
    omega (arith, laid.0, length-map {B = WordPostings} (dictionary_of (words_under contents)) (λ w. record { word = w; rows = postings_of w (words_under contents) }))
words_fit Kind.keyword rows contents kinds laid = no_words contents (λ k d lt. wordless Kind.keyword (get_or contents k d) (kinds k d lt) (λ e. (cc)))
words_fit Kind.number rows contents kinds laid = no_words contents (λ k d lt. wordless Kind.number (get_or contents k d) (kinds k d lt) (λ e. (cc)))
words_fit Kind.facet rows contents kinds laid = no_words contents (λ k d lt. wordless Kind.facet (get_or contents k d) (kinds k d lt) (λ e. (cc)))

-- ---- names

-- some field has the name, or none
abbrev Named : Schema → Text → Type 0
Named fs name = ((index : ℕ) × (index < length fs) × ((f : Field) → (get_or fs index f).name ≡ name)) ⊎ ((index : ℕ) (f : Field) → index < length fs → (get_or fs index f).name ≢ name)

named : (fs : Schema) (name : Text) → Named fs name
named [] name = inr (λ index f lt. absurd (omega arith))
named (g ∷ fs) name = by (same_text g.name name) refl (named fs name)
  where
    by : (b : Bool) → same_text g.name name ≡ b → Named fs name → Named (g ∷ fs) name
    by true e later = inl (0, omega arith, λ f. (bytes_eq-Decides g.name name).0 e)
    by false e (inl h) = inl (suc h.0, (let lt = h.1 in omega arith), h.2)
    by false e (inr h) = inr other
      where
        other : (index : ℕ) (f : Field) → index < length (g ∷ fs) → (get_or (g ∷ fs) index f).name ≢ name
        other zero f lt same = let both : true ≡ false = sym ((bytes_eq-Decides g.name name).1 same) ∙ e in cc
        other (suc index) f lt same = h index f (omega arith) same

-- a row has nothing in a field that the schema doesn't have
none_named : (fs : Schema) (ps : List FieldContent) (name : Text) → AreFields fs ps → ((index : ℕ) (f : Field) → index < length fs → (get_or fs index f).name ≢ name) → find (λ p. same_text p.name name) ps ≡ None
none_named [] [] name are other = refl
none_named [] (p ∷ ps) name are other = absurd are
none_named (f ∷ fs) [] name are other = absurd are
none_named (f ∷ fs) (p ∷ ps) name are other = by (same_text p.name name) refl (none_named fs ps name are.1 (λ index g lt. other (suc index) g (omega arith)))
  where
    by : (b : Bool) → same_text p.name name ≡ b → find (λ q. same_text q.name name) ps ≡ None → cond b (Some p) (find (λ q. same_text q.name name) ps) ≡ None
    by true e later = absurd (other 0 f (omega arith) (sym are.0.0 ∙ (bytes_eq-Decides p.name name).0 e))
    by false e later = later

pub words_few : (schema : Schema) (rows : List Row) → IsTextSet (map (λ g. g.name) schema) → All (λ r. AreFields schema r.fields) rows
    → ((index : ℕ) → index < length schema → length (dictionary_of (words_under (contents_under index rows))) < 2 ^ 32) → (name : Text) → length (words_of_field rows name) < 2 ^ 32
words_few schema rows rising parts each name = by (named schema name)
  where
    by : Named schema name → length (words_of_field rows name) < 2 ^ 32
    by (inl h) =
        let f : Field = record { name = []; kind = Kind.text } in
        let seen_there = contents_named schema rows h.0 f rising parts h.1 in
        let there : map (λ r. words_in (content_of name (item_in r))) rows ≡ words_under (contents_under h.0 rows) =
        sym (map-map words_in (λ r. content_of name (item_in r)) rows) ∙ ap (λ t. map words_in (map (λ r. content_of t (item_in r)) rows)) (sym (h.2 f)) ∙ ap (map words_in) seen_there in
        omega (arith, each h.0 h.1, ap (λ (l : List (List Text)). length (dictionary_of l)) there)
    by (inr other) =
        let none : All (λ ws. length ws ≤ 0) (map (λ r. words_in (content_of name (item_in r))) rows) =
        All-map (λ ws. length ws ≤ 0) (λ r. words_in (content_of name (item_in r))) rows
        (λ k d lt. omega (arith, ap (λ o. length (words_in (option_map (λ p. p.content) o))) (none_named schema (get_or rows k d).fields name (parts k d lt) other))) in
        omega (arith, length-dictionary 0 (map (λ r. words_in (content_of name (item_in r))) rows) none)
