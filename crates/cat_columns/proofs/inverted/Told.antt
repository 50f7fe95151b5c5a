-- Terms are told by their words and the postings of each.
use Rattle.std.proofs.Common.{◌≡◌, ℕ, ◌<◌, ◌^◌, List, [], ◌∷◌, length, get_or, map, refl, sym, ap, ◌∙◌, arith, subst}
use Rattle.std.proofs.lemmas.List.{length-map, get_or-map, map-id, ext_get_or}
use Rattle.std.proofs.lemmas.List.FromFn.{length-map-range_with_len}
use Rattle.std.specs.List.{list_any, flat_map}
use Rattle.std.specs.Prelude.{All}
use Rattle.cat_base.specs.Texts.{sorted_set, IsTextSet}
use Rattle.cat_base.proofs.TextSets.{has-sorted_set, IsTextSet-sorted_set, sorted_set_is}
use Rattle.cat_model.specs.Text.{Text, same_text}
use Rattle.cat_model.specs.Layout.{WordPostings, pieces, AreEnds, paired_postings, word_postings_of}
use Rattle.cat_model.specs.Ordinals.{dictionary_of, postings_of}
use Rattle.cat_columns.specs.inverted.Postings.{IsPart, words_at, words_of_rows, IsTerms, HasNoTerms}
use Rattle.cat_columns.proofs.inverted.Parts.{length-pieces}
use Rattle.cat_columns.proofs.inverted.Rows.{same_has, any_joined, words_are, rows_are_sets}
use Rattle.cat_columns.proofs.inverted.Searches.{one_part, postings_are}
use Rattle.cat_columns.proofs.inverted.Builds as built

-- the postings of each word
abbrev pub postings_in : List (List Text) → List (List ℕ)
postings_in texts = map (λ w. postings_of w texts) (dictionary_of texts)

-- ---- words with their postings, taken apart

words_out : (words : List Text) (parts : List (List ℕ)) → length parts ≡ length words → map (λ p. p.word) (paired_postings words parts) ≡ words
words_out [] parts e = refl
words_out (w ∷ words) [] e = absurd (omega arith)
words_out (w ∷ words) (rows ∷ parts) e = ap (λ (l : List Text). w ∷ l) (words_out words parts (omega arith))

rows_out : (words : List Text) (parts : List (List ℕ)) → length parts ≡ length words → map (λ p. p.rows) (paired_postings words parts) ≡ parts
rows_out [] [] e = refl
rows_out [] (rows ∷ parts) e = absurd (omega arith)
rows_out (w ∷ words) [] e = absurd (omega arith)
rows_out (w ∷ words) (rows ∷ parts) e = ap (λ (l : List (List ℕ)). rows ∷ l) (rows_out words parts (omega arith))

posted_each : (f : Text → List ℕ) (words : List Text) → paired_postings words (map f words) ≡ map (λ w. record { word = w; rows = f w }) words
posted_each f [] = refl
posted_each f (w ∷ words) = ap (λ (l : List WordPostings). record { word = w; rows = f w } ∷ l) (posted_each f words)

same_posted : (words others : List Text) (parts rests : List (List ℕ)) → length parts ≡ length words → length rests ≡ length others → paired_postings words parts ≡ paired_postings others rests → (words ≡ others) × (parts ≡ rests)
same_posted words others parts rests e f same = (
  sym (words_out words parts e) ∙ ap (map (λ p. p.word)) same ∙ words_out others rests f,
  sym (rows_out words parts e) ∙ ap (map (λ p. p.rows)) same ∙ rows_out others rests f,
)

-- ---- of rows with their texts

module _ (texts : List (List Text)) where
  pub posted_is : paired_postings (dictionary_of texts) (postings_in texts) ≡ word_postings_of texts
  posted_is = posted_each (λ w. postings_of w texts) (dictionary_of texts)

  as_many : length (postings_in texts) ≡ length (dictionary_of texts)
  as_many = length-map (dictionary_of texts) (λ w. postings_of w texts)

  pub members : (q : Text) → list_any (same_text q) (dictionary_of texts) ≡ list_any (list_any (same_text q)) texts
  members q =
      same_has q (dictionary_of texts) ∙ has-sorted_set q (flat_map (λ l. l) texts) ∙ sym (same_has q (flat_map (λ l. l) texts))
      ∙ ap (λ (ts : List (List Text)). list_any (same_text q) (flat_map (λ l. l) ts)) (sym (map-id texts))
      ∙ any_joined (same_text q) (λ (l : List Text). l) texts

  pub parts_in : All (IsPart (length texts)) (postings_in texts)
  parts_in = built.parts_posted (length texts) texts (dictionary_of texts) (λ w. postings_of w texts) refl (λ q. refl) (IsTextSet-sorted_set (flat_map (λ l. l) texts)) members

  pub rows_in : All IsTextSet texts → words_of_rows (length texts) (dictionary_of texts) (postings_in texts) ≡ texts
  rows_in = built.rows_are (length texts) texts (dictionary_of texts) (λ w. postings_of w texts) refl (λ q. refl) (IsTextSet-sorted_set (flat_map (λ l. l) texts)) members

pub told : (a b : List (List Text)) → length a ≡ length b → All IsTextSet a → All IsTextSet b → word_postings_of a ≡ word_postings_of b → a ≡ b
told a b long sets others e =
    let same = same_posted (dictionary_of a) (dictionary_of b) (postings_in a) (postings_in b) (as_many a) (as_many b) (posted_is a ∙ e ∙ sym (posted_is b)) in
    sym (rows_in a sets)
    ∙ ap (λ n. words_of_rows n (dictionary_of a) (postings_in a)) long
    ∙ ap (λ (words : List Text). words_of_rows (length b) words (postings_in a)) same.0
    ∙ ap (words_of_rows (length b) (dictionary_of b)) same.1
    ∙ rows_in b others

-- what is told of rows with these terms holds of the words and the postings
pub rising_words : (texts : List (List Text)) (words : List Text) (parts : List (List ℕ)) → length parts ≡ length words → word_postings_of texts ≡ paired_postings words parts → IsTextSet words
rising_words texts words parts long e =
    let same = same_posted (dictionary_of texts) words (postings_in texts) parts (as_many texts) long (posted_is texts ∙ e) in
    subst IsTextSet same.0 (IsTextSet-sorted_set (flat_map (λ l. l) texts))

pub posted_parts : (texts : List (List Text)) (words : List Text) (parts : List (List ℕ)) → length parts ≡ length words → word_postings_of texts ≡ paired_postings words parts → All (IsPart (length texts)) parts
posted_parts texts words parts long e =
    let same = same_posted (dictionary_of texts) words (postings_in texts) parts (as_many texts) long (posted_is texts ∙ e) in
    subst (All (IsPart (length texts))) same.1 (parts_in texts)

-- ---- of terms

-- a list that rises is its own set
pub rising_set : (words : List Text) → IsTextSet words → sorted_set words ≡ words
rising_set words sorted = sym (sorted_set_is words words sorted (λ q. refl))

module _ (len : ℕ) (words : List Text) (ends rows : List ℕ) (terms : IsTerms len words ends rows) where
  abbrev texts : List (List Text)
  texts = words_of_rows len words (pieces 0 ends rows)

  abbrev f : Text → List ℕ
  f w = postings_of w texts

  each_part : map f words ≡ pieces 0 ends rows
  each_part = ext_get_or [] (map f words) (pieces 0 ends rows) (length-map words f ∙ sym terms.paired ∙ sym (length-pieces 0 ends rows)) at
    where
      at : (o : ℕ) → o < length (map f words) → get_or (map f words) o [] ≡ get_or (pieces 0 ends rows) o []
      at o lt =
          let inside : o < length words = omega (arith, length-map words f) in
          get_or-map f words o [] [] inside
          ∙ sym (postings_are len words ends rows terms (get_or words o []) o inside refl)
          ∙ one_part (pieces 0 ends rows) o (omega (arith, terms.paired, length-pieces 0 ends rows))

  pub terms_posted : word_postings_of texts ≡ paired_postings words (pieces 0 ends rows)
  terms_posted =
      sym (posted_is texts)
      ∙ ap (λ (ws : List Text). paired_postings ws (map f ws)) (sym (words_are len words ends rows terms))
      ∙ ap (paired_postings words) each_part

-- words that rise, and pieces that are postings, make terms
pub terms_from : (len : ℕ) (words : List Text) (ends rows ends' rows' : List ℕ) → ends' ≡ ends → rows' ≡ rows → len < 2 ^ 32 → length rows' < 2 ^ 32 → IsTextSet words → length ends ≡ length words → AreEnds 0 ends (length rows)
    → All (IsPart len) (pieces 0 ends' rows') → IsTerms len words ends rows
terms_from len words ends rows ends' rows' same_ends same_rows few fits sorted paired parts posted = record {
  few = few;
  fits = subst (λ (l : List ℕ). length l < 2 ^ 32) same_rows fits;
  sorted = sorted;
  paired = paired;
  ended = parts;
  posted = subst (All (IsPart len)) (ap (λ (l : List ℕ). pieces 0 l rows') same_ends ∙ ap (pieces 0 ends) same_rows) posted;
}

-- such terms are of some rows
pub some_terms : (len : ℕ) (words : List Text) (ends rows : List ℕ) → IsTerms len words ends rows → HasNoTerms len words (pieces 0 ends rows) → ⊥
some_terms len words ends rows terms none =
    none (words_of_rows len words (pieces 0 ends rows)) (length-map-range_with_len (words_at words (pieces 0 ends rows)) 0 len)
    (rows_are_sets len words (pieces 0 ends rows) terms.sorted) (terms_posted len words ends rows terms)
