-- What the lists of a column, as a file has them, say of the rows, and where they are no column.
use Rattle.std.proofs.Common.{◌≡◌, ◌≢◌, ◌<◌, ◌≤◌, ℕ, ℤ, zero, suc, List, [], ◌∷◌, length, map, get_or, Option, Some, None, refl, sym, ap, ◌∙◌, subst, arith}
use Rattle.std.specs.Prelude.{All, IfSome, Contains}
use Rattle.std.proofs.lemmas.List.{length-map, get_or-map}
use Rattle.std.proofs.lemmas.List.Elements.{All-map, All-contains, Contains-get_or, Contains-append_left, Contains-append_right}
use Rattle.cat_base.specs.Texts.{IsTextSet}
use Rattle.cat_base.proofs.TextSets.{sorted_set_members}
use Rattle.cat_model.specs.Text.{Text}
use Rattle.cat_model.specs.Item.{Content, Kind, IsContent, words_in, keyword_in, number_in, labels_in}
use Rattle.cat_model.specs.Forms.{IsFormed, IsWord, IsKeyword, IsLabel}
use Rattle.cat_model.specs.Layout.{Laid, WordPostings, pieces, ordinal_in, code_in, word_postings_of, keywords_of, IsWordPostings, IsLaid}
use Rattle.cat_model.specs.Ordinals.{dictionary_of, postings_of, texts_of}
use Rattle.cat_items.specs.file_parts.Parts.{column_in}
use Rattle.cat_items.specs.declared.file_parts.parts.ColumnParts.{ColumnParts}
use Rattle.cat_items.specs.declared.file_parts.parts.ColumnParts.TheVariants as parts
use Rattle.cat_segment.proofs.Formed.{seen, joined, label_counts}
use Rattle.cat_segment.proofs.Layouts.{word_sets, label_sets, length-seen}
use Rattle.cat_segment.proofs.Few.{few_mapped, few_unmapped}
use Rattle.cat_segment.specs.Laid.{AreContents, laid_out}
use Rattle.cat_segment.specs.Parts.{kind_in, HasFewLabels}

-- ---- what a dictionary says of its rows

in_joined : (rows : List (List Text)) (k j : ℕ) (d : List Text) (e : Text) → k < length rows → j < length (get_or rows k d) → Contains (joined rows) (get_or (get_or rows k d) j e)
in_joined [] k j d e lt within = absurd (omega arith)
in_joined (row ∷ rows) zero j d e lt within = Contains-append_left row (joined rows) (get_or row j e) (Contains-get_or row j e within)
in_joined (row ∷ rows) (suc k) j d e lt within = Contains-append_right row (joined rows) (get_or (get_or rows k d) j e) (in_joined rows k j d e (omega arith) within)

all_of_dictionary : (P : Text → Type 0) (rows : List (List Text)) → All P (dictionary_of rows) → All (All P) rows
all_of_dictionary P rows all k d lt j e within =
    let t : Text = get_or (get_or rows k d) j e in
    All-contains P (dictionary_of rows) t all ((sorted_set_members (joined rows) t).1 (in_joined rows k j d e lt within))

-- ---- contents that are made of what is read

seen_words : (xs : List (List Text)) → map words_in (seen (map Content.words xs)) ≡ xs
seen_words [] = refl
seen_words (x ∷ xs) = ap (λ l. x ∷ l) (seen_words xs)

seen_keywords : (xs : List (Option Text)) → map keyword_in (seen (map Content.keyword xs)) ≡ xs
seen_keywords [] = refl
seen_keywords (x ∷ xs) = ap (λ l. x ∷ l) (seen_keywords xs)

seen_numbers : (xs : List (Option ℤ)) → map number_in (seen (map Content.number xs)) ≡ xs
seen_numbers [] = refl
seen_numbers (x ∷ xs) = ap (λ l. x ∷ l) (seen_numbers xs)

seen_labels : (xs : List (List Text)) → map labels_in (seen (map Content.labels xs)) ≡ xs
seen_labels [] = refl
seen_labels (x ∷ xs) = ap (λ l. x ∷ l) (seen_labels xs)

pub words_laid : (xs : List (List Text)) → laid_out Kind.text (map Content.words xs) ≡ Laid.words (word_postings_of xs)
words_laid xs = ap (λ l. Laid.words (word_postings_of l)) (seen_words xs)

pub keywords_laid : (xs : List (Option Text)) → laid_out Kind.keyword (map Content.keyword xs) ≡ Laid.keywords (keywords_of xs) (map (code_in (keywords_of xs)) xs)
keywords_laid xs = ap (λ l. Laid.keywords (keywords_of l) (map (code_in (keywords_of l)) l)) (seen_keywords xs)

pub numbers_laid : (xs : List (Option ℤ)) → laid_out Kind.number (map Content.number xs) ≡ Laid.numbers xs
numbers_laid xs = ap Laid.numbers (seen_numbers xs)

pub labels_laid : (xs : List (List Text)) → laid_out Kind.facet (map Content.labels xs) ≡ Laid.labels (dictionary_of xs) (map (map (ordinal_in (dictionary_of xs))) xs)
labels_laid xs = ap (λ l. Laid.labels (dictionary_of l) (map (map (ordinal_in (dictionary_of l))) l)) (seen_labels xs)

-- ---- a column that was read

abbrev Read : Kind → ℕ → List Content → Laid → Type 0
Read kind rows contents laid = AreContents kind rows contents × (laid_out kind contents ≡ laid)

words_had : (texts : List (List Text)) (ps : List WordPostings) → word_postings_of texts ≡ ps → All IsWordPostings ps → All IsWord (dictionary_of texts)
words_had texts ps same posted k d lt =
    let make : Text → WordPostings = λ w. record { word = w; rows = postings_of w texts } in
    let none : WordPostings = record { word = []; rows = [] } in
    let there : get_or ps k none ≡ make (get_or (dictionary_of texts) k d) = ap (λ l. get_or l k none) (sym same) ∙ get_or-map make (dictionary_of texts) k d none lt in
    subst (λ p. IsWord p.word) there (posted k none (omega (arith, length-map {B = WordPostings} (dictionary_of texts) make, ap length same))).word

pub words_read : (rows : ℕ) (texts : List (List Text)) (ps : List WordPostings) → length texts ≡ rows → All IsTextSet texts → word_postings_of texts ≡ ps → IsLaid rows Kind.text (Laid.words ps) → Read Kind.text rows (map Content.words texts) (Laid.words ps)
words_read rows texts ps long sets same laid =
    let words = all_of_dictionary IsWord texts (words_had texts ps same laid.1) in (
      record {
        long = length-map texts Content.words ∙ long;
        kinds = All-map (IsContent Kind.text) Content.words texts (λ k d lt. IsContent.words (get_or texts k d) (sets k d lt));
        formed = All-map IsFormed Content.words texts words;
      },
      words_laid texts ∙ ap Laid.words same,
    )

pub keywords_read : (rows : ℕ) (values : List (Option Text)) (dictionary : List Text) (codes : List ℕ) → keywords_of values ≡ dictionary → map (code_in (keywords_of values)) values ≡ codes
    → IsLaid rows Kind.keyword (Laid.keywords dictionary codes) → Read Kind.keyword rows (map Content.keyword values) (Laid.keywords dictionary codes)
keywords_read rows values dictionary codes same coded laid =
    let texts = all_of_dictionary IsKeyword (map texts_of values) (subst (All IsKeyword) (sym same) laid.1) in (
      record {
        long = length-map values Content.keyword ∙ sym (length-map values (code_in (keywords_of values))) ∙ ap length coded ∙ laid.2;
        kinds = All-map (IsContent Kind.keyword) Content.keyword values (λ k d lt. IsContent.keyword (get_or values k d));
        formed = All-map IsFormed Content.keyword values (λ k d lt. one (get_or values k d) (subst (All IsKeyword) (get_or-map texts_of values k d [] lt) (texts k [] (omega (arith, length-map values texts_of)))));
      },
      keywords_laid values ∙ (λ i. Laid.keywords (same i) (coded i)),
    )
  where
    one : (value : Option Text) → All IsKeyword (texts_of value) → IfSome value IsKeyword
    one None all = tt
    one (Some t) all = all 0 [] (omega arith)

pub numbers_read : (rows : ℕ) (values : List (Option ℤ)) → IsLaid rows Kind.number (Laid.numbers values) → Read Kind.number rows (map Content.number values) (Laid.numbers values)
numbers_read rows values laid = (
  record {
    long = length-map values Content.number ∙ laid.0;
    kinds = All-map (IsContent Kind.number) Content.number values (λ k d lt. IsContent.number (get_or values k d));
    formed = All-map IsFormed Content.number values laid.1;
  },
  numbers_laid values,
)

pub labels_read : (rows : ℕ) (sets : List (List Text)) (dictionary : List Text) (ordinals : List (List ℕ)) → All IsTextSet sets → All (λ set. length set ≤ 64) ordinals → dictionary_of sets ≡ dictionary
    → map (map (ordinal_in (dictionary_of sets))) sets ≡ ordinals → IsLaid rows Kind.facet (Laid.labels dictionary ordinals) → Read Kind.facet rows (map Content.labels sets) (Laid.labels dictionary ordinals)
labels_read rows sets dictionary ordinals rising few same laid_same laid =
    let labels = all_of_dictionary IsLabel sets (subst (All IsLabel) (sym same) laid.1) in (
      record {
        long = length-map sets Content.labels ∙ sym (length-map sets (map (ordinal_in (dictionary_of sets)))) ∙ ap length laid_same ∙ laid.2;
        kinds = All-map (IsContent Kind.facet) Content.labels sets (λ k d lt. IsContent.labels (get_or sets k d) (rising k d lt));
        formed = All-map IsFormed Content.labels sets (λ k d lt. (few_unmapped (ordinal_in (dictionary_of sets)) sets (subst (All (λ set. length set ≤ 64)) (sym laid_same) few) k d lt, labels k d lt));
      },
      labels_laid sets ∙ (λ i. Laid.labels (same i) (laid_same i)),
    )

-- ---- what is no column

pub no_words : (rows : ℕ) (ps : List WordPostings) → ((texts : List (List Text)) → length texts ≡ rows → All IsTextSet texts → word_postings_of texts ≢ ps) → (contents : List Content) → AreContents Kind.text rows contents → laid_out Kind.text contents ≢ Laid.words ps
no_words rows ps none contents are same =
    let postings : word_postings_of (map words_in (seen contents)) ≡ ps = cc in
    none (map words_in (seen contents)) (length-seen words_in contents ∙ are.long) (word_sets contents are.kinds) postings

pub no_keywords : (rows : ℕ) (dictionary : List Text) (codes : List ℕ) → ((values : List (Option Text)) → keywords_of values ≡ dictionary → map (code_in (keywords_of values)) values ≢ codes)
    → (contents : List Content) → AreContents Kind.keyword rows contents → laid_out Kind.keyword contents ≢ Laid.keywords dictionary codes
no_keywords rows dictionary codes none contents are same =
    let values : List (Option Text) = map keyword_in (seen contents) in
    let texts : keywords_of values ≡ dictionary = cc in
    let coded : map (code_in (keywords_of values)) values ≡ codes = cc in
    none values texts coded

pub no_labels : (rows : ℕ) (dictionary : List Text) (ordinals : List (List ℕ)) → ((sets : List (List Text)) → All IsTextSet sets → dictionary_of sets ≡ dictionary → map (map (ordinal_in (dictionary_of sets))) sets ≢ ordinals)
    → (contents : List Content) → AreContents Kind.facet rows contents → laid_out Kind.facet contents ≢ Laid.labels dictionary ordinals
no_labels rows dictionary ordinals none contents are same =
    let sets : List (List Text) = map labels_in (seen contents) in
    let texts : dictionary_of sets ≡ dictionary = cc in
    let laid : map (map (ordinal_in (dictionary_of sets))) sets ≡ ordinals = cc in
    none sets (label_sets contents are.kinds) texts laid

-- what is laid out has as few labels in each row as it may
pub few_told : (rows : ℕ) (part : ColumnParts) (contents : List Content) → AreContents (kind_in part) rows contents → laid_out (kind_in part) contents ≡ column_in part → HasFewLabels part
few_told rows (parts.Text words ends postings) contents are same = tt
few_told rows (parts.Keyword dictionary codes) contents are same = tt
few_told rows (parts.Number numbers) contents are same = tt
few_told rows (parts.Facet dictionary ends ordinals) contents are same =
    let sets : List (List Text) = map labels_in (seen contents) in
    let laid : map (map (ordinal_in (dictionary_of sets))) sets ≡ pieces 0 ends.items ordinals.items = cc in
    subst (All (λ set. length set ≤ 64)) laid (few_mapped (ordinal_in (dictionary_of sets)) sets (label_counts contents are.kinds are.formed))
