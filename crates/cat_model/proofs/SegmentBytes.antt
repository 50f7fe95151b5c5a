-- The bytes of a segment's file are those of the parts that it is read into.
use Rattle.std.proofs.Common.{◌≡◌, ℕ, List, ◌∷◌, ◌++◌, map, refl, sym, ◌∙◌}
use Rattle.std.specs.Prelude.{codes, Option}
use Rattle.std.specs.List.{flat_map}
use Rattle.std.proofs.lemmas.List.{length-map}
use Rattle.std.proofs.lemmas.List.Folds.{flat_map-map}
use Rattle.cat_base.specs.Bytes.{spelled_bytes, spelled_u32, spelled_u64}
use Rattle.cat_model.specs.Text.{Text}
use Rattle.cat_model.specs.Item.{Content, Field, Kind, content_of, words_in, keyword_in, labels_in}
use Rattle.cat_model.specs.Ordinals.{dictionary_of, postings_of}
use Rattle.cat_model.specs.View.{Row, item_in}
use Rattle.cat_model.specs.SegmentFile.{ordinal_in, code_in, spelled_word_column, spelled_keyword_column, spelled_label_column, spelled_contents}
use Rattle.cat_model.specs.Layout.{spelled_fields, spelled_list, spelled_texts, WordPostings, Laid, keywords_of, word_postings_of, laid_as, column_of, head_of, spelled_head, spelled_postings, spelled_column}
use Rattle.cat_model.specs.SegmentLaws.{SegmentsAreSpelledAsLaid}

words_as_laid : (rows : List (List Text)) → spelled_word_column rows ≡ spelled_column (Laid.words (word_postings_of rows))
words_as_laid rows =
    let posted : Text → WordPostings = λ w. record { word = w; rows = postings_of w rows } in
    λ i. spelled_u32 (sym (length-map (dictionary_of rows) posted) i) ++ sym (flat_map-map spelled_postings posted (dictionary_of rows)) i

keywords_as_laid : (dictionary : List Text) (values : List (Option Text))
    → spelled_keyword_column dictionary values ≡ spelled_column (Laid.keywords dictionary (map (code_in dictionary) values))
keywords_as_laid dictionary values = λ i. spelled_texts dictionary ++ sym (flat_map-map spelled_u32 (code_in dictionary) values) i

labels_as_laid : (dictionary : List Text) (rows : List (List Text))
    → spelled_label_column dictionary rows ≡ spelled_column (Laid.labels dictionary (map (map (ordinal_in dictionary)) rows))
labels_as_laid dictionary rows = λ i. spelled_texts dictionary ++ sym (flat_map-map spelled_list (map (ordinal_in dictionary)) rows) i

contents_as_laid : (kind : Kind) (rows : List (Option Content)) → spelled_contents kind rows ≡ spelled_column (laid_as kind rows)
contents_as_laid Kind.text rows = words_as_laid (map words_in rows)
contents_as_laid Kind.keyword rows = keywords_as_laid (keywords_of (map keyword_in rows)) (map keyword_in rows)
contents_as_laid Kind.number rows = refl
contents_as_laid Kind.facet rows = labels_as_laid (dictionary_of (map labels_in rows)) (map labels_in rows)

pub spelled_as_laid : SegmentsAreSpelledAsLaid
spelled_as_laid s =
    let spelled_there : Row → List ℕ = λ r. spelled_u64 r.number ++ (spelled_bytes r.id ++ spelled_u32 r.length) in
    let there : Field → List (Option Content) = λ f. map (λ r. content_of f.name (item_in r)) s.rows in
    let rows : flat_map spelled_there s.rows ≡ flat_map spelled_head (map head_of s.rows) = sym (flat_map-map spelled_head head_of s.rows) in
    let columns : flat_map (λ f. spelled_contents f.kind (there f)) s.schema ≡ flat_map spelled_column (map (column_of s.rows) s.schema) =
    (λ i. flat_map (λ f. contents_as_laid f.kind (there f) i) s.schema) ∙ sym (flat_map-map spelled_column (column_of s.rows) s.schema) in
    λ i. codes "CSEG" ++ (1 ∷ (spelled_u64 s.number ++ (spelled_u32 (sym (length-map s.rows head_of) i) ++ (spelled_fields s.schema ++ (rows i ++ columns i)))))
