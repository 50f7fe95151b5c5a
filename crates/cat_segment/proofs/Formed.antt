-- What rows have in a field can be laid out: its texts have their forms, and its numbers fit.
use Rattle.std.proofs.Common.{◌≡◌, ◌+◌, ◌*◌, ◌<◌, ◌≤◌, ◌^◌, ℕ, suc, Bool, not, List, [], ◌∷◌, length, map, get_or, Option, Some, None, ◌∙◌, arith}
use Rattle.std.specs.Prelude.{All, IfSome}
use Rattle.std.specs.Int.{w64}
use Rattle.std.specs.Int.RustNames.{FitsSigned}
use Rattle.std.specs.List.{flat_map, range_with_len, list_any}
use Rattle.std.proofs.lemmas.List.{length-map}
use Rattle.std.proofs.lemmas.List.Concat.{length-flat_map}
use Rattle.std.proofs.lemmas.List.Elements.{All-map, All-append, All-contains, Contains-get_or, All-nil, All-cons, All-filter}
use Rattle.std.proofs.lemmas.List.FromFn.{length-range_with_len, get_or-range_with_len}
use Rattle.std.proofs.lemmas.List.Sums.{prefix_len-le-length, length-filter, count_by-le-length, sum_by-le}
use Rattle.cat_base.proofs.TextSets.{sorted_set_members}
use Rattle.cat_columns.proofs.Members.{length-sorted_set}
use Rattle.cat_model.specs.Text.{Text, same_text}
use Rattle.cat_model.specs.Item.{Content, Kind, IsContent, words_in, keyword_in, number_in, labels_in}
use Rattle.cat_model.specs.Forms.{IsFormed, IsWord, IsKeyword, IsLabel}
use Rattle.cat_model.specs.Layout.{WordPostings, ordinal_in, code_in, keywords_of, FitU32, IsWordPostings, IsLaid}
use Rattle.cat_model.specs.Ordinals.{dictionary_of, postings_of, texts_of, rows_having}
use Rattle.cat_model.specs.RowSets.{indices, has_row}
use Rattle.cat_segment.specs.Laid.{AreContents, laid_out}

-- ---- dictionaries

abbrev pub joined : List (List Text) → List Text
joined rows = flat_map (λ texts. texts) rows

all_joined : (P : Text → Type 0) (rows : List (List Text)) → All (All P) rows → All P (joined rows)
all_joined P [] all = All-nil P
all_joined P (row ∷ rows) all = All-append P row (joined rows) (all 0 [] (omega arith)) (all_joined P rows (λ k d lt. all (suc k) d (omega arith)))

-- what holds of each row's texts holds of the dictionary's
pub all_in_dictionary : (P : Text → Type 0) (rows : List (List Text)) → All (All P) rows → All P (dictionary_of rows)
all_in_dictionary P rows all k d lt =
    All-contains P (joined rows) (get_or (dictionary_of rows) k d) (all_joined P rows all)
    ((sorted_set_members (joined rows) (get_or (dictionary_of rows) k d)).0 (Contains-get_or (dictionary_of rows) k d lt))

pub length-dictionary : (most : ℕ) (rows : List (List Text)) → All (λ row. length row ≤ most) rows → length (dictionary_of rows) ≤ length rows * most
length-dictionary most rows few = omega (arith, length-sorted_set (joined rows), length-flat_map (λ (texts : List Text). texts) rows, sum_by-le (λ (row : List Text). length row) most rows few)

-- ---- postings

length-indices : (set : List Bool) → length (indices set) ≤ length set
length-indices set =
    omega (arith, length-filter (has_row set) (range_with_len 0 (length set)), count_by-le-length (has_row set) (range_with_len 0 (length set)), length-range_with_len 0 (length set))

pub indices_within : (set : List Bool) → All (λ row. row < length set) (indices set)
indices_within set =
    All-filter (has_row set) (λ row. row < length set) (range_with_len 0 (length set))
    (λ k d lt. omega (arith, get_or-range_with_len 0 (length set) k d (omega (arith, length-range_with_len 0 (length set))), length-range_with_len 0 (length set)))

-- numbers at most n, no more of them than m
fit : (n m : ℕ) (ns : List ℕ) → n < 2 ^ 32 → m < 2 ^ 32 → length ns ≤ m → All (λ k. k ≤ n) ns → FitU32 ns
fit n m ns small few long all = (omega arith, λ k d lt. let le = all k d lt in omega arith)

pub postings_fit : (word : Text) (rows : List (List Text)) → length rows ≤ 262144 → FitU32 (postings_of word rows)
postings_fit word rows few =
    let set = rows_having word rows in
    let long : length set ≡ length rows = length-map rows (list_any (same_text word)) in
    fit 262144 262144 (postings_of word rows) (omega arith) (omega arith) (omega (arith, length-indices set, long)) (λ k d lt. let low = indices_within set k d lt in omega arith)

-- ---- each kind of column

abbrev pub seen : List Content → List (Option Content)
seen contents = map (λ c. Some c) contents

-- what is read of each content
all_read : {Y : Type 0} (P : Y → Type 0) (read : Option Content → Y) (kind : Kind) → ((c : Content) → IsContent kind c → IsFormed c → P (read (Some c)))
    → (contents : List Content) → All (IsContent kind) contents → All IsFormed contents → All P (map read (seen contents))
all_read P read kind holds contents kinds formed =
    All-map P read (seen contents) (All-map (λ o. P (read o)) (λ c. Some c) contents (λ k d lt. holds (get_or contents k d) (kinds k d lt) (formed k d lt)))

length-read : {Y : Type 0} (read : Option Content → Y) (contents : List Content) → length (map read (seen contents)) ≡ length contents
length-read read contents = length-map (seen contents) read ∙ length-map contents (λ c. Some c)

words_formed : (c : Content) → IsContent Kind.text c → IsFormed c → All IsWord (words_in (Some c))
words_formed c (IsContent.words ws rising) formed = formed

keyword_formed : (c : Content) → IsContent Kind.keyword c → IsFormed c → IfSome (keyword_in (Some c)) IsKeyword
keyword_formed c (IsContent.keyword k) formed = formed

number_formed : (c : Content) → IsContent Kind.number c → IsFormed c → IfSome (number_in (Some c)) (FitsSigned w64)
number_formed c (IsContent.number z) formed = formed

labels_formed : (c : Content) → IsContent Kind.facet c → IsFormed c → All IsLabel (labels_in (Some c))
labels_formed c (IsContent.labels ls rising) formed = formed.1

labels_few : (c : Content) → IsContent Kind.facet c → IsFormed c → length (labels_in (Some c)) ≤ 64
labels_few c (IsContent.labels ls rising) formed = formed.0

pub label_counts : (contents : List Content) → All (IsContent Kind.facet) contents → All IsFormed contents → All (λ row. length row ≤ 64) (map labels_in (seen contents))
label_counts contents kinds formed = all_read (λ row. length row ≤ 64) labels_in Kind.facet labels_few contents kinds formed

texts_formed : (k : Option Text) → IfSome k IsKeyword → All IsKeyword (texts_of k)
texts_formed None formed = All-nil IsKeyword
texts_formed (Some t) formed = All-cons IsKeyword t [] formed (All-nil IsKeyword)

texts_few : (k : Option Text) → length (texts_of k) ≤ 1
texts_few None = omega arith
texts_few (Some t) = omega arith

code_within : (dictionary : List Text) (k : Option Text) → code_in dictionary k ≤ length dictionary + 1
code_within dictionary None = omega arith
code_within dictionary (Some t) = omega (arith, prefix_len-le-length (λ u. not (same_text u t)) dictionary)

ordinal_within : (dictionary : List Text) (t : Text) → ordinal_in dictionary t ≤ length dictionary
ordinal_within dictionary t = prefix_len-le-length (λ u. not (same_text u t)) dictionary

laid_words : (rows : ℕ) (contents : List Content) → AreContents Kind.text rows contents → rows ≤ 262144 → length (dictionary_of (map words_in (seen contents))) < 2 ^ 32 → IsLaid rows Kind.text (laid_out Kind.text contents)
laid_words rows contents are few words =
    let wss : List (List Text) = map words_in (seen contents) in
    let long : length wss ≡ rows = length-read words_in contents ∙ are.long in
    let formed : All IsWord (dictionary_of wss) = all_in_dictionary IsWord wss (all_read (All IsWord) words_in Kind.text words_formed contents are.kinds are.formed) in (
      omega (arith, length-map {B = WordPostings} (dictionary_of wss) (λ w. record { word = w; rows = postings_of w wss })),
      All-map IsWordPostings (λ w. record { word = w; rows = postings_of w wss }) (dictionary_of wss)
          (λ k d lt. record { word = formed k d lt; rows = postings_fit (get_or (dictionary_of wss) k d) wss (omega arith) }),
    )

laid_keywords : (rows : ℕ) (contents : List Content) → AreContents Kind.keyword rows contents → rows ≤ 262144 → IsLaid rows Kind.keyword (laid_out Kind.keyword contents)
laid_keywords rows contents are few =
    let ks : List (Option Text) = map keyword_in (seen contents) in
    let long : length ks ≡ rows = length-read keyword_in contents ∙ are.long in
    let sets : All (All IsKeyword) (map texts_of ks) = All-map (All IsKeyword) texts_of ks (λ k d lt. texts_formed (get_or ks k d) (all_read (λ o. IfSome o IsKeyword) keyword_in Kind.keyword keyword_formed contents are.kinds are.formed k d lt)) in
    let most : length (keywords_of ks) ≤ 262144 = omega (arith, length-dictionary 1 (map texts_of ks) (All-map (λ row. length row ≤ 1) texts_of ks (λ k d lt. texts_few (get_or ks k d))), length-map ks texts_of) in (
      omega arith,
      all_in_dictionary IsKeyword (map texts_of ks) sets,
      length-map ks (code_in (keywords_of ks)) ∙ long,
      fit 262145 262144 (map (code_in (keywords_of ks)) ks) (omega arith) (omega arith) (omega (arith, length-map ks (code_in (keywords_of ks))))
          (All-map (λ code. code ≤ 262145) (code_in (keywords_of ks)) ks (λ k d lt. omega (arith, code_within (keywords_of ks) (get_or ks k d)))),
    )

laid_numbers : (rows : ℕ) (contents : List Content) → AreContents Kind.number rows contents → IsLaid rows Kind.number (laid_out Kind.number contents)
laid_numbers rows contents are = (length-read number_in contents ∙ are.long, all_read (λ o. IfSome o (FitsSigned w64)) number_in Kind.number number_formed contents are.kinds are.formed)

laid_labels : (rows : ℕ) (contents : List Content) → AreContents Kind.facet rows contents → rows ≤ 262144 → IsLaid rows Kind.facet (laid_out Kind.facet contents)
laid_labels rows contents are few =
    let lss : List (List Text) = map labels_in (seen contents) in
    let long : length lss ≡ rows = length-read labels_in contents ∙ are.long in
    let short : All (λ row. length row ≤ 64) lss = label_counts contents are.kinds are.formed in
    let most : length (dictionary_of lss) ≤ 16777216 = omega (arith, length-dictionary 64 lss short) in (
      omega arith,
      all_in_dictionary IsLabel lss (all_read (All IsLabel) labels_in Kind.facet labels_formed contents are.kinds are.formed),
      length-map lss (map (ordinal_in (dictionary_of lss))) ∙ long,
      All-map FitU32 (map (ordinal_in (dictionary_of lss))) lss
          (λ k d lt. let row : List Text = get_or lss k d in
          fit 16777216 64 (map (ordinal_in (dictionary_of lss)) row) (omega arith) (omega arith) (omega (arith, length-map row (ordinal_in (dictionary_of lss)), short k d lt))
          (All-map (λ o. o ≤ 16777216) (ordinal_in (dictionary_of lss)) row (λ j e l. omega (arith, ordinal_within (dictionary_of lss) (get_or row j e))))),
    )

-- the words of a text field are fewer than 2^32
pub IsLaid-of : (kind : Kind) (rows : ℕ) (contents : List Content) → AreContents kind rows contents → rows ≤ 262144 → length (dictionary_of (map words_in (seen contents))) < 2 ^ 32 → IsLaid rows kind (laid_out kind contents)
IsLaid-of Kind.text rows contents are few words = laid_words rows contents are few words
IsLaid-of Kind.keyword rows contents are few words = laid_keywords rows contents are few
IsLaid-of Kind.number rows contents are few words = laid_numbers rows contents are
IsLaid-of Kind.facet rows contents are few words = laid_labels rows contents are few
