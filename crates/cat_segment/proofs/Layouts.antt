-- How a segment is laid out: its layout can be spelled, and tells the segment.
use Rattle.std.proofs.Common.{◌≡◌, ◌<◌, ◌^◌, ℕ, suc, List, [], ◌∷◌, length, map, get_or, Option, Some, refl, sym, ap, ◌∙◌, subst, arith}
use Rattle.std.specs.Prelude.{All}
use Rattle.std.proofs.lemmas.List.{length-map, get_or-map, same_lists}
use Rattle.std.proofs.lemmas.List.Elements.{All-map}
use Rattle.std.proofs.lemmas.Simd.{map-map}
use Rattle.cat_base.specs.Texts.{IsTextSet}
use Rattle.cat_model.specs.Text.{Text}
use Rattle.cat_model.specs.Files.{IsFileNumber}
use Rattle.cat_model.specs.Item.{Content, Field, Kind, Schema, FieldContent, IsContent, AreFields, content_of, words_in, keyword_in, number_in, labels_in}
use Rattle.cat_model.specs.Layout.{Laid, ordinal_in, code_in, word_postings_of, keywords_of, laid_as, column_of, head_of, layout_of, IsHead, IsLaid, AreLaid, IsLayout}
use Rattle.cat_model.specs.Ordinals.{dictionary_of}
use Rattle.cat_model.specs.View.{Row, Segment, item_in, IsSegment}
use Rattle.cat_segment.specs.Laid.{content_under, contents_under, AreContents, laid_out}
use Rattle.cat_segment.proofs.Placed.{no_content, contents_named, AreContents-of}
use Rattle.cat_segment.proofs.Formed.{seen, IsLaid-of}

-- ---- the column of a field

module _ (s : Segment) (is : IsSegment s) where
  pub column_placed : (index : ℕ) (f : Field) → index < length s.schema → column_of s.rows (get_or s.schema index f) ≡ laid_out (get_or s.schema index f).kind (contents_under index s.rows)
  column_placed index f lt = ap (laid_as (get_or s.schema index f).kind) (contents_named s.schema s.rows index f is.schema.rising is.rows.fields lt)

  words_few : (index : ℕ) (f : Field) → index < length s.schema → length (dictionary_of (map words_in (seen (contents_under index s.rows)))) < 2 ^ 32
  words_few index f lt =
      let name : Text = (get_or s.schema index f).name in
      let same : map (λ r. words_in (content_of name (item_in r))) s.rows ≡ map words_in (seen (contents_under index s.rows)) =
      sym (map-map words_in (λ r. content_of name (item_in r)) s.rows) ∙ ap (map words_in) (contents_named s.schema s.rows index f is.schema.rising is.rows.fields lt) in
      omega (arith, is.words name, ap (λ (l : List (List Text)). length (dictionary_of l)) same)

  pub contents_are : (index : ℕ) (f : Field) → index < length s.schema → AreContents (get_or s.schema index f).kind (length s.rows) (contents_under index s.rows)
  contents_are index f lt = AreContents-of s.schema s.rows index f is.rows is.formed lt

  column_fits : (index : ℕ) (f : Field) → index < length s.schema → IsLaid (length s.rows) (get_or s.schema index f).kind (column_of s.rows (get_or s.schema index f))
  column_fits index f lt =
      subst (IsLaid (length s.rows) (get_or s.schema index f).kind) (sym (column_placed index f lt))
      (IsLaid-of (get_or s.schema index f).kind (length s.rows) (contents_under index s.rows) (contents_are index f lt) is.rows.few (words_few index f lt))

all_laid : (rows : ℕ) (column : Field → Laid) (fs : Schema) → ((index : ℕ) (f : Field) → index < length fs → IsLaid rows (get_or fs index f).kind (column (get_or fs index f))) → AreLaid rows fs (map column fs)
all_laid rows column [] each = tt
all_laid rows column (f ∷ fs) each = (each 0 f (omega arith), all_laid rows column fs (λ index g lt. each (suc index) g (omega arith)))

-- ---- a segment can be laid out

pub IsLayout-of : (s : Segment) → IsSegment s → IsFileNumber s.number → IsLayout (layout_of s)
IsLayout-of s is number =
    let long : length (map head_of s.rows) ≡ length s.rows = length-map s.rows head_of in
    record {
      number = number;
      schema = is.schema;
      some = omega (arith, long, is.rows.some);
      few = omega (arith, long, is.rows.few);
      heads = All-map IsHead head_of s.rows (λ k d lt. record { positive = is.rows.positive k d lt; fits = (is.formed k d lt).number; id = (is.formed k d lt).id; source = (is.formed k d lt).source });
      columns = subst (λ n. AreLaid n s.schema (map (column_of s.rows) s.schema)) (sym long) (all_laid (length s.rows) (column_of s.rows) s.schema (column_fits s is));
    }

-- ---- and is told by its layout

-- what the laws of terms and of columns say
pub record AreTold : Type 0 where
  pub terms : (a b : List (List Text)) → length a ≡ length b → All IsTextSet a → All IsTextSet b → word_postings_of a ≡ word_postings_of b → a ≡ b
  pub keywords : (a b : List (Option Text)) → keywords_of a ≡ keywords_of b → map (code_in (keywords_of a)) a ≡ map (code_in (keywords_of b)) b → a ≡ b
  pub labels : (a b : List (List Text)) → dictionary_of a ≡ dictionary_of b → map (map (ordinal_in (dictionary_of a))) a ≡ map (map (ordinal_in (dictionary_of b))) b → a ≡ b

-- the contents are what is read of them
pub read_back : {Y : Type 0} (kind : Kind) (make : Y → Content) (read : Option Content → Y) → ((c : Content) → IsContent kind c → make (read (Some c)) ≡ c)
    → (contents : List Content) → All (IsContent kind) contents → map make (map read (seen contents)) ≡ contents
read_back kind make read same [] kinds = refl
read_back kind make read same (c ∷ cs) kinds = λ i. same c (kinds 0 c (omega arith)) i ∷ read_back kind make read same cs (λ k d lt. kinds (suc k) d (omega arith)) i

pub words_back : (c : Content) → IsContent Kind.text c → Content.words (words_in (Some c)) ≡ c
words_back c (IsContent.words ws rising) = refl

pub keyword_back : (c : Content) → IsContent Kind.keyword c → Content.keyword (keyword_in (Some c)) ≡ c
keyword_back c (IsContent.keyword k) = refl

pub number_back : (c : Content) → IsContent Kind.number c → Content.number (number_in (Some c)) ≡ c
number_back c (IsContent.number z) = refl

pub labels_back : (c : Content) → IsContent Kind.facet c → Content.labels (labels_in (Some c)) ≡ c
labels_back c (IsContent.labels ls rising) = refl

words_rise : (c : Content) → IsContent Kind.text c → IsTextSet (words_in (Some c))
words_rise c (IsContent.words ws rising) = rising

pub word_sets : (contents : List Content) → All (IsContent Kind.text) contents → All IsTextSet (map words_in (seen contents))
word_sets contents kinds = All-map IsTextSet words_in (seen contents) (All-map (λ o. IsTextSet (words_in o)) (λ c. Some c) contents (λ k d lt. words_rise (get_or contents k d) (kinds k d lt)))

labels_rise : (c : Content) → IsContent Kind.facet c → IsTextSet (labels_in (Some c))
labels_rise c (IsContent.labels ls rising) = rising

pub label_sets : (contents : List Content) → All (IsContent Kind.facet) contents → All IsTextSet (map labels_in (seen contents))
label_sets contents kinds = All-map IsTextSet labels_in (seen contents) (All-map (λ o. IsTextSet (labels_in o)) (λ c. Some c) contents (λ k d lt. labels_rise (get_or contents k d) (kinds k d lt)))

pub length-seen : {Y : Type 0} (read : Option Content → Y) (contents : List Content) → length (map read (seen contents)) ≡ length contents
length-seen read contents = length-map (seen contents) read ∙ length-map contents (λ c. Some c)

column_told : AreTold → (kind : Kind) (rows : ℕ) (one other : List Content) → AreContents kind rows one → AreContents kind rows other → laid_out kind one ≡ laid_out kind other → one ≡ other
column_told told Kind.text rows one other a b same =
    let postings : word_postings_of (map words_in (seen one)) ≡ word_postings_of (map words_in (seen other)) = cc in
    let words = told.terms (map words_in (seen one)) (map words_in (seen other)) (length-seen words_in one ∙ a.long ∙ sym (length-seen words_in other ∙ b.long)) (word_sets one a.kinds) (word_sets other b.kinds) postings in
    sym (read_back Kind.text Content.words words_in words_back one a.kinds) ∙ ap (map Content.words) words ∙ read_back Kind.text Content.words words_in words_back other b.kinds
column_told told Kind.keyword rows one other a b same =
    let ks : List (Option Text) = map keyword_in (seen one) in
    let ls : List (Option Text) = map keyword_in (seen other) in
    let dictionary : keywords_of ks ≡ keywords_of ls = cc in
    let codes : map (code_in (keywords_of ks)) ks ≡ map (code_in (keywords_of ls)) ls = cc in
    sym (read_back Kind.keyword Content.keyword keyword_in keyword_back one a.kinds) ∙ ap (map Content.keyword) (told.keywords ks ls dictionary codes) ∙ read_back Kind.keyword Content.keyword keyword_in keyword_back other b.kinds
column_told told Kind.number rows one other a b same =
    let numbers : map number_in (seen one) ≡ map number_in (seen other) = cc in
    sym (read_back Kind.number Content.number number_in number_back one a.kinds) ∙ ap (map Content.number) numbers ∙ read_back Kind.number Content.number number_in number_back other b.kinds
column_told told Kind.facet rows one other a b same =
    let ks : List (List Text) = map labels_in (seen one) in
    let ls : List (List Text) = map labels_in (seen other) in
    let dictionary : dictionary_of ks ≡ dictionary_of ls = cc in
    let ordinals : map (map (ordinal_in (dictionary_of ks))) ks ≡ map (map (ordinal_in (dictionary_of ls))) ls = cc in
    sym (read_back Kind.facet Content.labels labels_in labels_back one a.kinds) ∙ ap (map Content.labels) (told.labels ks ls dictionary ordinals) ∙ read_back Kind.facet Content.labels labels_in labels_back other b.kinds

-- parts that have the same in each place are one
fields_told : (fs : Schema) (ps qs : List FieldContent) → AreFields fs ps → AreFields fs qs → ((index : ℕ) → index < length fs → (get_or ps index no_content).content ≡ (get_or qs index no_content).content) → ps ≡ qs
fields_told [] [] [] a b same = refl
fields_told [] [] (q ∷ qs) a b same = absurd b
fields_told [] (p ∷ ps) qs a b same = absurd a
fields_told (f ∷ fs) [] qs a b same = absurd a
fields_told (f ∷ fs) (p ∷ ps) [] a b same = absurd b
fields_told (f ∷ fs) (p ∷ ps) (q ∷ qs) a b same =
    let content = same 0 (omega arith) in
    let name : p.name ≡ q.name = a.0.0 ∙ sym b.0.0 in
    let later = fields_told fs ps qs a.1 b.1 (λ index lt. same (suc index) (omega arith)) in
    λ i. record { name = name i; content = content i } ∷ later i

module _ (told : AreTold) (s t : Segment) (a : IsSegment s) (b : IsSegment t) (same : layout_of s ≡ layout_of t) where
  schemas : s.schema ≡ t.schema
  schemas = ap (λ l. l.schema) same

  as_many : length s.rows ≡ length t.rows
  as_many = sym (length-map s.rows head_of) ∙ ap (λ l. length l.heads) same ∙ length-map t.rows head_of

  heads_at : (k : ℕ) (d : Row) → k < length s.rows → head_of (get_or s.rows k d) ≡ head_of (get_or t.rows k d)
  heads_at k d lt =
      sym (get_or-map head_of s.rows k d (head_of d) lt) ∙ ap (λ l. get_or l.heads k (head_of d)) same ∙ get_or-map head_of t.rows k d (head_of d) (omega (arith, as_many))

  columns_at : (index : ℕ) (f : Field) → index < length s.schema → contents_under index s.rows ≡ contents_under index t.rows
  columns_at index f lt =
      let g : Field = get_or s.schema index f in
      let h : Field = get_or t.schema index f in
      let within : index < length t.schema = omega (arith, ap length schemas) in
      let field : g ≡ h = ap (λ l. get_or l index f) schemas in
      let none : Laid = Laid.numbers [] in
      let laid : column_of s.rows g ≡ column_of t.rows h =
      sym (get_or-map (column_of s.rows) s.schema index f none lt) ∙ ap (λ l. get_or l.columns index none) same ∙ get_or-map (column_of t.rows) t.schema index f none within in
      let here : laid_out g.kind (contents_under index s.rows) ≡ laid_out g.kind (contents_under index t.rows) =
      sym (column_placed s a index f lt) ∙ laid ∙ column_placed t b index f within ∙ ap (λ e. laid_out e.kind (contents_under index t.rows)) (sym field) in
      column_told told g.kind (length s.rows) (contents_under index s.rows) (contents_under index t.rows) (contents_are s a index f lt)
      (subst (λ e. AreContents e.kind (length s.rows) (contents_under index t.rows)) (sym field) (subst (λ n. AreContents h.kind n (contents_under index t.rows)) (sym as_many) (contents_are t b index f within)))
      here

  rows_at : (k : ℕ) (d : Row) → k < length s.rows → get_or s.rows k d ≡ get_or t.rows k d
  rows_at k d lt =
      let head = heads_at k d lt in
      let within : k < length t.rows = omega (arith, as_many) in
      let fields = fields_told s.schema (get_or s.rows k d).fields (get_or t.rows k d).fields (a.rows.fields k d lt) (subst (λ fs. AreFields fs (get_or t.rows k d).fields) (sym schemas) (b.rows.fields k d within))
      (λ index inside. sym (get_or-map (content_under index) s.rows k d (content_under index d) lt)
      ∙ ap (λ l. get_or l k (content_under index d)) (columns_at index (record { name = []; kind = Kind.text }) inside)
      ∙ get_or-map (content_under index) t.rows k d (content_under index d) within) in
      λ i. record { number = (head i).number; id = (head i).id; fields = fields i; length = (head i).length }

  pub segment_told : s ≡ t
  segment_told =
      let rows = same_lists s.rows t.rows as_many rows_at in
      λ i. record { number = (same i).number; schema = (same i).schema; rows = rows i }
