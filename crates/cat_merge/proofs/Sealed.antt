-- The segment of the rows that a merge keeps, and how it is laid out.
use Rattle.std.proofs.Common.{◌≡◌, ◌≢◌, ◌<◌, ◌≤◌, ◌^◌, ℕ, suc, ◌+◌, Bool, true, false, List, [], ◌∷◌, ◌++◌, length, map, get_or, Some, refl, sym, ap, ap₂, ◌∙◌, subst, arith, inl, inr}
use Rattle.std.specs.Prelude.{All}
use Rattle.std.specs.List.{AllPairs}
use Rattle.std.proofs.lemmas.List.{length_push, length-map, get_or-map, same_lists, get_or_append_left, get_or_at, get_or_default, take_all}
use Rattle.std.proofs.lemmas.List.Elements.{All-append, All-cons, All-map}
use Rattle.std.proofs.lemmas.List.Kept.{AllPairs-cons}
use Rattle.cat_items.specs.file_parts.Parts.{column_in, heads_in, IsColumnParts}
use Rattle.cat_items.specs.declared.file_parts.parts.ColumnParts.{ColumnParts}
use Rattle.cat_columns.proofs.inverted.Told as terms
use Rattle.cat_model.specs.Item.{Content, Field, Kind, Schema, IsContent, AreFields, IsSchema, words_in}
use Rattle.cat_model.specs.Layout.{Head, column_of, head_of, layout_of, IsLayout}
use Rattle.cat_model.specs.Ordinals.{dictionary_of}
use Rattle.cat_model.specs.Text.{Text}
use Rattle.std.proofs.lemmas.Bool.{cases_lt}
use Rattle.cat_model.specs.View.{Row, Leaf, Segment, AreRows, IsFormedRow, IsSegment, selected, live_rows}
use Rattle.cat_model.specs.Merged.{rows_of_all, live_of_all, rows_kept}
use Rattle.cat_views.proofs.segment_laws.Formed.{seen, length-dictionary}
use Rattle.cat_views.proofs.segment_laws.Layouts.{AreTold, column_placed, segment_told, IsLayout-of}
use Rattle.cat_views.proofs.segment_laws.Placed.{AreContents-of}
use Rattle.cat_views.proofs.segment_laws.Worded.{words_few, words_under}
use Rattle.cat_views.specs.cat_segment.Laid.{contents_under}
use Rattle.cat_columns.proofs.Told as columns
use Rattle.cat_merge.proofs.Passed.{rows-live, live_few, length-live_of_all}
use Rattle.cat_merge.proofs.Read.{read_seen}
use Rattle.cat_merge.specs.Fields.{kept_rows, IsMergedColumn, AreFirstColumns, AreMergedColumns}
use Rattle.cat_merge.specs.Merging.{MayMerge}
use Rattle.cat_merge.specs.Walk.{AreInputs}

-- ---- what holds of all rows holds of those that are kept

selected_all : {A : Type 0} (P : A → Type 0) (bs : List Bool) (xs : List A) → All P xs → All P (selected bs xs)
selected_all P [] xs all = λ k d lt. absurd (omega (arith, lt))
selected_all P (b ∷ bs) [] all = λ k d lt. absurd (omega (arith, lt))
selected_all P (true ∷ bs) (x ∷ xs) all = All-cons P x (selected bs xs) (all 0 x (omega arith)) (selected_all P bs xs (λ j e l. all (suc j) e (omega (arith, l))))
selected_all P (false ∷ bs) (x ∷ xs) all = selected_all P bs xs (λ j e l. all (suc j) e (omega (arith, l)))

selected_pairs : {A : Type 0} (R : A → A → Type 0) (bs : List Bool) (xs : List A) → AllPairs R xs → AllPairs R (selected bs xs)
selected_pairs R [] xs all = λ i j d lt within. absurd (omega (arith, within))
selected_pairs R (b ∷ bs) [] all = λ i j d lt within. absurd (omega (arith, within))
selected_pairs R (true ∷ bs) (x ∷ xs) all =
    AllPairs-cons R x (selected bs xs) (selected_all (R x) bs xs (λ k d lt. all 0 (suc k) d (omega arith) (omega (arith, lt))))
    (selected_pairs R bs xs (λ i j d lt within. all (suc i) (suc j) d (omega (arith, lt)) (omega (arith, within))))
selected_pairs R (false ∷ bs) (x ∷ xs) all = selected_pairs R bs xs (λ i j d lt within. all (suc i) (suc j) d (omega (arith, lt)) (omega (arith, within)))

all_kept : (P : Row → Type 0) (inputs : List Leaf) → All (λ leaf. All P leaf.segment.rows) inputs → All P (kept_rows inputs)
all_kept P [] all = λ k d lt. absurd (omega (arith, lt))
all_kept P (x ∷ inputs) all =
    All-append P (live_rows x) (kept_rows inputs) (selected_all P x.live x.segment.rows (all 0 x (omega arith))) (all_kept P inputs (λ k d lt. all (suc k) d (omega (arith, lt))))

schema_is : (schema : Schema) (inputs : List Leaf) → AreInputs inputs → All (λ leaf. leaf.segment.schema ≡ schema) inputs → kept_rows inputs ≢ [] → IsSchema schema
schema_is schema [] are same some = absurd (some refl)
schema_is schema (x ∷ inputs) are same some = subst IsSchema (same 0 x (omega arith)) (are.segments 0 x (omega arith)).schema

not_empty : {A : Type 0} (xs : List A) → xs ≢ [] → 1 ≤ length xs
not_empty [] some = absurd (some refl)
not_empty (x ∷ xs) some = omega arith

-- ---- words

wordless : (kind : Kind) (c : Content) → IsContent kind c → kind ≢ Kind.text → length (words_in (Some c)) ≤ 0
wordless kind c (IsContent.words ws rising) other = absurd (other refl)
wordless kind c (IsContent.keyword k) other = omega arith
wordless kind c (IsContent.number z) other = omega arith
wordless kind c (IsContent.labels ls rising) other = omega arith

no_words : (kind : Kind) (contents : List Content) → All (IsContent kind) contents → kind ≢ Kind.text → length (dictionary_of (words_under contents)) < 2 ^ 32
no_words kind contents kinds other =
    omega (
      arith,
      length-dictionary 0 (words_under contents) (All-map (λ ws. length ws ≤ 0) words_in (seen contents) (All-map (λ o. length (words_in o) ≤ 0) (λ c. Some c) contents
          (λ k d lt. wordless kind (get_or contents k d) (kinds k d lt) other))),
    )

words_of_kind : (kind : Kind) (contents : List Content) → All (IsContent kind) contents → (kind ≡ Kind.text → length (dictionary_of (words_under contents)) < 2 ^ 32) → length (dictionary_of (words_under contents)) < 2 ^ 32
words_of_kind Kind.text contents kinds few = few refl
words_of_kind Kind.keyword contents kinds few = no_words Kind.keyword contents kinds (λ e. (cc))
words_of_kind Kind.number contents kinds few = no_words Kind.number contents kinds (λ e. (cc))
words_of_kind Kind.facet contents kinds few = no_words Kind.facet contents kinds (λ e. (cc))

-- ---- the segment

module _ (number : ℕ) (schema : Schema) (inputs : List Leaf) (may : MayMerge number schema inputs) (are : AreInputs inputs) (some : kept_rows inputs ≢ []) where
  abbrev pub merged : Segment
  merged = record { number = number; schema = schema; rows = kept_rows inputs }

  pub rows_are : AreRows schema (kept_rows inputs)
  rows_are = record {
    some = not_empty (kept_rows inputs) some;
    few = omega (arith, live_few inputs, may.few);
    fields = all_kept (λ r. AreFields schema r.fields) inputs (λ k d lt. subst (λ s. All (λ (r : Row). AreFields s r.fields) (get_or inputs k d).segment.rows) (may.schemas k d lt) (are.segments k d lt).rows.fields);
    positive = all_kept (λ r. 1 ≤ r.number) inputs (λ k d lt. (are.segments k d lt).rows.positive);
    rising = subst (AllPairs (λ (a b : Row). a.number < b.number)) (rows-live inputs are.live) (selected_pairs (λ (a b : Row). a.number < b.number) (live_of_all inputs) (rows_of_all inputs) may.rising);
    distinct = may.distinct;
  }

  pub formed_are : All IsFormedRow (kept_rows inputs)
  formed_are = all_kept IsFormedRow inputs (λ k d lt. (are.segments k d lt).formed)

  module _ (no_part : ColumnParts) (parts : List ColumnParts) (columns' : AreMergedColumns schema (kept_rows inputs) parts) where
    pub segment_is : IsSegment merged
    segment_is =
        let schema' : IsSchema schema = schema_is schema inputs are may.schemas some in
        record {
          schema = schema';
          rows = rows_are;
          formed = formed_are;
          words = words_few schema (kept_rows inputs) schema'.rising rows_are.fields (λ index lt.
              let f : Field = record { name = []; kind = Kind.text } in
              words_of_kind (get_or schema index f).kind (contents_under index (kept_rows inputs)) (AreContents-of schema (kept_rows inputs) index f rows_are formed_are lt).kinds
              (λ e. omega (arith, (columns'.each index f no_part lt).words e, ap (λ (l : List (List (List ℕ))). length (dictionary_of l)) (read_seen words_in index (kept_rows inputs)))));
        }

    -- its columns are laid out as the parts
    pub columns_laid : map column_in parts ≡ map (column_of (kept_rows inputs)) schema
    columns_laid =
        same_lists (map column_in parts) (map (column_of (kept_rows inputs)) schema)
        (length-map parts column_in ∙ columns'.many ∙ sym (length-map schema (column_of (kept_rows inputs))))
        (λ k l lt.
        let f : Field = record { name = []; kind = Kind.text } in
        let here : k < length parts = omega (arith, lt, length-map parts column_in) in
        let within : k < length schema = omega (arith, here, columns'.many) in
        get_or-map column_in parts k no_part l here
        ∙ (columns'.each k f no_part within).laid
        ∙ sym (column_placed merged segment_is k f within)
        ∙ sym (get_or-map (column_of (kept_rows inputs)) schema k f l within))

    module _ (heads : List Head) (same : heads ≡ map head_of (kept_rows inputs)) where
      pub laid : layout_of merged ≡ record { number = number; schema = schema; heads = heads; columns = map column_in parts }
      laid = λ i. record { number = number; schema = schema; heads = sym same i; columns = sym columns_laid i }

      pub fits : IsLayout (record { number = number; schema = schema; heads = heads; columns = map column_in parts })
      fits = subst IsLayout laid (IsLayout-of merged segment_is may.numbered)

      -- so it isn't so that no segment is
      pub has_segment : ((s : Segment) → IsSegment s → layout_of s ≢ record { number = number; schema = schema; heads = heads; columns = map column_in parts }) → ⊥
      has_segment none = none merged segment_is laid

      told : AreTold
      told = record { terms = terms.told; keywords = columns.same_keywords; labels = columns.same_labels }

      pub is_merged : (s : Segment) → IsSegment s → layout_of s ≡ record { number = number; schema = schema; heads = heads; columns = map column_in parts } → s ≡ merged
      is_merged s is e = segment_told told s merged is segment_is (e ∙ sym laid)

pub each_cut : (schema : Schema) (rows : List Row) (parts : List ColumnParts) → AreMergedColumns schema rows parts → All IsColumnParts parts
each_cut schema rows parts are = λ k d lt. (are.each k (record { name = []; kind = Kind.text }) d (omega (arith, lt, are.many))).cut

-- ---- with one column more
columns_more : (fields : Schema) (rows : List Row) (parts : List ColumnParts) (index : ℕ) (new : ColumnParts) (kind : Kind) (g : Field) → length parts ≡ index → kind ≡ (get_or fields index g).kind → index < length fields
    → ((k : ℕ) (f : Field) (p : ColumnParts) → k < index → IsMergedColumn (get_or fields k f).kind k rows (get_or parts k p)) → IsMergedColumn kind index rows new
    → (k : ℕ) (f : Field) (p : ColumnParts) → k < index + 1 → IsMergedColumn (get_or fields k f).kind k rows (get_or (parts ++ new ∷ []) k p)
columns_more fields rows parts index new kind g many same within each is k f p lt = elim (cases_lt k index) [
  | inl below ↦ subst (IsMergedColumn (get_or fields k f).kind k rows) (sym (get_or_append_left parts (new ∷ []) p k (omega (arith, below, many)))) (each k f p below)
  | inr end ↦
      let last : k ≡ index = omega (arith, lt, end) in
      subst (λ j. IsMergedColumn (get_or fields j f).kind j rows (get_or (parts ++ new ∷ []) j p)) (sym last)
      (subst (λ (q : ColumnParts). IsMergedColumn (get_or fields index f).kind index rows q) (sym (get_or_at parts new [] p index many))
      (subst (λ (h : Kind). IsMergedColumn h index rows new) (same ∙ ap (λ (h : Field). h.kind) (get_or_default fields index g f within)) is))
]

pub column_more : (fields : Schema) (rows : List Row) (parts : List ColumnParts) (new : ColumnParts) (kind : Kind) (g : Field) → kind ≡ (get_or fields (length parts) g).kind → length parts < length fields
    → AreFirstColumns fields rows parts → IsMergedColumn kind (length parts) rows new → AreFirstColumns fields rows (parts ++ new ∷ [])
column_more fields rows parts new kind g same within first is = record {
  many = omega (arith, within, length_push parts new);
  each = λ k f p lt. columns_more fields rows parts (length parts) new kind g refl same within first.each is k f p (omega (arith, lt, length_push parts new));
}

pub all_columns : (fields : Schema) (rows : List Row) (parts : List ColumnParts) → length fields ≤ length parts → AreFirstColumns fields rows parts → AreMergedColumns fields rows parts
all_columns fields rows parts all first = record {
  many = omega (arith, all, first.many);
  each = λ k f p lt. first.each k f p (omega (arith, lt, all));
}

-- ---- with one head more
pub heads_push : (numbers : List ℕ) (ids : List Text) (lengths : List ℕ) (n : ℕ) (id : Text) (l : ℕ) → length ids ≡ length numbers → length lengths ≡ length numbers
    → heads_in (numbers ++ n ∷ []) (ids ++ id ∷ []) (lengths ++ l ∷ []) ≡ heads_in numbers ids lengths ++ record { number = n; id = id; length = l } ∷ []
heads_push [] [] [] n id l e f = refl
heads_push [] [] (k ∷ lengths) n id l e f = absurd (omega (arith, f))
heads_push [] (i ∷ ids) lengths n id l e f = absurd (omega (arith, e))
heads_push (m ∷ numbers) [] lengths n id l e f = absurd (omega (arith, e))
heads_push (m ∷ numbers) (i ∷ ids) [] n id l e f = absurd (omega (arith, f))
heads_push (m ∷ numbers) (i ∷ ids) (k ∷ lengths) n id l e f = ap (λ h. record { number = m; id = i; length = k } ∷ h) (heads_push numbers ids lengths n id l (omega (arith, e)) (omega (arith, f)))

pub heads_long : (numbers : List ℕ) (ids : List Text) (lengths : List ℕ) → length ids ≡ length numbers → length lengths ≡ length numbers → length (heads_in numbers ids lengths) ≡ length ids
heads_long [] [] lengths e f = refl
heads_long [] (i ∷ ids) lengths e f = absurd (omega (arith, e))
heads_long (m ∷ numbers) [] lengths e f = absurd (omega (arith, e))
heads_long (m ∷ numbers) (i ∷ ids) [] e f = absurd (omega (arith, f))
heads_long (m ∷ numbers) (i ∷ ids) (k ∷ lengths) e f = ap suc (heads_long numbers ids lengths (omega (arith, e)) (omega (arith, f)))

-- what is over the rows before a merge's end is all of them
pub kept_all : (inputs : List Leaf) (passed : ℕ) → AreInputs inputs → passed ≡ length (rows_of_all inputs) → rows_kept inputs passed ≡ kept_rows inputs
kept_all inputs passed are end =
    ap₂ (λ (a : List Bool) (b : List Row). selected a b)
    (take_all passed (live_of_all inputs) (omega (arith, end, length-live_of_all inputs are.live))) (take_all passed (rows_of_all inputs) (omega (arith, end)))
    ∙ rows-live inputs are.live

-- nothing is kept where no head is
pub none_kept : (rows : List Row) (heads : List Head) → heads ≡ map head_of rows → length heads ≡ 0 → rows ≡ []
none_kept [] heads e none = refl
none_kept (r ∷ rows) heads e none = absurd (omega (arith, ap length e, none, length-map (r ∷ rows) head_of))
