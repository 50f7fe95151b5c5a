-- What the columns of inputs say of their rows, and of the rows that are kept.
use Rattle.std.proofs.Common.{◌≡◌, ◌<◌, ◌≤◌, ◌^◌, ℕ, zero, suc, ◌+◌, Bool, true, false, List, [], ◌∷◌, ◌++◌, length, map, take, get_or, Option, Some, None, refl, sym, ap, ap₂, ◌∙◌, subst, arith}
use Rattle.std.specs.Prelude.{All, if◌then◌else◌}
use Rattle.std.specs.List.{flat_map, HoldsAt}
use Rattle.std.proofs.lemmas.List.{map-append, append_assoc, append-nil, take_all, length-append, length-map, get_or_append_left, get_or-append-add}
use Rattle.std.proofs.lemmas.Simd.{map-map}
use Rattle.cat_model.specs.Item.{Content, Field, Kind, words_in, keyword_in}
use Rattle.cat_model.specs.Layout.{Laid, word_postings_of}
use Rattle.cat_model.specs.Ordinals.{dictionary_of, texts_of}
use Rattle.cat_model.specs.RowSets.{has_row}
use Rattle.cat_model.specs.Text.{Text}
use Rattle.cat_model.specs.View.{Row, Leaf, Segment, IsSegment, selected}
use Rattle.cat_model.proofs.Sources.{selected-map}
use Rattle.cat_views.proofs.segment_laws.Placed.{contents_named}
use Rattle.cat_views.specs.cat_segment.Contents.{contents_of, contents_told, contents_under_name}
use Rattle.cat_views.specs.cat_segment.Laid.{content_under, contents_under}
use Rattle.cat_views.specs.cat_segment.declared.column.Column.{Column}
use Rattle.cat_merge.proofs.Passed.{selected_more, flat_more}
use Rattle.std.specs.Prelude.{Result, Ok, Err, IfOk}
use Rattle.cat_items.specs.file_parts.Parts.{column_in, IsColumnParts}
use Rattle.cat_items.specs.declared.file_parts.parts.ColumnParts.{ColumnParts}
use Rattle.cat_merge.specs.Fields.{IsMergedColumn, texts_read, texts_under, keywords_under, texts_at, kept_rows, HasField}

no_field : Field
no_field = record { name = []; kind = Kind.text }

-- ---- a column says what its rows have in the field of its index

unseen : Option Content → Content
unseen None = Content.words []
unseen (Some c) = c

seen_once : (cs : List Content) → map unseen (map (λ c. Some c) cs) ≡ cs
unfolding unseen
seen_once [] = refl
seen_once (c ∷ cs) = ap (λ l. c ∷ l) (seen_once cs)

pub told_contents : (s : Segment) (index : ℕ) (c : Column) → IsSegment s → index < length s.schema → HoldsAt (λ f. contents_told c ≡ contents_under_name f.name s.rows) s.schema index
    → contents_of c ≡ contents_under index s.rows
told_contents s index c is within told =
    sym (seen_once (contents_of c))
    ∙ ap (map unseen) (told no_field ∙ contents_named s.schema s.rows index no_field is.schema.rising is.rows.fields within)
    ∙ seen_once (contents_under index s.rows)

-- ---- what is read of contents

pub words_told : (ws : List (List Text)) → map (texts_read Kind.text) (map Content.words ws) ≡ ws
words_told [] = refl
words_told (w ∷ ws) = ap (λ l. w ∷ l) (words_told ws)

pub keyword_texts_told : (ks : List (Option Text)) → map (texts_read Kind.keyword) (map Content.keyword ks) ≡ map texts_of ks
keyword_texts_told [] = refl
keyword_texts_told (k ∷ ks) = ap (λ l. texts_of k ∷ l) (keyword_texts_told ks)

pub label_texts_told : (ls : List (List Text)) → map (texts_read Kind.facet) (map Content.labels ls) ≡ ls
label_texts_told [] = refl
label_texts_told (l ∷ ls) = ap (λ t. l ∷ t) (label_texts_told ls)

-- the texts of a column are those of its rows
pub texts_told : (kind kind' : Kind) (index : ℕ) (rows : List Row) (contents : List Content) (texts : List (List Text)) → texts ≡ map (texts_read kind) contents → kind ≡ kind'
    → contents ≡ contents_under index rows → texts ≡ texts_under kind' index rows
texts_told kind kind' index rows contents texts e same told =
    e ∙ ap₂ (λ (k : Kind) (cs : List Content). map (texts_read k) cs) same told ∙ map-map (texts_read kind') (content_under index) rows

module _ {Y : Type 0} (make : Y → Content) (read : Option Content → Y) (back : (y : Y) → read (Some (make y)) ≡ y) where
  made_back : (ys : List Y) → map (λ c. read (Some c)) (map make ys) ≡ ys
  made_back [] = refl
  made_back (y ∷ ys) = ap₂ (λ a b. a ∷ b) (back y) (made_back ys)

  -- the values of a column are those of its rows
  pub values_told : (index : ℕ) (rows : List Row) (ys : List Y) → map make ys ≡ contents_under index rows → ys ≡ map (λ r. read (Some (content_under index r))) rows
  values_told index rows ys told =
      sym (made_back ys) ∙ ap (map (λ c. read (Some c))) told ∙ map-map (λ c. read (Some c)) (content_under index) rows

-- what is read of contents that are seen
pub read_seen : {Y : Type 0} (read : Option Content → Y) (index : ℕ) (rows : List Row) → map read (map (λ c. Some c) (contents_under index rows)) ≡ map (λ r. read (Some (content_under index r))) rows
read_seen read index rows = map-map read (λ c. Some c) (contents_under index rows) ∙ map-map (λ c. read (Some c)) (content_under index) rows

-- ---- what is kept

pub kept_values : {Y : Type 0} (f : Row → Y) (inputs : List Leaf) → flat_map (λ leaf. selected leaf.live (map f leaf.segment.rows)) inputs ≡ map f (kept_rows inputs)
kept_values f [] = refl
kept_values f (x ∷ inputs) =
    ap₂ (λ a b. a ++ b) (sym (selected-map f x.live x.segment.rows)) (kept_values f inputs)
    ∙ sym (map-append f (selected x.live x.segment.rows) (kept_rows inputs))

-- as many as rows are kept, whatever is read of each
pub kept_long : {Y : Type 0} (f : Leaf → Row → Y) (inputs : List Leaf) → length (flat_map (λ leaf. selected leaf.live (map (f leaf) leaf.segment.rows)) inputs) ≡ length (kept_rows inputs)
kept_long f [] = refl
kept_long f (x ∷ inputs) =
    length-append (selected x.live (map (f x) x.segment.rows)) _
    ∙ ap₂ (λ (a b : ℕ). a + b) (ap length (sym (selected-map (f x) x.live x.segment.rows)) ∙ length-map (selected x.live x.segment.rows) (f x)) (kept_long f inputs)
    ∙ sym (length-append (selected x.live x.segment.rows) (kept_rows inputs))

-- the texts of the kept rows, by the kind that the field has in each input
pub kept_texts : (kind : Kind) (index : ℕ) (inputs : List Leaf) → All (HasField kind index) inputs
    → flat_map (λ leaf. selected leaf.live (texts_at index leaf)) inputs ≡ texts_under kind index (kept_rows inputs)
kept_texts kind index [] all = refl
kept_texts kind index (x ∷ inputs) all =
    ap₂ (λ a b. a ++ b)
    (ap (λ k. selected x.live (texts_under k index x.segment.rows)) (all 0 x (omega arith)).1 ∙ sym (selected-map (λ r. texts_read kind (content_under index r)) x.live x.segment.rows))
    (kept_texts kind index inputs (λ k d lt. all (suc k) d (omega (arith, lt))))
    ∙ sym (map-append (λ r. texts_read kind (content_under index r)) (selected x.live x.segment.rows) (kept_rows inputs))

-- what holds of all that is selected holds of each
pub selected_at : {A : Type 0} (P : A → Type 0) (bs : List Bool) (xs : List A) (i : ℕ) (d : A) → All P (selected bs xs) → i < length xs → has_row bs i ≡ true → P (get_or xs i d)
selected_at P bs [] i d all within is = absurd (omega (arith, within))
selected_at P [] (x ∷ xs) i d all within is = absurd (let never : false ≡ true = is in cc)
selected_at P (true ∷ bs) (x ∷ xs) zero d all within is = all 0 d (omega arith)
selected_at P (false ∷ bs) (x ∷ xs) zero d all within is = absurd (let never : false ≡ true = is in cc)
selected_at P (true ∷ bs) (x ∷ xs) (suc i) d all within is = selected_at P bs xs i d (λ k e lt. all (suc k) e (omega (arith, lt))) (omega (arith, within)) is
selected_at P (false ∷ bs) (x ∷ xs) (suc i) d all within is = selected_at P bs xs i d all (omega (arith, within)) is

-- ---- rows one by one

module _ {A Y : Type 0} (f : A → Y) (live : List Bool) (xs : List A) (base so_far more : List Y) (row : ℕ) (d : A) (long : length live ≡ length xs) (within : row < length xs)
    (is : so_far ≡ base ++ map f (selected (take row live) (take row xs))) where
  pub row_kept : has_row live row ≡ true → more ≡ so_far ++ f (get_or xs row d) ∷ [] → more ≡ base ++ map f (selected (take (row + 1) live) (take (row + 1) xs))
  row_kept kept e =
      e ∙ ap (λ l. l ++ f (get_or xs row d) ∷ []) is ∙ append_assoc base (map f (selected (take row live) (take row xs))) (f (get_or xs row d) ∷ [])
      ∙ ap (λ l. base ++ l)
      (sym (map-append f (selected (take row live) (take row xs)) (get_or xs row d ∷ []))
      ∙ ap (map f) (ap (λ b. selected (take row live) (take row xs) ++ (if b then get_or xs row d ∷ [] else [])) (sym kept) ∙ sym (selected_more live xs row d long within)))

  pub row_left : has_row live row ≡ false → more ≡ so_far → more ≡ base ++ map f (selected (take (row + 1) live) (take (row + 1) xs))
  row_left left e =
      e ∙ is
      ∙ ap (λ l. base ++ map f l)
      (sym (append-nil (selected (take row live) (take row xs)))
      ∙ ap (λ b. selected (take row live) (take row xs) ++ (if b then get_or xs row d ∷ [] else [])) (sym left) ∙ sym (selected_more live xs row d long within))

-- all rows
pub rows_all : {A Y : Type 0} (f : A → Y) (live : List Bool) (xs : List A) (base so_far : List Y) (row : ℕ) → length live ≡ length xs → length xs ≤ row
    → so_far ≡ base ++ map f (selected (take row live) (take row xs)) → so_far ≡ base ++ map f (selected live xs)
rows_all f live xs base so_far row long past is =
    is ∙ ap₂ (λ (a : List Bool) b. base ++ map f (selected a b)) (take_all row live (omega (arith, long, past))) (take_all row xs past)

-- ---- inputs one by one

module _ {Y : Type 0} (f : Leaf → List Y) (inputs : List Leaf) (i : ℕ) (x : Leaf) (within : i < length inputs) (there : x ≡ get_or inputs i x) where
  pub input_more : {Z : Type 0} (g : Y → Z) (so_far more : List Z) → so_far ≡ map g (flat_map f (take i inputs)) → more ≡ so_far ++ map g (f x) → more ≡ map g (flat_map f (take (i + 1) inputs))
  input_more g so_far more is e =
      e ∙ ap₂ (λ a b. a ++ map g b) is (ap f there) ∙ sym (map-append g (flat_map f (take i inputs)) (f (get_or inputs i x))) ∙ ap (map g) (sym (flat_more f inputs i x within))

-- what holds of all that is joined holds of each part
pub all_of_flat : {X A : Type 0} (P : A → Type 0) (f : X → List A) (xs : List X) (i : ℕ) (x : X) → All P (flat_map f xs) → i < length xs → All P (f (get_or xs i x))
all_of_flat P f [] i x all within = absurd (omega (arith, within))
all_of_flat P f (y ∷ xs) zero x all within = λ k d lt.
    subst P (get_or_append_left (f y) (flat_map f xs) d k lt) (all k d (omega (arith, lt, length-append (f y) (flat_map f xs))))
all_of_flat P f (y ∷ xs) (suc i) x all within =
    all_of_flat P f xs i x (λ k d lt. subst P (get_or-append-add (f y) (flat_map f xs) k d) (all (length (f y) + k) d (omega (arith, lt, length-append (f y) (flat_map f xs))))) (omega (arith, within))

-- ---- the texts of kept rows are in the dictionary

pub keyword_texts : (index : ℕ) (rows : List Row) → texts_under Kind.keyword index rows ≡ map texts_of (keywords_under index rows)
keyword_texts index rows = sym (map-map texts_of (λ r. keyword_in (Some (content_under index r))) rows)

-- ---- the column of a text field
pub words_column : {E : Type 0} (kind : Kind) (index : ℕ) (rows : List Row) (terms : List (List Text)) (r : Result ColumnParts E) → kind ≡ Kind.text → terms ≡ texts_under Kind.text index rows
    → IfOk r IsColumnParts → IfOk r (λ p. column_in p ≡ Laid.words (word_postings_of terms)) → length (dictionary_of terms) < 2 ^ 32 → IfOk r (IsMergedColumn kind index rows)
words_column kind index rows terms (Err e) is told cut laid few = tt
words_column kind index rows terms (Ok p) is told cut laid few =
    subst (λ k. IsMergedColumn k index rows p) (sym is)
    (record {
      cut = cut;
      laid = laid ∙ ap (λ ts. Laid.words (word_postings_of ts)) (told ∙ sym (read_seen words_in index rows));
      words = λ e. omega (arith, few, ap (λ (ts : List (List Text)). length (dictionary_of ts)) told);
    })
