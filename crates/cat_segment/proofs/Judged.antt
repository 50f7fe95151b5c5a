-- What the parts of a file have to keep so that a segment is laid out as they are.
use Rattle.std.proofs.Common.{◌≡◌, ◌≢◌, ◌<◌, ◌≤◌, ℕ, zero, suc, List, [], ◌∷◌, ◌++◌, length, map, get_or, inl, inr, refl, sym, ap, ◌∙◌, subst, arith}
use Rattle.std.specs.Prelude.{◌⊎◌, All, Any, Result, Ok, Err, IfOk, IfErr}
use Rattle.std.specs.Global.{Vec}
use Rattle.std.specs.List.{AllPairs}
use Rattle.std.proofs.lemmas.List.{length-map, get_or-map, get_or_default, length-append, get_or_at}
use Rattle.std.proofs.lemmas.List.Elements.{All-append, All-cons, All-nil}
use Rattle.cat_base.specs.declared.refusal.Refusal.{Refusal}
use Rattle.cat_base.specs.declared.refusal.Refusal.TheVariants.{Damaged, Memory}
use Rattle.cat_items.specs.file_parts.Parts.{heads_in, column_in, layout_in, IsParts}
use Rattle.cat_items.specs.declared.file_parts.parts.ColumnParts.{ColumnParts}
use Rattle.cat_items.specs.declared.file_parts.parts.ColumnParts.TheVariants as parts
use Rattle.cat_items.specs.declared.file_parts.parts.SegmentParts.{SegmentParts}
use Rattle.cat_model.specs.Text.{Text}
use Rattle.cat_model.specs.Item.{Content, Field, Kind, Schema, words_in, keyword_in, number_in, labels_in}
use Rattle.cat_model.specs.Layout.{Laid, Head, column_of, head_of, layout_of, IsLaid, AreLaid, IsLayout}
use Rattle.cat_model.specs.View.{Row, Segment, IsSegment}
use Rattle.cat_segment.proofs.Assembled.{laid_at, segment as segment_with, IsRead, IsSegment-read, layout_read}
use Rattle.cat_segment.proofs.Columned.{few_told}
use Rattle.cat_segment.proofs.Formed.{seen}
use Rattle.cat_segment.proofs.Layouts.{column_placed, contents_are, read_back, words_back, keyword_back, number_back, labels_back}
use Rattle.cat_segment.specs.Contents.{contents_of}
use Rattle.cat_segment.specs.Parts.{kind_in, IsColumnOf, HasNoColumn, HasNoSegment, IsFit, AreColumnsOf}
use Rattle.cat_segment.specs.Laid.{contents_under, AreContents, laid_out}
use Rattle.cat_segment.specs.declared.column.Column.{Column}
use Rattle.cat_segment.specs.declared.column.Column.TheVariants.{Text as TextColumn, Keyword, Number, Facet}

-- ---- columns

-- one more column
pub column_more : (rows : ℕ) (ps : List ColumnParts) (cs : List Column) (p : ColumnParts) (c : Column) → AreColumnsOf rows ps cs → IsColumnOf rows p c → AreColumnsOf rows (ps ++ p ∷ []) (cs ++ c ∷ [])
column_more rows [] [] p c are one = (one, tt)
column_more rows [] (d ∷ cs) p c are one = absurd are
column_more rows (q ∷ ps) [] p c are one = absurd are
column_more rows (q ∷ ps) (d ∷ cs) p c are one = (are.0, column_more rows ps cs p c are.1 one)

-- what one of them is, some of them is
pub some_part : {X : Type 0} (P : X → Type 0) (xs ys : List X) (x : X) (all : List X) → all ≡ xs ++ x ∷ ys → P x → Any P all
some_part P xs ys x all is one =
    (length xs, x, omega (arith, ap length is, length-append xs (x ∷ ys)), ap (λ l. get_or l (length xs) x) is ∙ get_or_at xs x ys x (length xs) refl, one)

columns_many : (rows : ℕ) (ps : List ColumnParts) (cs : List Column) → AreColumnsOf rows ps cs → length cs ≡ length ps
columns_many rows [] [] are = refl
columns_many rows [] (c ∷ cs) are = absurd are
columns_many rows (p ∷ ps) [] are = absurd are
columns_many rows (p ∷ ps) (c ∷ cs) are = ap suc (columns_many rows ps cs are.1)

column_at : (rows : ℕ) (ps : List ColumnParts) (cs : List Column) (index : ℕ) (p : ColumnParts) (c : Column) → AreColumnsOf rows ps cs → index < length ps → IsColumnOf rows (get_or ps index p) (get_or cs index c)
column_at rows [] cs index p c are lt = absurd (omega arith)
column_at rows (q ∷ ps) [] index p c are lt = absurd are
column_at rows (q ∷ ps) (d ∷ cs) zero p c are lt = are.0
column_at rows (q ∷ ps) (d ∷ cs) (suc index) p c are lt = column_at rows ps cs index p c are.1 (omega arith)

-- a column of parts is one that stands
pub columns_told : (rows : ℕ) (ps : List ColumnParts) (cs : List Column) → AreColumnsOf rows ps cs → All (λ p. HasNoColumn rows p → ⊥) ps
columns_told rows ps cs are k d lt none =
    let c : Column = Number [] in
    let one = column_at rows ps cs k d (get_or cs k c) are lt in
    none (contents_of (get_or cs k (get_or cs k c))) one.contents one.spelled

-- one more part that is judged
pub judged_more : (rows : ℕ) (ps : List ColumnParts) (p : ColumnParts) → All (λ q. HasNoColumn rows q → ⊥) ps → (HasNoColumn rows p → ⊥) → All (λ q. HasNoColumn rows q → ⊥) (ps ++ p ∷ [])
judged_more rows ps p all one =
    All-append (λ q. HasNoColumn rows q → ⊥) ps (p ∷ []) all (All-cons (λ q. HasNoColumn rows q → ⊥) p [] one (All-nil (λ q. HasNoColumn rows q → ⊥)))

-- and where one stands, one can be made
column_made : (rows : ℕ) (part : ColumnParts) (contents : List Content) → AreContents (kind_in part) rows contents → laid_out (kind_in part) contents ≡ column_in part → (c : Column) × IsColumnOf rows part c
column_made rows (parts.Text words ends postings) contents are same =
    let back = read_back Kind.text Content.words words_in words_back contents are.kinds in
    (TextColumn (map words_in (seen contents)), record { contents = subst (AreContents Kind.text rows) (sym back) are; spelled = ap (laid_out Kind.text) back ∙ same })
column_made rows (parts.Keyword dictionary codes) contents are same =
    let back = read_back Kind.keyword Content.keyword keyword_in keyword_back contents are.kinds in
    (Keyword (map keyword_in (seen contents)), record { contents = subst (AreContents Kind.keyword rows) (sym back) are; spelled = ap (laid_out Kind.keyword) back ∙ same })
column_made rows (parts.Number numbers) contents are same =
    let back = read_back Kind.number Content.number number_in number_back contents are.kinds in
    (Number (map number_in (seen contents)), record { contents = subst (AreContents Kind.number rows) (sym back) are; spelled = ap (laid_out Kind.number) back ∙ same })
column_made rows (parts.Facet dictionary ends ordinals) contents are same =
    let back = read_back Kind.facet Content.labels labels_in labels_back contents are.kinds in
    (Facet (map labels_in (seen contents)), record { contents = subst (AreContents Kind.facet rows) (sym back) are; spelled = ap (laid_out Kind.facet) back ∙ same })

columns_made : (rows : ℕ) (ps : List ColumnParts) → All (λ p. HasNoColumn rows p → ⊥) ps → ((cs : List Column) → AreColumnsOf rows ps cs → ⊥) → ⊥
columns_made rows [] each none = none [] tt
columns_made rows (p ∷ ps) each none =
    each 0 p (omega arith)
    (λ contents are same.
    let one = column_made rows p contents are same in
    columns_made rows ps (λ k d lt. each (suc k) d (omega arith)) (λ cs stand. none (one.0 ∷ cs) (one.1, stand)))

laid_many : (rows : ℕ) (fs : Schema) (ls : List Laid) → AreLaid rows fs ls → length ls ≡ length fs
laid_many rows [] [] are = refl
laid_many rows [] (l ∷ ls) are = absurd are
laid_many rows (f ∷ fs) [] are = absurd are
laid_many rows (f ∷ fs) (l ∷ ls) are = ap suc (laid_many rows fs ls are.1)

-- parts are of the kind that they can be laid out for
kind_is : (rows : ℕ) (kind : Kind) (p : ColumnParts) → IsLaid rows kind (column_in p) → kind ≡ kind_in p
kind_is rows Kind.text (parts.Text words ends postings) laid = refl
kind_is rows Kind.text (parts.Keyword dictionary codes) laid = absurd laid
kind_is rows Kind.text (parts.Number numbers) laid = absurd laid
kind_is rows Kind.text (parts.Facet dictionary ends ordinals) laid = absurd laid
kind_is rows Kind.keyword (parts.Text words ends postings) laid = absurd laid
kind_is rows Kind.keyword (parts.Keyword dictionary codes) laid = refl
kind_is rows Kind.keyword (parts.Number numbers) laid = absurd laid
kind_is rows Kind.keyword (parts.Facet dictionary ends ordinals) laid = absurd laid
kind_is rows Kind.number (parts.Text words ends postings) laid = absurd laid
kind_is rows Kind.number (parts.Keyword dictionary codes) laid = absurd laid
kind_is rows Kind.number (parts.Number numbers) laid = refl
kind_is rows Kind.number (parts.Facet dictionary ends ordinals) laid = absurd laid
kind_is rows Kind.facet (parts.Text words ends postings) laid = absurd laid
kind_is rows Kind.facet (parts.Keyword dictionary codes) laid = absurd laid
kind_is rows Kind.facet (parts.Number numbers) laid = absurd laid
kind_is rows Kind.facet (parts.Facet dictionary ends ordinals) laid = refl

-- ---- heads

length-heads : (ns : List ℕ) (ids : List Text) (longs : List ℕ) → length ids ≡ length ns → length longs ≡ length ns → length (heads_in ns ids longs) ≡ length ns
length-heads [] ids longs a b = refl
length-heads (n ∷ ns) [] longs a b = absurd (omega arith)
length-heads (n ∷ ns) (id ∷ ids) [] a b = absurd (omega arith)
length-heads (n ∷ ns) (id ∷ ids) (long ∷ longs) a b = ap suc (length-heads ns ids longs (omega arith) (omega arith))

head_at : (ns : List ℕ) (ids : List Text) (longs : List ℕ) (k : ℕ) (d : Head) → length ids ≡ length ns → length longs ≡ length ns → k < length ns
    → get_or (heads_in ns ids longs) k d ≡ record { number = get_or ns k 0; id = get_or ids k []; length = get_or longs k 0 }
head_at [] ids longs k d a b lt = absurd (omega arith)
head_at (n ∷ ns) [] longs k d a b lt = absurd (omega arith)
head_at (n ∷ ns) (id ∷ ids) [] k d a b lt = absurd (omega arith)
head_at (n ∷ ns) (id ∷ ids) (long ∷ longs) zero d a b lt = refl
head_at (n ∷ ns) (id ∷ ids) (long ∷ longs) (suc k) d a b lt = head_at ns ids longs k d (omega arith) (omega arith) (omega arith)

module _ (p : SegmentParts) (is : IsParts p) where
  pub heads_many : length (heads_in p.numbers.items p.ids.items p.lengths.items) ≡ length p.numbers.items
  heads_many = length-heads p.numbers.items p.ids.items p.lengths.items is.ids is.lengths

  abbrev no_head : Head
  no_head = record { number = 0; id = []; length = 0 }

  -- ---- a segment that is laid out so

  module _ (s : Segment) (segment : IsSegment s) (same : layout_of s ≡ layout_in p) where
    rows_many : length s.rows ≡ length p.numbers.items
    rows_many = sym (length-map s.rows head_of) ∙ ap (λ l. length l.heads) same ∙ heads_many

    row_at : (k : ℕ) (d : Row) → k < length s.rows → head_of (get_or s.rows k d) ≡ record { number = get_or p.numbers.items k 0; id = get_or p.ids.items k []; length = get_or p.lengths.items k 0 }
    row_at k d lt =
        sym (get_or-map head_of s.rows k d no_head lt) ∙ ap (λ l. get_or l.heads k no_head) same
        ∙ head_at p.numbers.items p.ids.items p.lengths.items k no_head is.ids is.lengths (omega (arith, rows_many))

    abbrev no_row : Row
    no_row = record { number = 0; id = []; fields = []; length = 0 }

    pub numbers_rise : AllPairs (λ a b. a < b) p.numbers.items
    numbers_rise i j d lt within =
        let first = ap (λ h. h.number) (row_at i no_row (omega (arith, rows_many))) in
        let second = ap (λ h. h.number) (row_at j no_row (omega (arith, rows_many))) in
        omega (arith, first, second, segment.rows.rising i j no_row lt (omega (arith, rows_many)), get_or_default p.numbers.items i d 0 (omega arith), get_or_default p.numbers.items j d 0 within)

    pub ids_differ : AllPairs (λ a b. a ≢ b) p.ids.items
    ids_differ i j d lt within equal =
        let inside : j < length p.numbers.items = omega (arith, is.ids) in
        let first = ap (λ h. h.id) (row_at i no_row (omega (arith, rows_many))) in
        let second = ap (λ h. h.id) (row_at j no_row (omega (arith, rows_many))) in
        segment.rows.distinct i j no_row lt (omega (arith, rows_many))
        (first ∙ get_or_default p.ids.items i [] d (omega arith) ∙ equal ∙ get_or_default p.ids.items j d [] within ∙ sym second)

    -- has a column for each of the parts
    column_stands : IsLayout (layout_in p) → (index : ℕ) (part : ColumnParts) → index < length p.columns.items → get_or p.columns.items index part ≡ part
        → (contents : List Content) × AreContents (kind_in part) (length p.numbers.items) contents × (laid_out (kind_in part) contents ≡ column_in part)
    column_stands layout index part lt here =
        let f : Field = record { name = []; kind = Kind.text } in
        let l : Laid = Laid.numbers [] in
        let laid : List Laid = map column_in p.columns.items in
        let many : length laid ≡ length p.schema = laid_many _ p.schema laid layout.columns in
        let within : index < length p.schema = omega (arith, many, length-map p.columns.items column_in) in
        let schemas : s.schema ≡ p.schema = ap (λ m. m.schema) same in
        let inside : index < length s.schema = omega (arith, ap length schemas) in
        let column : get_or laid index l ≡ column_in part = get_or-map column_in p.columns.items index part l lt ∙ ap column_in here in
        let fits = subst (IsLaid _ (get_or p.schema index f).kind) column (laid_at _ p.schema laid index f l layout.columns within) in
        let kind : (get_or s.schema index f).kind ≡ kind_in part = ap (λ fs. (get_or fs index f).kind) schemas ∙ kind_is _ (get_or p.schema index f).kind part fits in
        let contents : List Content = contents_under index s.rows in
        let are : AreContents (kind_in part) (length p.numbers.items) contents = subst (λ n. AreContents (kind_in part) n contents) rows_many (subst (λ k. AreContents k (length s.rows) contents) kind (contents_are s segment index f inside)) in (
          contents,
          are,
          ap (λ k. laid_out k contents) (sym kind) ∙ sym (column_placed s segment index f inside)
              ∙ sym (get_or-map (column_of s.rows) s.schema index f l inside) ∙ ap (λ m. get_or m.columns index l) same ∙ column,
        )

    pub columns_stand : IsLayout (layout_in p) → Any (HasNoColumn (length p.numbers.items)) p.columns.items → ⊥
    columns_stand layout (index, part, lt, here, none) =
        let there = column_stands layout index part lt here in
        none there.0 there.1 there.2

    -- and is fit
    pub fit : IsLayout (layout_in p) → IsFit p
    fit layout = record {
      rising = numbers_rise;
      labels = λ k d lt.
          let part : ColumnParts = get_or p.columns.items k d in
          let there = column_stands layout k part lt (get_or_default p.columns.items k part d lt) in
          few_told (length p.numbers.items) part there.0 there.1 there.2;
    }

  -- ---- what is read of them

  module _ (layout : IsLayout (layout_in p)) where
    pub few : length p.numbers.items ≤ 262144
    few = omega (arith, layout.few, heads_many)

    pub lengths_short : All (λ n. n ≤ 8192) p.lengths.items
    lengths_short k d lt =
        let inside : k < length p.numbers.items = omega (arith, is.lengths) in
        let head = layout.heads k no_head (omega (arith, heads_many)) in
        omega (arith, head.source.1, ap (λ h. h.length) (head_at p.numbers.items p.ids.items p.lengths.items k no_head is.ids is.lengths inside), get_or_default p.lengths.items k d 0 lt)

    -- each column can be laid out
    pub columns_laid : (rows : ℕ) → rows ≡ length p.numbers.items → All (λ q. IsLaid rows (kind_in q) (column_in q)) p.columns.items
    columns_laid rows as_many k d lt =
        let f : Field = record { name = []; kind = Kind.text } in
        let l : Laid = Laid.numbers [] in
        let laid : List Laid = map column_in p.columns.items in
        let many : length laid ≡ length p.schema = laid_many _ p.schema laid layout.columns in
        let within : k < length p.schema = omega (arith, many, length-map p.columns.items column_in) in
        let q : ColumnParts = get_or p.columns.items k d in
        let fits = subst (IsLaid _ (get_or p.schema k f).kind) (get_or-map column_in p.columns.items k d l lt) (laid_at _ p.schema laid k f l layout.columns within) in
        subst (λ n. IsLaid n (kind_in q) (column_in q)) (heads_many ∙ sym as_many) (subst (λ kind. IsLaid (length (heads_in p.numbers.items p.ids.items p.lengths.items)) kind (column_in q)) (kind_is _ (get_or p.schema k f).kind q fits) fits)

    module _ (ids : List Text) (lengths : List ℕ) (columns : List Column) (same_ids : ids ≡ p.ids.items) (same_lengths : lengths ≡ p.lengths.items) (rising : AllPairs (λ a b. a < b) p.numbers.items) (distinct : AllPairs (λ a b. a ≢ b) ids)
        (are : AreColumnsOf (length p.numbers.items) p.columns.items columns) where
      abbrev laid : List Laid
      laid = map column_in p.columns.items

      many : length laid ≡ length p.schema
      many = laid_many (length (heads_in p.numbers.items p.ids.items p.lengths.items)) p.schema laid layout.columns

      parts_many : length p.columns.items ≡ length p.schema
      parts_many = sym (length-map p.columns.items column_in) ∙ many

      -- the column of a place is that of the part of the place
      column_read : (index : ℕ) (q : ColumnParts) (f : Field) (c : Column) (l : Laid) → q ≡ get_or p.columns.items index q → index < length p.schema
          → AreContents (get_or p.schema index f).kind (length p.numbers.items) (contents_of (get_or columns index c)) × (laid_out (get_or p.schema index f).kind (contents_of (get_or columns index c)) ≡ get_or laid index l)
      column_read index q f c l here lt =
          let within : index < length p.columns.items = omega (arith, parts_many) in
          let one = column_at (length p.numbers.items) p.columns.items columns index q c are within in
          let column : get_or laid index l ≡ column_in (get_or p.columns.items index q) = get_or-map column_in p.columns.items index q l within in
          let fits = subst (IsLaid (length (heads_in p.numbers.items p.ids.items p.lengths.items)) (get_or p.schema index f).kind) column
          (laid_at (length (heads_in p.numbers.items p.ids.items p.lengths.items)) p.schema laid index f l layout.columns lt) in
          let kind : (get_or p.schema index f).kind ≡ kind_in (get_or p.columns.items index q) = kind_is (length (heads_in p.numbers.items p.ids.items p.lengths.items)) (get_or p.schema index f).kind (get_or p.columns.items index q) fits in (
            subst (λ k. AreContents k (length p.numbers.items) (contents_of (get_or columns index c))) (sym kind) one.contents,
            ap (λ k. laid_out k (contents_of (get_or columns index c))) kind ∙ one.spelled ∙ sym column,
          )

      -- some part stands there
      part_there : (qs : List ColumnParts) (index : ℕ) → index < length qs → (q : ColumnParts) × (q ≡ get_or qs index q)
      part_there [] index lt = absurd (omega arith)
      part_there (q ∷ qs) zero lt = (q, refl)
      part_there (q ∷ qs) (suc index) lt = part_there qs index (omega arith)

      pub parts_read : IsRead p.number p.schema p.numbers.items ids lengths columns (heads_in p.numbers.items p.ids.items p.lengths.items) laid
      parts_read = record {
        fits = layout;
        each_id = ap length same_ids ∙ is.ids;
        each_length = ap length same_lengths ∙ is.lengths;
        each_head = heads_many;
        head = λ k d lt. head_at p.numbers.items p.ids.items p.lengths.items k d is.ids is.lengths lt ∙ (λ i. record { number = get_or p.numbers.items k 0; id = get_or (sym same_ids i) k []; length = get_or (sym same_lengths i) k 0 });
        rising = rising;
        distinct = distinct;
        read = record {
          many = columns_many (length p.numbers.items) p.columns.items columns are ∙ parts_many;
          as_many = many;
          contents = λ index f c lt. let q = part_there p.columns.items index (omega (arith, parts_many)) in (column_read index q.0 f c (Laid.numbers []) q.1 lt).0;
          spelled = λ index f c l lt. let q = part_there p.columns.items index (omega (arith, parts_many)) in (column_read index q.0 f c l q.1 lt).1;
        };
      }

    -- where the parts are fit, the ids differ and each column stands, a segment is laid out so
    pub segment_made : IsFit p → AllPairs (λ a b. a ≢ b) p.ids.items → All (λ q. HasNoColumn (length p.numbers.items) q → ⊥) p.columns.items → HasNoSegment p → ⊥
    segment_made fits distinct each none =
        columns_made (length p.numbers.items) p.columns.items each
        (λ columns are.
        let read = parts_read p.ids.items p.lengths.items columns refl refl fits.rising distinct are in
        let heads = heads_in p.numbers.items p.ids.items p.lengths.items in
        let laid = map column_in p.columns.items in
        none (segment_with p.number p.schema p.numbers.items p.ids.items p.lengths.items columns heads laid)
        (IsSegment-read p.number p.schema p.numbers.items p.ids.items p.lengths.items columns heads laid read)
        (layout_read p.number p.schema p.numbers.items p.ids.items p.lengths.items columns heads laid read))

-- ---- what no damage leaves

-- ids that aren't told as damaged differ
pub ids_settled : (ids : List Text) (r : Result (List Text) Refusal) → IfOk r (λ i. (i ≡ ids) × AllPairs (λ a b. a ≢ b) i) → IfErr r (λ e. e ≡ Memory → AllPairs (λ a b. a ≢ b) ids)
    → IfErr r (λ e. (e ≡ Damaged) ⊎ (e ≡ Memory)) → r ≢ Err Damaged → AllPairs (λ a b. a ≢ b) ids
ids_settled ids (Ok i) ok due refusal apart = subst (AllPairs (λ a b. a ≢ b)) ok.0 ok.1
ids_settled ids (Err e) ok due (inl damage) apart = absurd (apart (ap (λ x. Err x) damage))
ids_settled ids (Err e) ok due (inr memory) apart = due memory

-- each of the columns that aren't told as damaged stands
pub columns_settled : (rows : ℕ) (ps : List ColumnParts) (r : Result (Vec Column) Refusal) → IfOk r (λ cs. AreColumnsOf rows ps cs.items) → IfErr r (λ e. e ≡ Memory → All (λ p. HasNoColumn rows p → ⊥) ps)
    → IfErr r (λ e. (e ≡ Damaged) ⊎ (e ≡ Memory)) → r ≢ Err Damaged → All (λ p. HasNoColumn rows p → ⊥) ps
columns_settled rows ps (Ok cs) ok due refusal apart = columns_told rows ps cs.items ok
columns_settled rows ps (Err e) ok due (inl damage) apart = absurd (apart (ap (λ x. Err x) damage))
columns_settled rows ps (Err e) ok due (inr memory) apart = due memory
