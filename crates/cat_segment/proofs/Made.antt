-- A segment that is made of rows holds these rows.
use Rattle.std.proofs.Common.{◌≡◌, ◌+◌, ◌<◌, ◌^◌, true, ℕ, suc, zero, get_or, List, [], ◌∷◌, ◌++◌, length, map, Option, Some, None, refl, sym, ap, ◌∙◌, subst, arith}
use Rattle.std.specs.Prelude.{option_map, slice_get, All}
use Rattle.std.specs.List.{range_with_len}
use Rattle.std.proofs.lemmas.List.{length-map, get_or-map, map-append}
use Rattle.std.proofs.lemmas.List.Elements.{All-map}
use Rattle.std.proofs.lemmas.Option.{slice_get-get_or}
use Rattle.std.proofs.lemmas.Simd.{map-map}
use Rattle.std.proofs.lemmas.List.FromFn.{length-map-range_with_len, get_or-map-range_with_len, fill_by_all, map-range_with_len_more}
use Rattle.cat_model.specs.Text.{Text}
use Rattle.cat_model.specs.Item.{Content, Schema, FieldContent, AreFields, IsSchema, is_id, words_in}
use Rattle.cat_model.specs.Forms.{IsSourceLength}
use Rattle.cat_model.specs.Ordinals.{dictionary_of}
use Rattle.cat_model.specs.View.{Row, row_of, AreRows, IsFormedRow}
use Rattle.cat_model.specs.Layout.{words_of_field}
use Rattle.cat_segment.proofs.Filled.{map_where, fields_formed}
use Rattle.cat_segment.proofs.Placed.{no_content, length-fields}
use Rattle.cat_segment.proofs.Worded.{words_few}
use Rattle.cat_segment.specs.Laid.{content_under, contents_under}
use Rattle.cat_segment.specs.Contents.{contents_of}
use Rattle.cat_segment.specs.Fields.{row_record, content_in, contents_of_rows, AreFitting}
use Rattle.cat_segment.specs.Body.{column_content_at, row_fields_at, Body, row_at, rows_of, IsBody}
use Rattle.cat_segment.specs.declared.column.Column.{Column}
use Rattle.cat_segment.specs.declared.segment.Row as given

-- the row of a place
pub row_here : (body : Body) (row : ℕ) (d : Row) → row < length body.numbers → get_or (rows_of body) row d ≡ row_at body row
row_here body row d lt = get_or-map-range_with_len (row_at body) 0 (length body.numbers) row row d lt (omega arith)

abbrev row_made : given.Row → Row
row_made r = row_of (row_record r)

abbrev pub seen : Column → List (Option Content)
seen c = map (λ x. Some x) (contents_of c)

-- one more column
pub columns_more : (rows : List given.Row) (old new : List Column) (c : Column) (index : ℕ) → new ≡ old ++ c ∷ [] → seen c ≡ contents_of_rows index rows
    → map seen old ≡ map (λ k. contents_of_rows k rows) (range_with_len 0 index) → map seen new ≡ map (λ k. contents_of_rows k rows) (range_with_len 0 (index + 1))
columns_more rows old new c index pushed is before =
    ap (map seen) pushed ∙ map-append seen old (c ∷ [])
    ∙ (λ i. before i ++ is i ∷ [])
    ∙ sym (map-range_with_len_more (λ k. contents_of_rows k rows) 0 index index (omega arith))

-- the parts of a row, field by field
fields_made : (fs : Schema) (cs : List Column) (ps : List FieldContent) (row : ℕ) → AreFields fs ps → length cs ≡ length fs
    → ((j : ℕ) (d : Column) → j < length fs → Some (column_content_at (get_or cs j d) row) ≡ option_map (λ p. p.content) (slice_get ps j)) → row_fields_at fs cs row ≡ ps
fields_made [] cs [] row parts e is = refl
fields_made [] cs (p ∷ ps) row parts e is = absurd parts
fields_made (f ∷ fs) cs [] row parts e is = absurd parts
fields_made (f ∷ fs) [] (p ∷ ps) row parts e is = absurd (omega arith)
fields_made (f ∷ fs) (c ∷ cs) (p ∷ ps) row parts e is =
    let first = is zero c (omega arith) in
    let here : column_content_at c row ≡ p.content = (cc) in
    let later = fields_made fs cs ps row parts.1 (omega arith) (λ j d lt. is (suc j) d (omega arith)) in
    λ i. record { name = sym parts.0.0 i; content = here i } ∷ later i

module _ (fs : Schema) (rows : List given.Row) (are : AreRows fs (map row_made rows)) where
  fields_at_row : (k : ℕ) (d : given.Row) → k < length rows → AreFields fs (get_or rows k d).item.now.fields
  fields_at_row k d lt = subst (λ r. AreFields fs r.fields) (get_or-map row_made rows k d (row_made d) lt) (are.fields k (row_made d) (omega (arith, length-map rows row_made)))

  -- what the items have, place by place
  contents_placed : (index : ℕ) → index < length fs → contents_of_rows index rows ≡ map (λ c. Some c) (contents_under index (map row_made rows))
  contents_placed index lt =
      map_where (λ r. AreFields fs r.item.now.fields) (λ r. content_in index r.item.now) (λ r. Some (content_under index (row_made r)))
      (λ r parts. ap (option_map (λ p. p.content)) (slice_get-get_or r.item.now.fields index no_content (omega (arith, length-fields fs r.item.now.fields parts)))) rows fields_at_row
      ∙ sym (map-map (λ c. Some c) (λ r. content_under index (row_made r)) rows)
      ∙ ap (map (λ c. Some c)) (sym (map-map (content_under index) row_made rows))

  module _ (schema : IsSchema fs) (numbers : All (λ r. r.number < 2 ^ 64) rows) (ids : All (λ r. is_id r.item.now.id ≡ true) rows) (sizes : All (λ r. IsSourceLength (length r.item.now.source)) rows)
      (fitting : (index : ℕ) → index < length fs → AreFitting index rows) where
    pub rows_formed : All IsFormedRow (map row_made rows)
    rows_formed = All-map IsFormedRow row_made rows
        (λ k d lt. record {
          number = numbers k d lt;
          id = ids k d lt;
          source = sizes k d lt;
          fields = fields_formed (get_or rows k d).item.now.fields (λ index inside. (fitting index (omega (arith, length-fields fs (get_or rows k d).item.now.fields (fields_at_row k d lt)))).formed k d lt);
        })

    pub rows_words : (name : Text) → length (words_of_field (map row_made rows) name) < 2 ^ 32
    rows_words name =
        words_few fs (map row_made rows) schema.rising are.fields
        (λ index lt. omega (arith, (fitting index lt).words, ap (λ l. length (dictionary_of (map words_in l))) (contents_placed index lt))) name

  -- each row has the parts that the schema asks for
  pub fields_right : (k : ℕ) (d : given.Row) → k < length rows → AreFields fs (get_or rows k d).item.now.fields
  fields_right k d lt = subst (λ r. AreFields fs r.fields) (get_or-map row_made rows k d (row_made d) lt) (are.fields k (row_made d) (omega (arith, length-map rows row_made)))

  module _ (schema : IsSchema fs) (formed : All IsFormedRow (map row_made rows)) (words : (name : Text) → length (words_of_field (map row_made rows) name) < 2 ^ 32) (cs : List Column) (right : map seen cs ≡ map (λ k. contents_of_rows k rows) (range_with_len 0 (length fs))) where
    abbrev made : Body
    made = record { schema = fs; numbers = map (λ r. r.number) rows; ids = map (λ r. r.item.now.id) rows; lengths = map (λ r. length r.item.now.source) rows; columns = cs }

    as_many : length cs ≡ length fs
    as_many = sym (length-map cs seen) ∙ ap length right ∙ length-map-range_with_len (λ k. contents_of_rows k rows) 0 (length fs)

    column_right : (j : ℕ) (d : Column) → j < length fs → seen (get_or cs j d) ≡ contents_of_rows j rows
    column_right j d lt =
        sym (get_or-map seen cs j d [] (omega (arith, as_many)))
        ∙ ap (λ l. get_or l j []) right
        ∙ get_or-map-range_with_len (λ k. contents_of_rows k rows) 0 (length fs) j j [] lt (omega arith)

    column_long : (j : ℕ) (d : Column) → j < length fs → length (contents_of (get_or cs j d)) ≡ length rows
    column_long j d lt =
        sym (length-map (contents_of (get_or cs j d)) (λ x. Some x)) ∙ ap length (column_right j d lt) ∙ length-map rows (λ r. content_in j r.item.now)

    content_right : (j : ℕ) (d : Column) (k : ℕ) (r : given.Row) → j < length fs → k < length rows → Some (column_content_at (get_or cs j d) k) ≡ content_in j (get_or rows k r).item.now
    content_right j d k r lt in_rows =
        sym (get_or-map (λ x. Some x) (contents_of (get_or cs j d)) k (Content.words []) None (omega (arith, column_long j d lt)))
        ∙ ap (λ l. get_or l k None) (column_right j d lt)
        ∙ get_or-map (λ r. content_in j r.item.now) rows k r None in_rows

    row_right : (k : ℕ) (r : given.Row) → k < length rows → row_at made k ≡ row_made (get_or rows k r)
    row_right k r lt =
        let number = get_or-map (λ r. r.number) rows k r 0 lt in
        let id = get_or-map (λ r. r.item.now.id) rows k r [] lt in
        let parts = fields_made fs cs (get_or rows k r).item.now.fields k (fields_right k r lt) as_many (λ j d within. content_right j d k r within lt) in
        let length = get_or-map (λ r. length r.item.now.source) rows k r 0 lt in
        λ i. record { number = number i; id = id i; fields = parts i; length = length i }

    rows_right : rows_of made ≡ map row_made rows
    rows_right = sym (by rows refl)
      where
        by : (rs : List given.Row) → rs ≡ rows → map row_made rows ≡ rows_of made
        by [] e = absurd (omega (arith, are.some, length-map rows row_made, ap length e))
        by (r ∷ rs) e =
            fill_by_all (row_at made) (map row_made rows) (length made.numbers) (row_made r) (length-map rows row_made ∙ sym (length-map rows (λ r. r.number)))
            (λ k lt. let within : k < length rows = omega (arith, length-map rows (λ r. r.number)) in get_or-map row_made rows k r (row_made r) within ∙ sym (row_right k r within))

    held_right : IsBody made
    held_right = record {
      ids = length-map rows (λ r. r.item.now.id) ∙ sym (length-map rows (λ r. r.number));
      lengths = length-map rows (λ r. length r.item.now.source) ∙ sym (length-map rows (λ r. r.number));
      columns = as_many;
      contents = λ k d lt. column_long k d (omega (arith, as_many)) ∙ sym (length-map rows (λ r. r.number));
      schema = schema;
      rows = subst (AreRows fs) (sym rows_right) are;
      formed = subst (All IsFormedRow) (sym rows_right) formed;
      words = subst (λ l. (name : Text) → length (words_of_field l name) < 2 ^ 32) (sym rows_right) words;
    }

-- what was copied of the rows, list by list
pub record IsMade (fs : Schema) (rows : List given.Row) (body : Body) : Type 0 where
  pub schema : body.schema ≡ fs
  pub numbers : body.numbers ≡ map (λ r. r.number) rows
  pub ids : body.ids ≡ map (λ r. r.item.now.id) rows
  pub lengths : body.lengths ≡ map (λ r. length r.item.now.source) rows
  pub columns : map seen body.columns ≡ map (λ k. contents_of_rows k rows) (range_with_len 0 (length fs))

module _ (fs : Schema) (rows : List given.Row) (are : AreRows fs (map row_made rows)) (schema : IsSchema fs) (formed : All IsFormedRow (map row_made rows)) (words : (name : Text) → length (words_of_field (map row_made rows) name) < 2 ^ 32)
    (body : Body) (is : IsMade fs rows body) where
  all_made : body ≡ made fs rows are schema formed words body.columns is.columns
  all_made = λ i. record { schema = is.schema i; numbers = is.numbers i; ids = is.ids i; lengths = is.lengths i; columns = body.columns }

  pub rows_in_body : rows_of body ≡ map (λ r. row_of (row_record r)) rows
  rows_in_body = ap rows_of all_made ∙ rows_right fs rows are schema formed words body.columns is.columns

  pub IsBody-made : IsBody body
  IsBody-made = subst IsBody (sym all_made) (held_right fs rows are schema formed words body.columns is.columns)
