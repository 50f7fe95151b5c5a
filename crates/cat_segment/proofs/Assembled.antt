-- A segment of what was read of a file: it is laid out as the file.
use Rattle.std.proofs.Common.{◌≡◌, ◌≢◌, ◌<◌, ◌≤◌, ◌^◌, ℕ, zero, suc, List, [], ◌∷◌, length, map, get_or, Some, refl, sym, ap, ◌∙◌, subst, arith}
use Rattle.std.specs.Prelude.{All}
use Rattle.std.specs.List.{AllPairs}
use Rattle.std.proofs.lemmas.List.{length-map, get_or-map, same_lists}
use Rattle.std.proofs.lemmas.List.FromFn.{fill_by_all}
use Rattle.cat_model.specs.Text.{Text}
use Rattle.cat_model.specs.Item.{Content, Field, Kind, Schema, FieldContent, IsContent, AreFields}
use Rattle.cat_model.specs.Forms.{IsFormed}
use Rattle.cat_model.specs.Layout.{Laid, Layout, Head, column_of, head_of, layout_of, IsHead, IsLaid, AreLaid, IsLayout, words_of_field}
use Rattle.cat_model.specs.Ordinals.{dictionary_of}
use Rattle.cat_model.specs.View.{Row, Segment, AreRows, IsFormedRow, IsSegment}
use Rattle.cat_segment.proofs.Columns.{length-rows_of, map-rows_of}
use Rattle.cat_segment.proofs.Layouts.{column_placed, contents_are}
use Rattle.cat_segment.proofs.Made.{row_here}
use Rattle.cat_segment.proofs.Placed.{no_content, contents_named}
use Rattle.cat_segment.proofs.Worded.{words_few, words_fit, words_under}
use Rattle.cat_segment.specs.Contents.{contents_of, contents_told, contents_under_name}
use Rattle.cat_segment.specs.Laid.{content_under, contents_under, AreContents, laid_out, laid_in, column_kind, AreRead}
use Rattle.cat_segment.specs.Body.{column_content_at, row_fields_at, Body, row_at, rows_of, IsBody}
use Rattle.cat_segment.specs.declared.column.Column.{Column}
use Rattle.cat_segment.specs.declared.column.Column.TheVariants.{Text as TextColumn, Keyword, Number, Facet}

-- the column of each field is of the field's kind
pub laid_at : (rows : ℕ) (fs : Schema) (ls : List Laid) (index : ℕ) (f : Field) (l : Laid) → AreLaid rows fs ls → index < length fs → IsLaid rows (get_or fs index f).kind (get_or ls index l)
laid_at rows [] ls index f l are lt = absurd (omega arith)
laid_at rows (g ∷ fs) [] index f l are lt = absurd are
laid_at rows (g ∷ fs) (m ∷ ls) zero f l are lt = are.0
laid_at rows (g ∷ fs) (m ∷ ls) (suc index) f l are lt = laid_at rows fs ls index f l are.1 (omega arith)

-- the part of a place among those of a row
field_at : (fs : Schema) (cs : List Column) (row index : ℕ) (f : Field) (c : Column) (p : FieldContent) → length cs ≡ length fs → index < length fs
    → get_or (row_fields_at fs cs row) index p ≡ record { name = (get_or fs index f).name; content = column_content_at (get_or cs index c) row }
field_at [] cs row index f c p many lt = absurd (omega arith)
field_at (g ∷ fs) [] row index f c p many lt = absurd (omega arith)
field_at (g ∷ fs) (d ∷ cs) row zero f c p many lt = refl
field_at (g ∷ fs) (d ∷ cs) row (suc index) f c p many lt = field_at fs cs row index f c p (omega arith) (omega arith)

length-fields_at : (fs : Schema) (cs : List Column) (row : ℕ) → length cs ≡ length fs → length (row_fields_at fs cs row) ≡ length fs
length-fields_at [] cs row many = refl
length-fields_at (f ∷ fs) [] row many = absurd (omega arith)
length-fields_at (f ∷ fs) (c ∷ cs) row many = ap suc (length-fields_at fs cs row (omega arith))

fields_are : (fs : Schema) (cs : List Column) (row : ℕ) → length cs ≡ length fs
    → ((index : ℕ) (f : Field) (c : Column) → index < length fs → IsContent (get_or fs index f).kind (column_content_at (get_or cs index c) row)) → AreFields fs (row_fields_at fs cs row)
fields_are [] cs row many each = tt
fields_are (f ∷ fs) [] row many each = absurd (omega arith)
fields_are (f ∷ fs) (c ∷ cs) row many each = ((refl, each 0 f c (omega arith)), fields_are fs cs row (omega arith) (λ index g d lt. each (suc index) g d (omega arith)))

-- what rows have in a field is what its column says
pub contents_in_body : (body : Body) (index : ℕ) (c : Column) → length body.columns ≡ length body.schema → index < length body.schema → length (contents_of (get_or body.columns index c)) ≡ length body.numbers
    → contents_under index (rows_of body) ≡ contents_of (get_or body.columns index c)
contents_in_body body index c many lt long =
    let f : Field = record { name = []; kind = Kind.text } in
    map-rows_of (content_under index) body
    ∙ sym (fill_by_all (λ row. content_under index (row_at body row)) (contents_of (get_or body.columns index c)) (length body.numbers) (Content.words []) long
    (λ row within. sym (ap (λ p. p.content) (field_at body.schema body.columns row index f c no_content many lt))))

-- a column that has rows tells the kind of its field
kind_told : (c : Column) (kind : Kind) (d : Content) → 0 < length (contents_of c) → IsContent kind (get_or (contents_of c) 0 d) → kind ≡ column_kind c
kind_told (TextColumn []) kind d some is = absurd (omega arith)
kind_told (TextColumn (x ∷ xs)) kind d some (IsContent.words ws rising) = refl
kind_told (Keyword []) kind d some is = absurd (omega arith)
kind_told (Keyword (x ∷ xs)) kind d some (IsContent.keyword k) = refl
kind_told (Number []) kind d some is = absurd (omega arith)
kind_told (Number (x ∷ xs)) kind d some (IsContent.number z) = refl
kind_told (Facet []) kind d some is = absurd (omega arith)
kind_told (Facet (x ∷ xs)) kind d some (IsContent.labels ls rising) = refl

-- the column of a field is of the field's kind
pub kind_in_body : (body : Body) → IsBody body → (index : ℕ) (f : Field) (c : Column) → index < length body.schema → (get_or body.schema index f).kind ≡ column_kind (get_or body.columns index c)
kind_in_body body is index f c within =
    let long : length (contents_of (get_or body.columns index c)) ≡ length body.numbers = is.contents index c (omega (arith, is.columns, within)) in
    let s : Segment = record { number = 0; schema = body.schema; rows = rows_of body } in
    let segment : IsSegment s = record { schema = is.schema; rows = is.rows; formed = is.formed; words = is.words } in
    let contents : contents_under index (rows_of body) ≡ contents_of (get_or body.columns index c) = contents_in_body body index c is.columns within long in
    let some : 0 < length (contents_of (get_or body.columns index c)) = omega (arith, long, is.rows.some, length-rows_of body) in
    let are : AreContents (get_or body.schema index f).kind (length (rows_of body)) (contents_of (get_or body.columns index c)) = subst (AreContents (get_or body.schema index f).kind (length (rows_of body))) contents (contents_are s segment index f within) in
    kind_told (get_or body.columns index c) (get_or body.schema index f).kind (Content.words []) some (are.kinds 0 (Content.words []) some)

-- and says what the rows have in it
pub contents_at_field : (body : Body) → IsBody body → (index : ℕ) (f : Field) (c : Column) → index < length body.schema
    → contents_told (get_or body.columns index c) ≡ contents_under_name (get_or body.schema index f).name (rows_of body)
contents_at_field body is index f c within =
    ap (map (λ x. Some x)) (sym (contents_in_body body index c is.columns within (is.contents index c (omega (arith, is.columns, within)))))
    ∙ sym (contents_named body.schema (rows_of body) index f is.schema.rising is.rows.fields within)

-- the columns of a segment lie in its file as the columns of its fields
pub columns_in_body : (body : Body) → IsBody body → map laid_in body.columns ≡ map (column_of (rows_of body)) body.schema
columns_in_body body is =
    same_lists (map laid_in body.columns) (map (column_of (rows_of body)) body.schema) (length-map body.columns laid_in ∙ is.columns ∙ sym (length-map body.schema (column_of (rows_of body))))
    (λ k l lt.
    let f : Field = record { name = []; kind = Kind.text } in
    let here : k < length body.columns = omega (arith, length-map body.columns laid_in) in
    let within : k < length body.schema = omega (arith, is.columns) in
    let c : Column = get_or body.columns k (Number []) in
    let s : Segment = record { number = 0; schema = body.schema; rows = rows_of body } in
    let segment : IsSegment s = record { schema = is.schema; rows = is.rows; formed = is.formed; words = is.words } in
    let contents : contents_under k (rows_of body) ≡ contents_of c = contents_in_body body k (Number []) is.columns within (is.contents k (Number []) here) in
    get_or-map laid_in body.columns k (Number []) l here
    ∙ ap (λ j. laid_out j (contents_of c)) (sym (kind_in_body body is k f (Number []) within)) ∙ ap (laid_out (get_or body.schema k f).kind) (sym contents)
    ∙ sym (column_placed s segment k f within)
    ∙ sym (get_or-map (column_of (rows_of body)) body.schema k f l within))

module _ (number : ℕ) (schema : Schema) (numbers : List ℕ) (ids : List Text) (lengths : List ℕ) (columns : List Column) (heads : List Head) (laid : List Laid) where
  abbrev pub body : Body
  body = record { schema = schema; numbers = numbers; ids = ids; lengths = lengths; columns = columns }

  abbrev pub layout : Layout
  layout = record { number = number; schema = schema; heads = heads; columns = laid }

  abbrev pub segment : Segment
  segment = record { number = number; schema = schema; rows = rows_of body }

  -- what was read, and judged
  pub record IsRead : Type 0 where
    pub fits : IsLayout layout
    pub each_id : length ids ≡ length numbers
    pub each_length : length lengths ≡ length numbers
    pub each_head : length heads ≡ length numbers
    pub head : (k : ℕ) (d : Head) → k < length numbers → get_or heads k d ≡ record { number = get_or numbers k 0; id = get_or ids k []; length = get_or lengths k 0 }
    pub rising : AllPairs (λ a b. a < b) numbers
    pub distinct : AllPairs (λ a b. a ≢ b) ids
    pub read : AreRead (length numbers) schema laid columns

  module _ (is : IsRead) where
    no_field : Field
    no_field = record { name = []; kind = Kind.text }

    row_is : (k : ℕ) (d : Row) → k < length (rows_of body) → get_or (rows_of body) k d ≡ row_at body k
    row_is k d lt = row_here body k d (omega (arith, length-rows_of body))

    inside : (k : ℕ) → k < length (rows_of body) → k < length numbers
    inside k lt = omega (arith, length-rows_of body)

    content_is : (index row : ℕ) (f : Field) (c : Column) → index < length schema → row < length numbers → IsContent (get_or schema index f).kind (column_content_at (get_or columns index c) row)
    content_is index row f c lt within = let are = is.read.contents index f c lt in are.kinds row (Content.words []) (omega (arith, are.long))

    content_formed : (index row : ℕ) (f : Field) (c : Column) → index < length schema → row < length numbers → IsFormed (column_content_at (get_or columns index c) row)
    content_formed index row f c lt within = let are = is.read.contents index f c lt in are.formed row (Content.words []) (omega (arith, are.long))

    contents_read : (index : ℕ) (c : Column) → index < length schema → contents_under index (rows_of body) ≡ contents_of (get_or columns index c)
    contents_read index c lt = contents_in_body body index c is.read.many lt (is.read.contents index no_field c lt).long

    head_of_row : (k : ℕ) → k < length numbers → IsHead (record { number = get_or numbers k 0; id = get_or ids k []; length = get_or lengths k 0 })
    head_of_row k lt =
        let d : Head = record { number = 0; id = []; length = 0 } in
        subst IsHead (is.head k d lt) (is.fits.heads k d (omega (arith, is.each_head)))

    pub rows_are : AreRows schema (rows_of body)
    rows_are = record {
      some = omega (arith, is.fits.some, is.each_head, length-rows_of body);
      few = omega (arith, is.fits.few, is.each_head, length-rows_of body);
      fields = λ k d lt. subst (λ r. AreFields schema r.fields) (sym (row_is k d lt)) (fields_are schema columns k is.read.many (λ index f c within. content_is index k f c within (inside k lt)));
      positive = λ k d lt. subst (λ r. 1 ≤ r.number) (sym (row_is k d lt)) (head_of_row k (inside k lt)).positive;
      rising = λ i j d lt within. subst (λ r. r.number < (get_or (rows_of body) j d).number) (sym (row_is i d (omega arith))) (subst (λ r. get_or numbers i 0 < r.number) (sym (row_is j d within)) (is.rising i j 0 lt (inside j within)));
      distinct = λ i j d lt within same. is.distinct i j [] lt (omega (arith, inside j within, is.each_id)) (ap (λ r. r.id) (sym (row_is i d (omega arith))) ∙ same ∙ ap (λ r. r.id) (row_is j d within));
    }

    fields_formed : (row : ℕ) → row < length numbers → All (λ p. IsFormed p.content) (row_fields_at schema columns row)
    fields_formed row within k d lt =
        let index : k < length schema = omega (arith, length-fields_at schema columns row is.read.many) in
        let c : Column = Number [] in
        subst (λ p. IsFormed p.content) (sym (field_at schema columns row k no_field c d is.read.many index)) (content_formed k row no_field c index within)

    pub rows_formed : All IsFormedRow (rows_of body)
    rows_formed k d lt =
        let head = head_of_row k (inside k lt) in
        subst IsFormedRow (sym (row_is k d lt)) (record { number = head.fits; id = head.id; source = head.source; fields = fields_formed k (inside k lt) })

    pub read_words : (name : Text) → length (words_of_field (rows_of body) name) < 2 ^ 32
    read_words name = words_few schema (rows_of body) is.fits.schema.rising rows_are.fields each name
      where
        each : (index : ℕ) → index < length schema → length (dictionary_of (words_under (contents_under index (rows_of body)))) < 2 ^ 32
        each index lt =
            let c : Column = Number [] in
            let l : Laid = Laid.numbers [] in
            let are = is.read.contents index no_field c lt in
            let fits = subst (λ m. IsLaid (length heads) (get_or schema index no_field).kind m) (sym (is.read.spelled index no_field c l lt)) (laid_at (length heads) schema laid index no_field l is.fits.columns lt) in
            omega (arith, words_fit (get_or schema index no_field).kind (length heads) (contents_of (get_or columns index c)) are.kinds fits, ap (λ cs. length (dictionary_of (words_under cs))) (contents_read index c lt))

    pub IsSegment-read : IsSegment segment
    IsSegment-read = record { schema = is.fits.schema; rows = rows_are; formed = rows_formed; words = read_words }

    heads_read : map head_of (rows_of body) ≡ heads
    heads_read =
        same_lists (map head_of (rows_of body)) heads (length-map (rows_of body) head_of ∙ length-rows_of body ∙ sym is.each_head)
        (λ k d lt. let within : k < length (rows_of body) = omega (arith, length-map (rows_of body) head_of) in
        let r : Row = record { number = 0; id = []; fields = []; length = 0 } in
        get_or-map head_of (rows_of body) k r d within ∙ ap head_of (row_is k r within) ∙ sym (is.head k d (inside k within)))

    columns_read : map (column_of (rows_of body)) schema ≡ laid
    columns_read =
        same_lists (map (column_of (rows_of body)) schema) laid (length-map schema (column_of (rows_of body)) ∙ sym is.read.as_many)
        (λ k l lt. let within : k < length schema = omega (arith, length-map schema (column_of (rows_of body))) in
        let c : Column = Number [] in
        get_or-map (column_of (rows_of body)) schema k no_field l within ∙ column_placed segment IsSegment-read k no_field within
        ∙ ap (laid_out (get_or schema k no_field).kind) (contents_read k c within) ∙ is.read.spelled k no_field c l within)

    -- the segment is laid out as the file
    pub layout_read : layout_of segment ≡ layout
    layout_read = λ i. record { number = number; schema = schema; heads = heads_read i; columns = columns_read i }

    -- the parts fit together
    pub IsBody-read : IsBody body
    IsBody-read = record {
      ids = is.each_id;
      lengths = is.each_length;
      columns = is.read.many;
      contents = λ k d lt. (is.read.contents k no_field d (omega (arith, is.read.many))).long;
      schema = is.fits.schema;
      rows = rows_are;
      formed = rows_formed;
      words = read_words;
    }
