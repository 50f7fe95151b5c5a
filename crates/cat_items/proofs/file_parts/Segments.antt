-- What is read of a whole segment's file is what is spelled there.
use Rattle.std.proofs.Common.{◌≡◌, ℕ, ◌^◌, ◌<◌, ◌≤◌, true, ◌&&◌, cond, eqb, ltb, leb, List, [], ◌∷◌, ◌++◌, length, Option, Some, None, refl, sym, ap, subst, ◌∙◌, append_assoc, arith}
use Rattle.std.specs.Prelude.{codes}
use Rattle.std.specs.List.{flat_map, All}
use Rattle.std.proofs.lemmas.Bool.{ltb-true, lt-ltb, leb-true, le-leb, eqb-true}
use Rattle.std.proofs.lemmas.List.{append-nil, nil_from_length}
use Rattle.std.proofs.lemmas.List.Concat.{flat_map-cons}
use Rattle.cat_base.specs.Bytes.{spelled_u32, spelled_u64, spelled_bytes}
use Rattle.cat_base.specs.declared.refusal.Refusal.{Refusal}
use Rattle.cat_base.specs.declared.refusal.Refusal.TheVariants.{Damaged}
use Rattle.cat_model.specs.Text.{Text}
use Rattle.cat_model.specs.Item.{Kind, Schema}
use Rattle.cat_model.specs.Forms.{IsKeyword, IsLabel}
use Rattle.cat_model.specs.Files.{IsFileNumber}
use Rattle.cat_model.specs.Layout.{WordPostings, Laid, Head, Layout, spelled_fields, spelled_head, spelled_list, spelled_texts, spelled_postings, spelled_number, spelled_column, spelled_layout, IsHead, FitU32, IsWordPostings, IsLaid, AreLaid, IsLayout}
use Rattle.cat_items.specs.file_parts.Reading.{Reader, Fails, ◌>>=◌, byte_at, u32_at, u64_at, where_at, both_at, many_at, counted_at, tested_text_at}
use Rattle.cat_items.specs.file_parts.Layouts.{is_keyword, is_label, is_number_of_file, is_row_count, fields_at, head_at, list_at, posted_at, cell_at, column_at, columns_at, magic, segment_start_at, layout_at}
use Rattle.cat_items.proofs.file_parts.Numbers.{Reads, bind_some, bind_at, kept, both_true, some_is, at_some, then, reads_byte, reads_u32, reads_u64}
use Rattle.cat_items.proofs.file_parts.Readers.{reads_where, reads_as, both_sound, both_complete, reads_many, reads_counted}
use Rattle.cat_items.proofs.file_parts.Forms.{both_hold}
use Rattle.cat_items.proofs.file_parts.Layouts.{reads_fields, reads_head, reads_list, reads_keyword, reads_label, reads_posted, IsCell, reads_cell}

-- ---- columns

abbrev spelled_words : List WordPostings → List ℕ
spelled_words ps = spelled_u32 (length ps) ++ flat_map spelled_postings ps

abbrev AreTexts : (Text → Type 0) → List Text → Type 0
AreTexts P texts = (length texts < 2 ^ 32) × All P texts

reads_words : Reads (counted_at posted_at) spelled_words (λ ps. (length ps < 2 ^ 32) × All IsWordPostings ps)
reads_words = reads_counted posted_at spelled_postings IsWordPostings reads_posted

reads_keywords : Reads (counted_at (tested_text_at is_keyword)) spelled_texts (AreTexts IsKeyword)
reads_keywords = reads_counted (tested_text_at is_keyword) spelled_bytes IsKeyword reads_keyword

reads_labels : Reads (counted_at (tested_text_at is_label)) spelled_texts (AreTexts IsLabel)
reads_labels = reads_counted (tested_text_at is_label) spelled_bytes IsLabel reads_label

abbrev AreCodes : ℕ → List ℕ → Type 0
AreCodes rows codes = (length codes ≡ rows) × All (λ n. n < 2 ^ 32) codes

abbrev AreOrdinals : ℕ → List (List ℕ) → Type 0
AreOrdinals rows ordinals = (length ordinals ≡ rows) × All FitU32 ordinals

reads_codes : (rows : ℕ) → Reads (many_at u32_at rows) (flat_map spelled_u32) (AreCodes rows)
reads_codes rows = reads_many u32_at spelled_u32 (λ n. n < 2 ^ 32) reads_u32 rows

reads_ordinals : (rows : ℕ) → Reads (many_at list_at rows) (flat_map spelled_list) (AreOrdinals rows)
reads_ordinals rows = reads_many list_at spelled_list FitU32 reads_list rows

reads_cells : (rows : ℕ) → Reads (many_at cell_at rows) (flat_map spelled_number) (λ zs. (length zs ≡ rows) × All IsCell zs)
reads_cells rows = reads_many cell_at spelled_number IsCell reads_cell rows

column_sound : (kind : Kind) (rows : ℕ) → rows < 2 ^ 32 → (bytes : List ℕ) (x : Laid × List ℕ) → column_at kind rows bytes ≡ Some x → (bytes ≡ spelled_column x.0 ++ x.1) × IsLaid rows kind x.0
unfolding column_at
column_sound Kind.text rows few bytes x e =
    let a = bind_some (counted_at posted_at bytes) (λ words. Some (Laid.words words.0, words.1)) x e in
    let t = reads_words.sound bytes a.0 a.1 in
    at_some (λ (y : Laid × List ℕ). (bytes ≡ spelled_column y.0 ++ y.1) × IsLaid rows Kind.text y.0) (Laid.words a.0.0, a.0.1) x a.2 t
column_sound Kind.keyword rows few bytes x e =
    let b = both_sound (counted_at (tested_text_at is_keyword)) (λ dictionary. many_at u32_at rows) Laid.keywords spelled_texts (flat_map spelled_u32) (AreTexts IsKeyword) (λ dictionary. AreCodes rows) reads_keywords (λ dictionary. reads_codes rows) bytes x e in
    subst (λ (c : Laid). (bytes ≡ spelled_column c ++ x.1) × IsLaid rows Kind.keyword c) b.made
    (b.spelled, (b.holds.0, b.holds.1, b.both.0, (subst (λ (n : ℕ). n < 2 ^ 32) (sym b.both.0) few, b.both.1)))
column_sound Kind.number rows few bytes x e =
    let a = bind_some (many_at cell_at rows bytes) (λ cells. Some (Laid.numbers cells.0, cells.1)) x e in
    let t = (reads_cells rows).sound bytes a.0 a.1 in
    at_some (λ (y : Laid × List ℕ). (bytes ≡ spelled_column y.0 ++ y.1) × IsLaid rows Kind.number y.0) (Laid.numbers a.0.0, a.0.1) x a.2 t
column_sound Kind.facet rows few bytes x e =
    let b = both_sound (counted_at (tested_text_at is_label)) (λ dictionary. many_at list_at rows) Laid.labels spelled_texts (flat_map spelled_list) (AreTexts IsLabel) (λ dictionary. AreOrdinals rows) reads_labels (λ dictionary. reads_ordinals rows) bytes x e in
    subst (λ (c : Laid). (bytes ≡ spelled_column c ++ x.1) × IsLaid rows Kind.facet c) b.made
    (b.spelled, (b.holds.0, b.holds.1, b.both.0, b.both.1))

column_complete : (kind : Kind) (rows : ℕ) (c : Laid) (rest : List ℕ) → IsLaid rows kind c → column_at kind rows (spelled_column c ++ rest) ≡ Some (c, rest)
unfolding column_at
column_complete Kind.text rows (Laid.words ps) rest h = bind_at (counted_at posted_at (spelled_words ps ++ rest)) (λ words. Some (Laid.words words.0, words.1)) (ps, rest) (reads_words.complete ps rest h)
column_complete Kind.text rows (Laid.keywords dictionary codes) rest h = absurd h
column_complete Kind.text rows (Laid.numbers zs) rest h = absurd h
column_complete Kind.text rows (Laid.labels dictionary ordinals) rest h = absurd h
column_complete Kind.keyword rows (Laid.keywords dictionary codes) rest h =
    both_complete (counted_at (tested_text_at is_keyword)) (λ dictionary. many_at u32_at rows) Laid.keywords spelled_texts (flat_map spelled_u32) (AreTexts IsKeyword) (λ dictionary. AreCodes rows) reads_keywords (λ dictionary. reads_codes rows) dictionary codes rest (h.0, h.1) (h.2, h.3.1)
column_complete Kind.keyword rows (Laid.words ps) rest h = absurd h
column_complete Kind.keyword rows (Laid.numbers zs) rest h = absurd h
column_complete Kind.keyword rows (Laid.labels dictionary ordinals) rest h = absurd h
column_complete Kind.number rows (Laid.numbers zs) rest h = bind_at (many_at cell_at rows (flat_map spelled_number zs ++ rest)) (λ cells. Some (Laid.numbers cells.0, cells.1)) (zs, rest) ((reads_cells rows).complete zs rest h)
column_complete Kind.number rows (Laid.words ps) rest h = absurd h
column_complete Kind.number rows (Laid.keywords dictionary codes) rest h = absurd h
column_complete Kind.number rows (Laid.labels dictionary ordinals) rest h = absurd h
column_complete Kind.facet rows (Laid.labels dictionary ordinals) rest h =
    both_complete (counted_at (tested_text_at is_label)) (λ dictionary. many_at list_at rows) Laid.labels spelled_texts (flat_map spelled_list) (AreTexts IsLabel) (λ dictionary. AreOrdinals rows) reads_labels (λ dictionary. reads_ordinals rows) dictionary ordinals rest (h.0, h.1) (h.2, h.3)
column_complete Kind.facet rows (Laid.words ps) rest h = absurd h
column_complete Kind.facet rows (Laid.keywords dictionary codes) rest h = absurd h
column_complete Kind.facet rows (Laid.numbers zs) rest h = absurd h

columns_sound : (fs : Schema) (rows : ℕ) → rows < 2 ^ 32 → (bytes : List ℕ) (x : List Laid × List ℕ) → columns_at rows fs bytes ≡ Some x → (bytes ≡ flat_map spelled_column x.0 ++ x.1) × AreLaid rows fs x.0
unfolding columns_at
columns_sound [] rows few bytes x e =
    at_some (λ (y : List Laid × List ℕ). (bytes ≡ flat_map spelled_column y.0 ++ y.1) × AreLaid rows [] y.0) ([], bytes) x e (refl, tt)
columns_sound (f ∷ fs) rows few bytes x e =
    let a = bind_some (column_at f.kind rows bytes) (λ first. columns_at rows fs first.1 >>= λ others. Some (first.0 ∷ others.0, others.1)) x e in
    let b = bind_some (columns_at rows fs a.0.1) (λ others. Some (a.0.0 ∷ others.0, others.1)) x a.2 in
    let first = column_sound f.kind rows few bytes a.0 a.1 in
    let second = columns_sound fs rows few a.0.1 b.0 b.1 in
    let both : bytes ≡ flat_map spelled_column (a.0.0 ∷ b.0.0) ++ b.0.1 = rw flat_map-cons (then bytes (spelled_column a.0.0) a.0.1 (flat_map spelled_column b.0.0) b.0.1 first.0 second.0) in
    at_some (λ (y : List Laid × List ℕ). (bytes ≡ flat_map spelled_column y.0 ++ y.1) × AreLaid rows (f ∷ fs) y.0) (a.0.0 ∷ b.0.0, b.0.1) x b.2 (both, (first.1, second.1))

columns_complete : (fs : Schema) (rows : ℕ) (cs : List Laid) (rest : List ℕ) → AreLaid rows fs cs → columns_at rows fs (flat_map spelled_column cs ++ rest) ≡ Some (cs, rest)
unfolding columns_at
columns_complete [] rows [] rest h = refl
columns_complete [] rows (c ∷ cs) rest h = absurd h
columns_complete (f ∷ fs) rows [] rest h = absurd h
columns_complete (f ∷ fs) rows (c ∷ cs) rest h =
    let regrouped : flat_map spelled_column (c ∷ cs) ++ rest ≡ spelled_column c ++ (flat_map spelled_column cs ++ rest) = ap (λ (y : List ℕ). y ++ rest) (flat_map-cons spelled_column c cs) ∙ append_assoc (spelled_column c) (flat_map spelled_column cs) rest in
    ap (columns_at rows (f ∷ fs)) regrouped ∙ rw (column_complete f.kind rows c (flat_map spelled_column cs ++ rest) h.0, columns_complete fs rows cs rest h.1) refl

-- ---- the start

abbrev spelled_start : ℕ × ℕ → List ℕ
spelled_start s = spelled_u32 magic ++ (1 ∷ (spelled_u64 s.0 ++ spelled_u32 s.1))

abbrev IsStart : ℕ × ℕ → Type 0
IsStart s = IsFileNumber s.0 × ((1 ≤ s.1) × (s.1 ≤ 262144))

reads_file_number : Reads (where_at is_number_of_file u64_at) spelled_u64 IsFileNumber
reads_file_number = reads_as (where_at is_number_of_file u64_at) spelled_u64 (λ n. (n < 2 ^ 64) × (is_number_of_file n ≡ true)) IsFileNumber
    (λ n h. let k = both_true (ltb 0 n) (ltb n (2 ^ 63)) h.1 in (ltb-true _ _ k.0, ltb-true _ _ k.1))
    (λ n h. (let low : n < 2 ^ 63 = h.1 in omega arith, both_hold (ltb 0 n) (ltb n (2 ^ 63)) (lt-ltb _ _ h.0) (lt-ltb _ _ h.1)))
    (reads_where is_number_of_file u64_at spelled_u64 (λ n. n < 2 ^ 64) reads_u64)

abbrev IsRowCount : ℕ → Type 0
IsRowCount n = (1 ≤ n) × (n ≤ 262144)

reads_row_count : Reads (where_at is_row_count u32_at) spelled_u32 IsRowCount
reads_row_count = reads_as (where_at is_row_count u32_at) spelled_u32 (λ n. (n < 2 ^ 32) × (is_row_count n ≡ true)) IsRowCount
    (λ n h. let k = both_true (leb 1 n) (leb n 262144) h.1 in (leb-true _ _ k.0, leb-true _ _ k.1))
    (λ n h. (let few : n ≤ 262144 = h.1 in omega arith, both_hold (leb 1 n) (leb n 262144) (le-leb _ _ h.0) (le-leb _ _ h.1)))
    (reads_where is_row_count u32_at spelled_u32 (λ n. n < 2 ^ 32) reads_u32)

abbrev two_numbers : Reader (ℕ × ℕ)
two_numbers = both_at (where_at is_number_of_file u64_at) (λ number. where_at is_row_count u32_at) (λ number rows. (number, rows))

start_sound : (bytes : List ℕ) (x : (ℕ × ℕ) × List ℕ) → segment_start_at bytes ≡ Some x → (bytes ≡ spelled_start x.0 ++ x.1) × IsStart x.0
unfolding segment_start_at
start_sound bytes x e =
    let a = bind_some (u32_at bytes) (λ word. byte_at word.1 >>= λ version. cond (eqb word.0 magic && eqb version.0 1) (two_numbers version.1) None) x e in
    let b = bind_some (byte_at a.0.1) (λ version. cond (eqb a.0.0 magic && eqb version.0 1) (two_numbers version.1) None) x a.2 in
    let g = kept (eqb a.0.0 magic && eqb b.0.0 1) (two_numbers b.0.1) x b.2 in
    let h = both_true (eqb a.0.0 magic) (eqb b.0.0 1) g.0 in
    let t0 = reads_u32.sound bytes a.0 a.1 in
    let t1 = reads_byte.sound a.0.1 b.0 b.1 in
    let t2 = both_sound (where_at is_number_of_file u64_at) (λ number. where_at is_row_count u32_at) (λ number rows. (number, rows)) spelled_u64 spelled_u32 IsFileNumber (λ number. IsRowCount) reads_file_number (λ number. reads_row_count) b.0.1 x g.1 in
    let inner : a.0.1 ≡ 1 ∷ ((spelled_u64 t2.first ++ spelled_u32 t2.second) ++ x.1) = t1.0 ∙ ap (λ (c : ℕ). c ∷ b.0.1) (eqb-true _ _ h.1) ∙ ap (λ (w : List ℕ). 1 ∷ w) t2.spelled in
    let whole : bytes ≡ spelled_u32 magic ++ (1 ∷ ((spelled_u64 t2.first ++ spelled_u32 t2.second) ++ x.1)) = t0.0 ∙ ap (λ (k : ℕ). spelled_u32 k ++ a.0.1) (eqb-true _ _ h.0) ∙ ap (λ (w : List ℕ). spelled_u32 magic ++ w) inner in
    subst (λ (s : ℕ × ℕ). (bytes ≡ spelled_start s ++ x.1) × IsStart s) t2.made (whole, (t2.holds, t2.both))

start_complete : (s : ℕ × ℕ) (rest : List ℕ) → IsStart s → segment_start_at (spelled_start s ++ rest) ≡ Some (s, rest)
unfolding segment_start_at byte_at
start_complete s rest h =
    let after : List ℕ = (spelled_u64 s.0 ++ spelled_u32 s.1) ++ rest in
    let read : two_numbers after ≡ Some (s, rest) = both_complete (where_at is_number_of_file u64_at) (λ number. where_at is_row_count u32_at) (λ number rows. (number, rows)) spelled_u64 spelled_u32 IsFileNumber (λ number. IsRowCount) reads_file_number (λ number. reads_row_count) s.0 s.1 rest h.0 h.1 in
    bind_at (u32_at (spelled_u32 magic ++ (1 ∷ after))) (λ word. byte_at word.1 >>= λ version. cond (eqb word.0 magic && eqb version.0 1) (two_numbers version.1) None) (magic, 1 ∷ after) (reads_u32.complete magic (1 ∷ after) (omega arith)) ∙ read

reads_start : Reads segment_start_at spelled_start IsStart
reads_start = record { sound = start_sound; complete = start_complete }

-- ---- the whole

abbrev laid_out : (number : ℕ) (schema : Schema) (heads : List Head) (columns : List Laid) → Layout
laid_out number schema heads columns = record { number = number; schema = schema; heads = heads; columns = columns }

abbrev ended : (number : ℕ) (schema : Schema) (heads : List Head) → List Laid × List ℕ → Option Layout
ended number schema heads columns = cond (eqb (length columns.1) 0) (Some (laid_out number schema heads columns.0)) None

pub layout_sound : (bytes : List ℕ) (l : Layout) → layout_at bytes ≡ Some l → IsLayout l × (bytes ≡ spelled_layout l)
unfolding layout_at
layout_sound bytes l e =
    let a = bind_some (segment_start_at bytes) (λ start. fields_at start.1 >>= λ fields. many_at head_at start.0.1 fields.1 >>= λ heads. columns_at start.0.1 fields.0 heads.1 >>= λ columns. ended start.0.0 fields.0 heads.0 columns) l e in
    let b = bind_some (fields_at a.0.1) (λ fields. many_at head_at a.0.0.1 fields.1 >>= λ heads. columns_at a.0.0.1 fields.0 heads.1 >>= λ columns. ended a.0.0.0 fields.0 heads.0 columns) l a.2 in
    let c = bind_some (many_at head_at a.0.0.1 b.0.1) (λ heads. columns_at a.0.0.1 b.0.0 heads.1 >>= λ columns. ended a.0.0.0 b.0.0 heads.0 columns) l b.2 in
    let d = bind_some (columns_at a.0.0.1 b.0.0 c.0.1) (λ columns. ended a.0.0.0 b.0.0 c.0.0 columns) l c.2 in
    let made : Layout = laid_out a.0.0.0 b.0.0 c.0.0 d.0.0 in
    let g = kept (eqb (length d.0.1) 0) (Some made) l d.2 in
    let nothing : d.0.1 ≡ [] = nil_from_length d.0.1 (eqb-true _ _ g.0) in
    let ta = reads_start.sound bytes a.0 a.1 in
    let tb = reads_fields.sound a.0.1 b.0 b.1 in
    let tc = (reads_many head_at spelled_head IsHead reads_head a.0.0.1).sound b.0.1 c.0 c.1 in
    let most : a.0.0.1 ≤ 262144 = ta.1.1.1 in
    let few : a.0.0.1 < 2 ^ 32 = omega arith in
    let td = columns_sound b.0.0 a.0.0.1 few c.0.1 d.0 d.1 in
    let last : c.0.1 ≡ flat_map spelled_column d.0.0 = td.0 ∙ ap (λ (t : List ℕ). flat_map spelled_column d.0.0 ++ t) nothing ∙ append-nil (flat_map spelled_column d.0.0) in
    let bytes-are : bytes ≡ spelled_start a.0.0 ++ (spelled_fields b.0.0 ++ (flat_map spelled_head c.0.0 ++ flat_map spelled_column d.0.0)) =
    ta.0 ∙ ap (λ (t : List ℕ). spelled_start a.0.0 ++ t) (tb.0 ∙ ap (λ (t : List ℕ). spelled_fields b.0.0 ++ t) (tc.0 ∙ ap (λ (t : List ℕ). flat_map spelled_head c.0.0 ++ t) last)) in
    let counted : bytes ≡ spelled_start (a.0.0.0, length c.0.0) ++ (spelled_fields b.0.0 ++ (flat_map spelled_head c.0.0 ++ flat_map spelled_column d.0.0)) =
    subst (λ (m : ℕ). bytes ≡ spelled_start (a.0.0.0, m) ++ (spelled_fields b.0.0 ++ (flat_map spelled_head c.0.0 ++ flat_map spelled_column d.0.0))) (sym tc.1.0) bytes-are in
    at_some (λ (v : Layout). IsLayout v × (bytes ≡ spelled_layout v)) made l g.1 (
      record {
        number = ta.1.0;
        schema = tb.1;
        some = subst (λ (m : ℕ). 1 ≤ m) (sym tc.1.0) ta.1.1.0;
        few = subst (λ (m : ℕ). m ≤ 262144) (sym tc.1.0) most;
        heads = tc.1.1;
        columns = subst (λ (m : ℕ). AreLaid m b.0.0 d.0.0) (sym tc.1.0) td.1;
      },
      counted,
    )

pub layout_complete : (l : Layout) → IsLayout l → layout_at (spelled_layout l) ≡ Some l
unfolding layout_at
layout_complete l is =
    let rows : ℕ = length l.heads in
    let last : List ℕ = flat_map spelled_column l.columns in
    let third : List ℕ = flat_map spelled_head l.heads ++ last in
    let second : List ℕ = spelled_fields l.schema ++ third in
    let ea : segment_start_at (spelled_layout l) ≡ Some ((l.number, rows), second) = reads_start.complete (l.number, rows) second (is.number, (is.some, is.few)) in
    let eb : fields_at second ≡ Some (l.schema, third) = reads_fields.complete l.schema third is.schema in
    let ec : many_at head_at rows third ≡ Some (l.heads, last) = (reads_many head_at spelled_head IsHead reads_head rows).complete l.heads last (refl, is.heads) in
    let ed : columns_at rows l.schema last ≡ Some (l.columns, []) = ap (columns_at rows l.schema) (sym (append-nil last)) ∙ columns_complete l.schema rows l.columns [] is.columns in
    bind_at (segment_start_at (spelled_layout l)) (λ start. fields_at start.1 >>= λ fields. many_at head_at start.0.1 fields.1 >>= λ heads. columns_at start.0.1 fields.0 heads.1 >>= λ columns. ended start.0.0 fields.0 heads.0 columns) ((l.number, rows), second) ea
    ∙ bind_at (fields_at second) (λ fields. many_at head_at rows fields.1 >>= λ heads. columns_at rows fields.0 heads.1 >>= λ columns. ended l.number fields.0 heads.0 columns) (l.schema, third) eb
    ∙ bind_at (many_at head_at rows third) (λ heads. columns_at rows l.schema heads.1 >>= λ columns. ended l.number l.schema heads.0 columns) (l.heads, last) ec
    ∙ bind_at (columns_at rows l.schema last) (λ columns. ended l.number l.schema l.heads columns) (l.columns, []) ed

pub told_by_bytes : (a b : Layout) → IsLayout a → IsLayout b → spelled_layout a ≡ spelled_layout b → a ≡ b
told_by_bytes a b p q same = some_is a b (sym (layout_complete a p) ∙ ap layout_at same ∙ layout_complete b q)

-- where nothing is read, no layout is spelled
pub never_laid : (bytes : List ℕ) (e : Refusal) → Fails e (layout_at bytes) → e ≡ Damaged → (l : Layout) → IsLayout l → bytes ≡ spelled_layout l → ⊥
never_laid bytes e f is l h same =
    let none : layout_at bytes ≡ None = subst (λ d. Fails d (layout_at bytes)) is f in
    let some : layout_at bytes ≡ Some l = ap layout_at same ∙ layout_complete l h in
    absurd (cc (none, some))
