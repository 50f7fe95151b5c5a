-- The bytes after what is read, without the value.
use Rattle.std.proofs.Common.{◌≡◌, ℕ, zero, suc, ◌-◌, ◌+◌, ◌<◌, ◌≤◌, List, [], ◌∷◌, length, true, cond, eqb, Option, Some, None, Result, Ok, Err, refl, sym, ap, ◌∙◌, arith}
use Rattle.std.proofs.lemmas.Bool.{eqb-true}
use Rattle.std.proofs.lemmas.List.{nil_from_length}
use Rattle.cat_model.specs.Item.{Field, Kind, Schema}
use Rattle.cat_model.specs.Layout.{Laid, Layout, Head}
use Rattle.cat_model.specs.Limits.{field_limit}
use Rattle.cat_items.specs.declared.file_parts.cursor.Unreadable.{Unreadable}
use Rattle.cat_items.specs.file_parts.Reading.{Reader, ◌>>=◌, u32_at, both_at, many_at, counted_at, tested_text_at, rest_of, Passes}
use Rattle.cat_items.specs.file_parts.Layouts.{is_word, is_keyword, is_label, field_at, list_at, posted_at, cell_at, head_at, column_at, columns_at, segment_start_at, fields_at, layout_at}
use Rattle.cat_items.proofs.file_parts.Numbers.{bind_some, some_is, not_kept}
use Rattle.cat_items.proofs.file_parts.Forms.{fields_not_schema, fields_not_each}

one_rest : (a b : List ℕ) → ◌≡◌ {A = Option (List ℕ)} (Some a) (Some b) → a ≡ b
one_rest a b e = cc

rest_mapped : {A B : Type 0} (r : Option (A × List ℕ)) (f : A → B) → rest_of (r >>= λ x. Some (f x.0, x.1)) ≡ rest_of r
rest_mapped (Some x) f = refl
rest_mapped None f = refl

rest_then : {A B C : Type 0} (r : Option (A × List ℕ)) (k : A × List ℕ → Option (B × List ℕ)) (two : Reader C) (mid : List ℕ) → ((x : A × List ℕ) → rest_of (k x) ≡ rest_of (two x.1)) → rest_of r ≡ Some mid → rest_of (r >>= k) ≡ rest_of (two mid)
rest_then (Some x) k two mid same e = same x ∙ ap (λ m. rest_of (two m)) (one_rest x.1 mid e)
rest_then None k two mid same e = absurd (cc)

rest_none : {A B : Type 0} (r : Option (A × List ℕ)) (k : A × List ℕ → Option (B × List ℕ)) → rest_of r ≡ None → rest_of (r >>= k) ≡ None
rest_none (Some x) k e = absurd (cc)
rest_none None k e = refl

-- there is a value where there is a rest, and none where there is none
pub rest_is : {A : Type 0} (r : Option (A × List ℕ)) (mid : List ℕ) → rest_of r ≡ Some mid → (x : A) × (r ≡ Some (x, mid))
rest_is (Some x) mid e = (x.0, ap (λ m. Some (x.0, m)) (one_rest x.1 mid e))
rest_is None mid e = absurd (cc)

pub rest_is_none : {A : Type 0} (r : Option (A × List ℕ)) → rest_of r ≡ None → r ≡ None
rest_is_none (Some x) e = absurd (cc)
rest_is_none None e = refl

-- ---- one after the other

pub both_rest : {A B C : Type 0} (one : Reader A) (two : Reader B) (make : A → B → C) (bytes mid : List ℕ) → rest_of (one bytes) ≡ Some mid → rest_of (both_at one (λ a. two) make bytes) ≡ rest_of (two mid)
unfolding both_at
both_rest one two make bytes mid e = rest_then (one bytes) (λ first. two first.1 >>= λ second. Some (make first.0 second.0, second.1)) two mid (λ x. rest_mapped (two x.1) (make x.0)) e

pub both_none : {A B C : Type 0} (one : Reader A) (two : Reader B) (make : A → B → C) (bytes : List ℕ) → rest_of (one bytes) ≡ None → rest_of (both_at one (λ a. two) make bytes) ≡ None
unfolding both_at
both_none one two make bytes e = rest_none (one bytes) (λ first. two first.1 >>= λ second. Some (make first.0 second.0, second.1)) e

pub counted_rest : {A : Type 0} (one : Reader A) (bytes mid : List ℕ) (n : ℕ) → u32_at bytes ≡ Some (n, mid) → rest_of (counted_at one bytes) ≡ rest_of (many_at one n mid)
unfolding both_at
counted_rest one bytes mid n e = rw e (rest_mapped (many_at one n mid) (λ xs. xs))

pub counted_none : {A : Type 0} (one : Reader A) (bytes : List ℕ) → u32_at bytes ≡ None → rest_of (counted_at one bytes) ≡ None
unfolding both_at
counted_none one bytes e = rw e refl

pub mapped_rest : {A B : Type 0} (r : Option (A × List ℕ)) (f : A → B) (o : Option (List ℕ)) → rest_of r ≡ o → rest_of (r >>= λ x. Some (f x.0, x.1)) ≡ o
mapped_rest r f o e = rest_mapped r f ∙ e

-- ---- many

pub passes_on : {A : Type 0} (one : Reader A) (count i : ℕ) (bytes after : List ℕ) (total : Option (List ℕ)) → i < count → rest_of (one bytes) ≡ Some after
    → rest_of (many_at one (count - i) bytes) ≡ total → rest_of (many_at one (count - (i + 1)) after) ≡ total
unfolding many_at
passes_on one count i bytes after total lt e so_far =
    let m : ℕ = count - (i + 1) in
    let k : count - i ≡ suc m = omega arith in
    let step : rest_of (many_at one (suc m) bytes) ≡ rest_of (many_at one m after) =
    rest_then (one bytes) (λ first. many_at one m first.1 >>= λ others. Some (first.0 ∷ others.0, others.1)) (many_at one m) after (λ x. rest_mapped (many_at one m x.1) (λ xs. x.0 ∷ xs)) e in
    sym step ∙ ap (λ n. rest_of (many_at one n bytes)) (sym k) ∙ so_far

pub stops_here : {A : Type 0} (one : Reader A) (count i : ℕ) (bytes : List ℕ) (total : Option (List ℕ)) → i < count → rest_of (one bytes) ≡ None → rest_of (many_at one (count - i) bytes) ≡ total → total ≡ None
unfolding many_at
stops_here one count i bytes total lt e so_far =
    let m : ℕ = count - (i + 1) in
    let k : count - i ≡ suc m = omega arith in
    let step : rest_of (many_at one (suc m) bytes) ≡ None = rest_none (one bytes) (λ first. many_at one m first.1 >>= λ others. Some (first.0 ∷ others.0, others.1)) e in
    sym so_far ∙ ap (λ n. rest_of (many_at one n bytes)) k ∙ step

pub passed_all : {A : Type 0} (one : Reader A) (count i : ℕ) (bytes : List ℕ) (total : Option (List ℕ)) → count ≤ i → rest_of (many_at one (count - i) bytes) ≡ total → total ≡ Some bytes
unfolding many_at
passed_all one count i bytes total le so_far =
    let k : count - i ≡ 0 = omega arith in
    sym so_far ∙ ap (λ n. rest_of (many_at one n bytes)) k

-- ---- columns

pub columns_on : (rest others : Schema) (rows : ℕ) (f : Field) (bytes after : List ℕ) (total : Option (List ℕ)) → rest ≡ f ∷ others → rest_of (column_at f.kind rows bytes) ≡ Some after
    → rest_of (columns_at rows rest bytes) ≡ total → rest_of (columns_at rows others after) ≡ total
unfolding columns_at
columns_on rest others rows f bytes after total is e so_far =
    let step : rest_of (columns_at rows (f ∷ others) bytes) ≡ rest_of (columns_at rows others after) =
    rest_then (column_at f.kind rows bytes) (λ first. columns_at rows others first.1 >>= λ more. Some (first.0 ∷ more.0, more.1)) (columns_at rows others) after (λ x. rest_mapped (columns_at rows others x.1) (λ cs. x.0 ∷ cs)) e in
    sym step ∙ ap (λ fs. rest_of (columns_at rows fs bytes)) (sym is) ∙ so_far

pub columns_stop : (rest others : Schema) (rows : ℕ) (f : Field) (bytes : List ℕ) (total : Option (List ℕ)) → rest ≡ f ∷ others → rest_of (column_at f.kind rows bytes) ≡ None
    → rest_of (columns_at rows rest bytes) ≡ total → total ≡ None
unfolding columns_at
columns_stop rest others rows f bytes total is e so_far =
    let step : rest_of (columns_at rows (f ∷ others) bytes) ≡ None = rest_none (column_at f.kind rows bytes) (λ first. columns_at rows others first.1 >>= λ more. Some (first.0 ∷ more.0, more.1)) e in
    sym so_far ∙ ap (λ fs. rest_of (columns_at rows fs bytes)) is ∙ step

pub columns_passed : (rest : Schema) (rows : ℕ) (bytes : List ℕ) (total : Option (List ℕ)) → rest ≡ [] → rest_of (columns_at rows rest bytes) ≡ total → total ≡ Some bytes
unfolding columns_at
columns_passed rest rows bytes total is so_far = sym so_far ∙ ap (λ fs. rest_of (columns_at rows fs bytes)) is

-- ---- lists and columns

-- what is passed over where one reading ends as another
pub pass_as : {X A B : Type 0} (after : List ℕ) (r : Result X Unreadable) (a : Option (A × List ℕ)) (b : Option (B × List ℕ)) → rest_of a ≡ rest_of b → Passes after r b → Passes after r a
pass_as after (Ok done) a b same p = same ∙ p
pass_as after (Err e) a b same p = same ∙ p

pub list_rest : (bytes mid : List ℕ) (n : ℕ) → u32_at bytes ≡ Some (n, mid) → rest_of (list_at bytes) ≡ rest_of (many_at u32_at n mid)
unfolding list_at
list_rest bytes mid n e = counted_rest u32_at bytes mid n e

pub list_none : (bytes : List ℕ) → u32_at bytes ≡ None → rest_of (list_at bytes) ≡ None
unfolding list_at
list_none bytes e = counted_none u32_at bytes e

pub posted_rest : (bytes mid : List ℕ) → rest_of (tested_text_at is_word bytes) ≡ Some mid → rest_of (posted_at bytes) ≡ rest_of (list_at mid)
unfolding posted_at
posted_rest bytes mid e = both_rest (tested_text_at is_word) list_at (λ word rows. record { word = word; rows = rows }) bytes mid e

pub posted_none : (bytes : List ℕ) → rest_of (tested_text_at is_word bytes) ≡ None → rest_of (posted_at bytes) ≡ None
unfolding posted_at
posted_none bytes e = both_none (tested_text_at is_word) list_at (λ word rows. record { word = word; rows = rows }) bytes e

pub words_rest : (rows : ℕ) (bytes mid : List ℕ) (n : ℕ) → u32_at bytes ≡ Some (n, mid) → rest_of (column_at Kind.text rows bytes) ≡ rest_of (many_at posted_at n mid)
unfolding column_at
words_rest rows bytes mid n e = rest_mapped (counted_at posted_at bytes) Laid.words ∙ counted_rest posted_at bytes mid n e

pub words_none : (rows : ℕ) (bytes : List ℕ) → u32_at bytes ≡ None → rest_of (column_at Kind.text rows bytes) ≡ None
unfolding column_at
words_none rows bytes e = rest_mapped (counted_at posted_at bytes) Laid.words ∙ counted_none posted_at bytes e

pub keywords_rest : (rows : ℕ) (bytes mid after : List ℕ) (n : ℕ) → u32_at bytes ≡ Some (n, mid) → rest_of (many_at (tested_text_at is_keyword) n mid) ≡ Some after → rest_of (column_at Kind.keyword rows bytes) ≡ rest_of (many_at u32_at rows after)
unfolding column_at
keywords_rest rows bytes mid after n e f = both_rest (counted_at (tested_text_at is_keyword)) (many_at u32_at rows) Laid.keywords bytes after (counted_rest (tested_text_at is_keyword) bytes mid n e ∙ f)

pub keywords_none : (rows : ℕ) (bytes : List ℕ) → rest_of (counted_at (tested_text_at is_keyword) bytes) ≡ None → rest_of (column_at Kind.keyword rows bytes) ≡ None
unfolding column_at
keywords_none rows bytes e = both_none (counted_at (tested_text_at is_keyword)) (many_at u32_at rows) Laid.keywords bytes e

pub integers_rest : (rows : ℕ) (bytes : List ℕ) → rest_of (column_at Kind.number rows bytes) ≡ rest_of (many_at cell_at rows bytes)
unfolding column_at
integers_rest rows bytes = rest_mapped (many_at cell_at rows bytes) Laid.numbers

pub labels_rest : (rows : ℕ) (bytes mid after : List ℕ) (n : ℕ) → u32_at bytes ≡ Some (n, mid) → rest_of (many_at (tested_text_at is_label) n mid) ≡ Some after → rest_of (column_at Kind.facet rows bytes) ≡ rest_of (many_at list_at rows after)
unfolding column_at
labels_rest rows bytes mid after n e f = both_rest (counted_at (tested_text_at is_label)) (many_at list_at rows) Laid.labels bytes after (counted_rest (tested_text_at is_label) bytes mid n e ∙ f)

pub labels_none : (rows : ℕ) (bytes : List ℕ) → rest_of (counted_at (tested_text_at is_label) bytes) ≡ None → rest_of (column_at Kind.facet rows bytes) ≡ None
unfolding column_at
labels_none rows bytes e = both_none (counted_at (tested_text_at is_label)) (many_at list_at rows) Laid.labels bytes e

-- ---- fields

many_length : {A : Type 0} (one : Reader A) (n : ℕ) (bytes : List ℕ) (x : List A × List ℕ) → many_at one n bytes ≡ Some x → length x.0 ≡ n
unfolding many_at
many_length one zero bytes x e = let same : ([], bytes) ≡ x = some_is ([], bytes) x e in ap (λ y. length y.0) (sym same)
many_length one (suc n) bytes x e =
    let a = bind_some (one bytes) (λ first. many_at one n first.1 >>= λ others. Some (first.0 ∷ others.0, others.1)) x e in
    let b = bind_some (many_at one n a.0.1) (λ others. Some (a.0.0 ∷ others.0, others.1)) x a.2 in
    let same : (a.0.0 ∷ b.0.0, b.0.1) ≡ x = some_is (a.0.0 ∷ b.0.0, b.0.1) x b.2 in
    ap (λ y. length y.0) (sym same) ∙ ap suc (many_length one n a.0.1 b.0 b.1)

-- more fields than a schema has are those of none
pub fields_too_many : (old mid : List ℕ) (n : ℕ) → u32_at old ≡ Some (n, mid) → field_limit < n → fields_at old ≡ None
fields_too_many old mid n e many = by (many_at field_at n mid) refl
  where
    by : (r : Option (Schema × List ℕ)) → many_at field_at n mid ≡ r → fields_at old ≡ None
    by (Some x) is = fields_not_schema old mid x.1 n x.0 e is (λ s. let long = many_length field_at n mid x is in absurd (omega (arith, s.few)))
    by None is = fields_not_each old mid n e is

-- ---- the whole

abbrev laid_out : ℕ → Schema → List Head → List Laid → Layout
laid_out number fields heads columns = record { number = number; schema = fields; heads = heads; columns = columns }

layout_is : (bytes b1 b2 b3 b4 : List ℕ) (number rows : ℕ) (fields : Schema) (heads : List Head) (columns : List Laid) → segment_start_at bytes ≡ Some ((number, rows), b1) → fields_at b1 ≡ Some (fields, b2)
    → many_at head_at rows b2 ≡ Some (heads, b3) → columns_at rows fields b3 ≡ Some (columns, b4) → layout_at bytes ≡ cond (eqb (length b4) 0) (Some (laid_out number fields heads columns)) None
unfolding layout_at
layout_is bytes b1 b2 b3 b4 number rows fields heads columns e1 e2 e3 e4 = rw (e1, e2, e3, e4) refl

pub layout_some : (bytes b1 b2 b3 b4 : List ℕ) (number rows : ℕ) (fields : Schema) → segment_start_at bytes ≡ Some ((number, rows), b1) → fields_at b1 ≡ Some (fields, b2)
    → rest_of (many_at head_at rows b2) ≡ Some b3 → rest_of (columns_at rows fields b3) ≡ Some b4 → b4 ≡ [] → (l : Layout) × (layout_at bytes ≡ Some l)
layout_some bytes b1 b2 b3 b4 number rows fields e1 e2 e3 e4 nothing =
    let heads = rest_is (many_at head_at rows b2) b3 e3 in
    let columns = rest_is (columns_at rows fields b3) b4 e4 in (
      laid_out number fields heads.0 columns.0,
      layout_is bytes b1 b2 b3 b4 number rows fields heads.0 columns.0 e1 e2 heads.1 columns.1 ∙ ap (λ (b : List ℕ). cond (eqb (length b) 0) (Some (laid_out number fields heads.0 columns.0)) None) nothing,
    )

pub layout_none_start : (bytes : List ℕ) → segment_start_at bytes ≡ None → layout_at bytes ≡ None
unfolding layout_at
layout_none_start bytes e = rw e refl

pub layout_none_fields : (bytes b1 : List ℕ) (s : ℕ × ℕ) → segment_start_at bytes ≡ Some (s, b1) → fields_at b1 ≡ None → layout_at bytes ≡ None
unfolding layout_at
layout_none_fields bytes b1 s e1 e2 = rw (e1, e2) refl

heads_missing : (bytes b1 b2 : List ℕ) (number rows : ℕ) (fields : Schema) → segment_start_at bytes ≡ Some ((number, rows), b1) → fields_at b1 ≡ Some (fields, b2) → many_at head_at rows b2 ≡ None → layout_at bytes ≡ None
unfolding layout_at
heads_missing bytes b1 b2 number rows fields e1 e2 e3 = rw (e1, e2, e3) refl

pub layout_none_heads : (bytes b1 b2 : List ℕ) (number rows : ℕ) (fields : Schema) → segment_start_at bytes ≡ Some ((number, rows), b1) → fields_at b1 ≡ Some (fields, b2) → rest_of (many_at head_at rows b2) ≡ None → layout_at bytes ≡ None
layout_none_heads bytes b1 b2 number rows fields e1 e2 e3 = heads_missing bytes b1 b2 number rows fields e1 e2 (rest_is_none (many_at head_at rows b2) e3)

columns_missing : (bytes b1 b2 b3 : List ℕ) (number rows : ℕ) (fields : Schema) (heads : List Head) → segment_start_at bytes ≡ Some ((number, rows), b1) → fields_at b1 ≡ Some (fields, b2) → many_at head_at rows b2 ≡ Some (heads, b3) → columns_at rows fields b3 ≡ None
    → layout_at bytes ≡ None
unfolding layout_at
columns_missing bytes b1 b2 b3 number rows fields heads e1 e2 e3 e4 = rw (e1, e2, e3, e4) refl

pub layout_none_columns : (bytes b1 b2 b3 : List ℕ) (number rows : ℕ) (fields : Schema) → segment_start_at bytes ≡ Some ((number, rows), b1) → fields_at b1 ≡ Some (fields, b2) → rest_of (many_at head_at rows b2) ≡ Some b3 → rest_of (columns_at rows fields b3) ≡ None
    → layout_at bytes ≡ None
layout_none_columns bytes b1 b2 b3 number rows fields e1 e2 e3 e4 =
    let heads = rest_is (many_at head_at rows b2) b3 e3 in
    columns_missing bytes b1 b2 b3 number rows fields heads.0 e1 e2 heads.1 (rest_is_none (columns_at rows fields b3) e4)

pub layout_none_more : (bytes b1 b2 b3 b4 : List ℕ) (number rows : ℕ) (fields : Schema) → segment_start_at bytes ≡ Some ((number, rows), b1) → fields_at b1 ≡ Some (fields, b2) → rest_of (many_at head_at rows b2) ≡ Some b3 → rest_of (columns_at rows fields b3) ≡ Some b4
    → ¬ (b4 ≡ []) → layout_at bytes ≡ None
layout_none_more bytes b1 b2 b3 b4 number rows fields e1 e2 e3 e4 more =
    let heads = rest_is (many_at head_at rows b2) b3 e3 in
    let columns = rest_is (columns_at rows fields b3) b4 e4 in
    layout_is bytes b1 b2 b3 b4 number rows fields heads.0 columns.0 e1 e2 heads.1 columns.1
    ∙ not_kept (eqb (length b4) 0) (Some (laid_out number fields heads.0 columns.0)) (λ e. more (nil_from_length b4 (eqb-true _ _ e)))
