-- What is read of a segment's file is what is spelled there.
use Rattle.std.proofs.Common.{◌≡◌, ℕ, ℤ, ◌^◌, ◌<◌, ◌≤◌, Bool, true, false, cond, eqb, leb, List, [], ◌∷◌, ◌++◌, length, Option, Some, None, refl, sym, ap, subst, ◌∙◌, append_assoc, arith}
use Rattle.std.specs.Prelude.{IfSome}
use Rattle.std.specs.Str.{is_utf8}
use Rattle.std.specs.Int.{w64, cast_signed, cast_unsigned}
use Rattle.std.specs.Int.RustNames.{FitsSigned}
use Rattle.std.specs.List.{All, AllByRecursion}
use Rattle.std.proofs.lemmas.Bool.{leb-true, le-leb, eqb-true}
use Rattle.std.proofs.lemmas.List.Elements.{All-cons, All-nil}
use Rattle.std.proofs.lemmas.Str.{IsUtf8-from_is_utf8, is_utf8-from_IsUtf8}
use Rattle.std.proofs.lemmas.Int.{of_z-to_z, to_z-of_z, ints}
use Rattle.cat_base.specs.Bytes.{spelled_u32, spelled_u64, spelled_bytes}
use Rattle.cat_model.specs.Text.{Text}
use Rattle.cat_model.specs.Item.{Field, Kind, Schema, IsSchema, is_id, is_field_name}
use Rattle.cat_model.specs.Forms.{IsWord, IsKeyword, IsLabel, IsSourceLength}
use Rattle.cat_model.specs.Layout.{WordPostings, Head, kind_byte, spelled_field, spelled_fields, spelled_head, spelled_list, spelled_postings, spelled_number, IsHead, FitU32, IsWordPostings}
use Rattle.cat_base.specs.declared.refusal.Refusal.{Refusal}
use Rattle.cat_base.specs.declared.refusal.Refusal.TheVariants.{Damaged}
use Rattle.cat_items.specs.file_parts.Reading.{Reader, Fails, ◌>>=◌, byte_at, u32_at, u64_at, where_at, counted_at, tested_text_at}
use Rattle.cat_items.specs.file_parts.Layouts.{is_word, is_keyword, is_label, is_schema, is_write_number, is_source_length, kind_at, field_at, fields_at, head_at, list_at, posted_at, cell_at}
use Rattle.cat_items.proofs.file_parts.Numbers.{Reads, bind_some, bind_at, both_true, at_some, then, reads_u32, reads_u64}
use Rattle.cat_items.proofs.file_parts.Readers.{reads_where, reads_as, reads_text, both_sound, both_complete, reads_counted}
use Rattle.cat_items.proofs.file_parts.Forms.{both_hold, word_from, word_to, keyword_from, keyword_to, label_from, label_to, schema_from, schema_to, id_is_utf8, id_is_short, name_is_text}

-- the same reader under another name
renamed : {A : Type 0} (one two : Reader A) (spell : A → List ℕ) (P : A → Type 0) → ((bytes : List ℕ) → two bytes ≡ one bytes) → Reads one spell P → Reads two spell P
renamed one two spell P same r = record {
  sound = λ bytes x e. r.sound bytes x (sym (same bytes) ∙ e);
  complete = λ x rest h. same (spell x ++ rest) ∙ r.complete x rest h;
}

-- where nothing is read, nothing is spelled
pub never : {A : Type 0} (one : Reader A) (spell : A → List ℕ) (P : A → Type 0) → Reads one spell P → (old : List ℕ) (e : Refusal) → Fails e (one old) → e ≡ Damaged → (x : A) (rest : List ℕ) → P x → old ≡ spell x ++ rest → ⊥
never one spell P r old e f is x rest h same =
    let none : one old ≡ None = subst (λ d. Fails d (one old)) is f in
    let some : one old ≡ Some (x, rest) = ap one same ∙ r.complete x rest h in
    absurd (cc (none, some))

-- ---- fields

kind_of_byte : ℕ → Option Kind
kind_of_byte b = cond (eqb b 1) (Some Kind.text) (cond (eqb b 2) (Some Kind.keyword) (cond (eqb b 3) (Some Kind.number) (cond (eqb b 4) (Some Kind.facet) None)))

reads_kind : Reads kind_at (λ k. kind_byte k ∷ []) (λ k. Unit {0})
unfolding kind_at byte_at
reads_kind = record { sound = kind_sound; complete = kind_complete }
  where
    kind_complete : (k : Kind) (rest : List ℕ) → Unit {0} → kind_at (kind_byte k ∷ rest) ≡ Some (k, rest)
    kind_complete Kind.text rest h = refl
    kind_complete Kind.keyword rest h = refl
    kind_complete Kind.number rest h = refl
    kind_complete Kind.facet rest h = refl

    goal : ℕ → List ℕ → Kind × List ℕ → Type 0
    goal b rest y = (b ∷ rest ≡ kind_byte y.0 ∷ y.1) × Unit {0}

    made : (b n : ℕ) (rest : List ℕ) (x : Kind × List ℕ) (k : Kind) → kind_byte k ≡ n → eqb b n ≡ true → Some (k, rest) ≡ Some x → goal b rest x
    made b n rest x k is t s = at_some (goal b rest) (k, rest) x s (ap (λ c. c ∷ rest) (eqb-true _ _ t ∙ sym is), tt)

    kind_sound : (bytes : List ℕ) (x : Kind × List ℕ) → kind_at bytes ≡ Some x → (bytes ≡ kind_byte x.0 ∷ x.1) × Unit {0}
    kind_sound [] x e = absurd cc
    kind_sound (b ∷ rest) x e = first (eqb b 1) refl e
      where
        four : (t : Bool) → eqb b 4 ≡ t → cond t (Some (Kind.facet, rest)) None ≡ Some x → goal b rest x
        four true is h = made b 4 rest x Kind.facet refl is h
        four false is h = absurd cc

        three : (t : Bool) → eqb b 3 ≡ t → cond t (Some (Kind.number, rest)) (cond (eqb b 4) (Some (Kind.facet, rest)) None) ≡ Some x → goal b rest x
        three true is h = made b 3 rest x Kind.number refl is h
        three false is h = four (eqb b 4) refl h

        two : (t : Bool) → eqb b 2 ≡ t → cond t (Some (Kind.keyword, rest)) (cond (eqb b 3) (Some (Kind.number, rest)) (cond (eqb b 4) (Some (Kind.facet, rest)) None)) ≡ Some x → goal b rest x
        two true is h = made b 2 rest x Kind.keyword refl is h
        two false is h = three (eqb b 3) refl h

        first : (t : Bool) → eqb b 1 ≡ t → cond t (Some (Kind.text, rest)) (cond (eqb b 2) (Some (Kind.keyword, rest)) (cond (eqb b 3) (Some (Kind.number, rest)) (cond (eqb b 4) (Some (Kind.facet, rest)) None))) ≡ Some x → goal b rest x
        first true is h = made b 1 rest x Kind.text refl is h
        first false is h = two (eqb b 2) refl h

abbrev IsText : Text → Type 0
IsText t = (length t < 2 ^ 32) × (is_utf8 t ≡ true)

any_text : Reads (tested_text_at (λ t. true)) spelled_bytes IsText
any_text = reads_as (tested_text_at (λ t. true)) spelled_bytes (λ t. IsText t × (true ≡ true)) IsText (λ t h. h.0) (λ t h. (h, refl)) (reads_text (λ t. true))

reads_field : Reads field_at spelled_field (λ f. IsText f.name)
unfolding field_at
reads_field = record {
  sound = λ bytes x e.
      let b = both_sound (tested_text_at (λ t. true)) (λ name. kind_at) (λ name kind. record { name = name; kind = kind }) spelled_bytes (λ k. kind_byte k ∷ []) IsText (λ name kind. Unit {0}) any_text (λ name. reads_kind) bytes x e in
      subst (λ (f : Field). (bytes ≡ spelled_field f ++ x.1) × IsText f.name) b.made (b.spelled, b.holds);
  complete = λ f rest h. both_complete (tested_text_at (λ t. true)) (λ name. kind_at) (λ name kind. record { name = name; kind = kind }) spelled_bytes (λ k. kind_byte k ∷ []) IsText (λ name kind. Unit {0}) any_text (λ name. reads_kind) f.name f.kind rest h tt;
}

-- the names of a schema are texts
names_are_texts : (fs : Schema) → AllByRecursion (λ f. is_field_name f.name ≡ true) fs → All (λ f. IsText f.name) fs
names_are_texts [] h = All-nil (λ (f : Field). IsText f.name)
names_are_texts (f ∷ fs) h = All-cons (λ (g : Field). IsText g.name) f fs (name_is_text f.name h.0) (names_are_texts fs h.1)

pub reads_fields : Reads fields_at spelled_fields IsSchema
unfolding fields_at
reads_fields =
    renamed (where_at is_schema (counted_at field_at)) fields_at spelled_fields IsSchema (λ bytes. refl)
    (reads_as (where_at is_schema (counted_at field_at)) spelled_fields (λ fs. ((length fs < 2 ^ 32) × All (λ f. IsText f.name) fs) × (is_schema fs ≡ true)) IsSchema
    (λ fs h. schema_from fs h.1)
    (λ fs s. ((let few : length fs ≤ 32 = s.few in omega arith, names_are_texts fs s.named), schema_to fs s))
    (reads_where is_schema (counted_at field_at) spelled_fields (λ fs. (length fs < 2 ^ 32) × All (λ f. IsText f.name) fs) (reads_counted field_at spelled_field (λ f. IsText f.name) reads_field)))

-- ---- rows

reads_number : Reads (where_at is_write_number u64_at) spelled_u64 (λ n. (n < 2 ^ 64) × (is_write_number n ≡ true))
reads_number = reads_where is_write_number u64_at spelled_u64 (λ n. n < 2 ^ 64) reads_u64

reads_id : Reads (tested_text_at is_id) spelled_bytes (λ t. is_id t ≡ true)
reads_id = reads_as (tested_text_at is_id) spelled_bytes (λ t. IsText t × (is_id t ≡ true)) (λ t. is_id t ≡ true) (λ t h. h.1) (λ t h. ((id_is_short t h, id_is_utf8 t h), h)) (reads_text is_id)

reads_length : Reads (where_at is_source_length u32_at) spelled_u32 IsSourceLength
reads_length = reads_as (where_at is_source_length u32_at) spelled_u32 (λ n. (n < 2 ^ 32) × (is_source_length n ≡ true)) IsSourceLength
    (λ n h. let k = both_true (leb 1 n) (leb n 8192) h.1 in (leb-true _ _ k.0, leb-true _ _ k.1))
    (λ n h. (let few : n ≤ 8192 = h.1 in omega arith, both_hold (leb 1 n) (leb n 8192) (le-leb _ _ h.0) (le-leb _ _ h.1)))
    (reads_where is_source_length u32_at spelled_u32 (λ n. n < 2 ^ 32) reads_u32)

head_sound : (bytes : List ℕ) (x : Head × List ℕ) → head_at bytes ≡ Some x → (bytes ≡ spelled_head x.0 ++ x.1) × IsHead x.0
unfolding head_at
head_sound bytes x e =
    let a = bind_some (where_at is_write_number u64_at bytes) (λ number. tested_text_at is_id number.1 >>= λ id. where_at is_source_length u32_at id.1 >>= λ long. Some (record { number = number.0; id = id.0; length = long.0 }, long.1)) x e in
    let b = bind_some (tested_text_at is_id a.0.1) (λ id. where_at is_source_length u32_at id.1 >>= λ long. Some (record { number = a.0.0; id = id.0; length = long.0 }, long.1)) x a.2 in
    let c = bind_some (where_at is_source_length u32_at b.0.1) (λ long. Some (record { number = a.0.0; id = b.0.0; length = long.0 }, long.1)) x b.2 in
    let t0 = reads_number.sound bytes a.0 a.1 in
    let t1 = reads_id.sound a.0.1 b.0 b.1 in
    let t2 = reads_length.sound b.0.1 c.0 c.1 in
    let made : Head × List ℕ = (record { number = a.0.0; id = b.0.0; length = c.0.0 }, c.0.1) in
    let e12 = then a.0.1 (spelled_bytes b.0.0) b.0.1 (spelled_u32 c.0.0) c.0.1 t1.0 t2.0 in
    at_some (λ (y : Head × List ℕ). (bytes ≡ spelled_head y.0 ++ y.1) × IsHead y.0) made x c.2 (
      then bytes (spelled_u64 a.0.0) a.0.1 (spelled_bytes b.0.0 ++ spelled_u32 c.0.0) c.0.1 t0.0 e12,
      record { positive = leb-true _ _ t0.1.1; fits = t0.1.0; id = t1.1; source = t2.1 },
    )

head_complete : (h : Head) (rest : List ℕ) → IsHead h → head_at (spelled_head h ++ rest) ≡ Some (h, rest)
unfolding head_at
head_complete h rest is =
    let regrouped : spelled_head h ++ rest ≡ spelled_u64 h.number ++ (spelled_bytes h.id ++ (spelled_u32 h.length ++ rest)) = append_assoc (spelled_u64 h.number) (spelled_bytes h.id ++ spelled_u32 h.length) rest ∙ ap (λ (x : List ℕ). spelled_u64 h.number ++ x) (append_assoc (spelled_bytes h.id) (spelled_u32 h.length) rest) in
    ap head_at regrouped
    ∙ bind_at (where_at is_write_number u64_at (spelled_u64 h.number ++ (spelled_bytes h.id ++ (spelled_u32 h.length ++ rest)))) _ _ (reads_number.complete h.number (spelled_bytes h.id ++ (spelled_u32 h.length ++ rest)) (is.fits, le-leb _ _ is.positive))
    ∙ bind_at (tested_text_at is_id (spelled_bytes h.id ++ (spelled_u32 h.length ++ rest))) _ _ (reads_id.complete h.id (spelled_u32 h.length ++ rest) is.id)
    ∙ bind_at (where_at is_source_length u32_at (spelled_u32 h.length ++ rest)) _ _ (reads_length.complete h.length rest is.source)

pub reads_head : Reads head_at spelled_head IsHead
reads_head = record { sound = head_sound; complete = head_complete }

-- ---- lists and texts

pub reads_list : Reads list_at spelled_list FitU32
unfolding list_at
reads_list = renamed (counted_at u32_at) list_at spelled_list FitU32 (λ bytes. refl) (reads_counted u32_at spelled_u32 (λ n. n < 2 ^ 32) reads_u32)

reads_word : Reads (tested_text_at is_word) spelled_bytes IsWord
reads_word = reads_as (tested_text_at is_word) spelled_bytes (λ t. IsText t × (is_word t ≡ true)) IsWord
    (λ t h. word_from t (IsUtf8-from_is_utf8 t h.0.1) h.1) (λ t w. ((w.short, is_utf8-from_IsUtf8 t w.utf8), word_to t w)) (reads_text is_word)

keyword_is_text : (t : Text) → IsKeyword t → IsText t
keyword_is_text t k = (let short : length t ≤ 128 = k.short in omega arith, is_utf8-from_IsUtf8 t k.utf8)

pub reads_keyword : Reads (tested_text_at is_keyword) spelled_bytes IsKeyword
reads_keyword = reads_as (tested_text_at is_keyword) spelled_bytes (λ t. IsText t × (is_keyword t ≡ true)) IsKeyword
    (λ t h. keyword_from t (IsUtf8-from_is_utf8 t h.0.1) h.1) (λ t k. (keyword_is_text t k, keyword_to t k)) (reads_text is_keyword)

pub reads_label : Reads (tested_text_at is_label) spelled_bytes IsLabel
reads_label = reads_as (tested_text_at is_label) spelled_bytes (λ t. IsText t × (is_label t ≡ true)) IsLabel
    (λ t h. label_from t (IsUtf8-from_is_utf8 t h.0.1) h.1) (λ t l. (keyword_is_text t l.keyword, label_to t l)) (reads_text is_label)

pub reads_posted : Reads posted_at spelled_postings IsWordPostings
unfolding posted_at
reads_posted = record {
  sound = λ bytes x e.
      let b = both_sound (tested_text_at is_word) (λ word. list_at) (λ word rows. record { word = word; rows = rows }) spelled_bytes spelled_list IsWord (λ word rows. FitU32 rows) reads_word (λ word. reads_list) bytes x e in
      subst (λ (p : WordPostings). (bytes ≡ spelled_postings p ++ x.1) × IsWordPostings p) b.made (b.spelled, record { word = b.holds; rows = b.both });
  complete = λ p rest h. both_complete (tested_text_at is_word) (λ word. list_at) (λ word rows. record { word = word; rows = rows }) spelled_bytes spelled_list IsWord (λ word rows. FitU32 rows) reads_word (λ word. reads_list) p.word p.rows rest h.word h.rows;
}

-- ---- numbers of rows

abbrev pub IsCell : Option ℤ → Type 0
IsCell z = IfSome z (FitsSigned w64)

fits_signed : (n : ℕ) → n < 2 ^ 64 → FitsSigned w64 (cast_signed w64 n)
fits_signed n lt = search (arith, ints)

unsigned_below : (z : ℤ) → FitsSigned w64 z → cast_unsigned w64 z < 2 ^ 64
unsigned_below z fits = search (arith, ints)

cell_sound : (bytes : List ℕ) (x : Option ℤ × List ℕ) → cell_at bytes ≡ Some x → (bytes ≡ spelled_number x.0 ++ x.1) × IsCell x.0
unfolding cell_at byte_at
cell_sound [] x e = absurd cc
cell_sound (b ∷ rest) x e = zeros (eqb b 0) refl e
  where
    goal : Option ℤ × List ℕ → Type 0
    goal y = (b ∷ rest ≡ spelled_number y.0 ++ y.1) × IsCell y.0

    ones : (t : Bool) → eqb b 1 ≡ t → cond t (u64_at rest >>= λ n. Some (Some (cast_signed w64 n.0), n.1)) None ≡ Some x → goal x
    ones true is h =
        let n = bind_some (u64_at rest) (λ n. Some (Some (cast_signed w64 n.0), n.1)) x h in
        let t = reads_u64.sound rest n.0 n.1 in
        let one : b ≡ 1 = eqb-true _ _ is in
        let spelled : rest ≡ spelled_u64 (cast_unsigned w64 (cast_signed w64 n.0.0)) ++ n.0.1 = subst (λ (k : ℕ). rest ≡ spelled_u64 k ++ n.0.1) (sym (of_z-to_z w64 n.0.0 t.1)) t.0 in
        at_some goal (Some (cast_signed w64 n.0.0), n.0.1) x n.2 (ap (λ c. c ∷ rest) one ∙ ap (λ (w : List ℕ). 1 ∷ w) spelled, fits_signed n.0.0 t.1)
    ones false is h = absurd cc

    zeros : (t : Bool) → eqb b 0 ≡ t → cond t (Some (None, rest)) (cond (eqb b 1) (u64_at rest >>= λ n. Some (Some (cast_signed w64 n.0), n.1)) None) ≡ Some x → goal x
    zeros true is h = at_some goal (None, rest) x h (ap (λ c. c ∷ rest) (eqb-true _ _ is), tt)
    zeros false is h = ones (eqb b 1) refl h

cell_complete : (z : Option ℤ) (rest : List ℕ) → IsCell z → cell_at (spelled_number z ++ rest) ≡ Some (z, rest)
unfolding cell_at byte_at
cell_complete None rest fits = refl
cell_complete (Some z) rest fits = rw (reads_u64.complete (cast_unsigned w64 z) rest (unsigned_below z fits), to_z-of_z w64 z fits) refl

pub reads_cell : Reads cell_at spelled_number IsCell
reads_cell = record { sound = cell_sound; complete = cell_complete }
