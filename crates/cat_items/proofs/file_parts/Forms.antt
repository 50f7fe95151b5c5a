-- The forms of texts, as tests.
use Rattle.std.proofs.Common.{◌≡◌, ℕ, ◌^◌, ◌<◌, ◌≤◌, Bool, true, false, ◌&&◌, not, ltb, leb, eqb, List, [], ◌∷◌, length, Some, None, cond, refl, sym, ap, ◌∙◌, arith, map}
use Rattle.std.specs.Prelude.{◌↔◌, IsTrue, ◌||◌, codes}
use Rattle.std.specs.Str.{is_utf8, IsUtf8}
use Rattle.std.specs.List.{list_all, All, AllByRecursion}
use Rattle.std.specs.Char.{is_ascii_graphic, is_ascii_digit, is_ascii_lowercase}
use Rattle.std.specs.Int.{is_in_range}
use Rattle.std.proofs.lemmas.Bool.{ltb-true, lt-ltb, leb-true, le-leb, eqb-true}
use Rattle.std.proofs.lemmas.List.Elements.{All-cons, All-nil}
use Rattle.std.proofs.lemmas.Str.{is_utf8-from_IsUtf8, IsUtf8-from_ascii}
use Rattle.std.proofs.lemmas.Str.Ascii.{IsAscii-from_all}
use Rattle.std.specs.declared.cmp.Ordering.{Ordering}
use Rattle.std.specs.declared.cmp.Ordering.TheVariants.{Less, Equal, Greater}
use Rattle.std.specs.Ordering.{is_lt}
use Rattle.std.specs.List.Sorted.{IsStrictlySortedBy}
use Rattle.cat_base.specs.Texts.{IsTextSet}
use Rattle.cat_model.specs.Text.{Text, text_cmp, same_text}
use Rattle.cat_model.specs.Item.{Field, Schema, IsSchema, is_id, is_field_name, is_name_byte, has_name_form}
use Rattle.cat_model.specs.Forms.{IsWord, IsKeyword, IsLabel, is_low_byte, is_plain_byte}
use Rattle.cat_items.specs.file_parts.Reading.{u32_at, where_at, both_at, many_at}
use Rattle.cat_items.specs.file_parts.Layouts.{is_word, is_keyword, is_label, is_rising, is_schema, field_at, fields_at}
use Rattle.cat_items.proofs.file_parts.Numbers.{both_true, not_kept}

-- the test that tells P is any that P passes and that P needs
pub tells : (b c : Bool) (P : Type 0) → (IsTrue b ↔ P) → (c ≡ true → P) → (P → c ≡ true) → b ≡ c
tells true c P h from to = sym (to (h.0 refl))
tells false true P h from to = h.1 (from refl)
tells false false P h from to = refl

pub both_hold : (a b : Bool) → a ≡ true → b ≡ true → (a && b) ≡ true
both_hold a b p q = rw (p, q) refl

pub word_from : (t : Text) → IsUtf8 t → is_word t ≡ true → IsWord t
word_from t utf8 e =
    let h = both_true (ltb 0 (length t)) (ltb (length t) (2 ^ 32) && list_all is_low_byte t) e in
    let k = both_true (ltb (length t) (2 ^ 32)) (list_all is_low_byte t) h.1 in
    record { utf8 = utf8; some = ltb-true _ _ h.0; short = ltb-true _ _ k.0; low = k.1 }

pub word_to : (t : Text) → IsWord t → is_word t ≡ true
word_to t w = both_hold (ltb 0 (length t)) _ (lt-ltb _ _ w.some) (both_hold (ltb (length t) (2 ^ 32)) _ (lt-ltb _ _ w.short) w.low)

pub keyword_from : (t : Text) → IsUtf8 t → is_keyword t ≡ true → IsKeyword t
keyword_from t utf8 e =
    let h = both_true (leb (length t) 128) (list_all is_plain_byte t) e in
    record { utf8 = utf8; short = leb-true _ _ h.0; plain = h.1 }

pub keyword_to : (t : Text) → IsKeyword t → is_keyword t ≡ true
keyword_to t k = both_hold (leb (length t) 128) _ (le-leb _ _ k.short) k.plain

pub label_from : (t : Text) → IsUtf8 t → is_label t ≡ true → IsLabel t
label_from t utf8 e =
    let h = both_true (ltb 0 (length t)) (is_keyword t) e in
    record { keyword = keyword_from t utf8 h.1; some = ltb-true _ _ h.0 }

pub label_to : (t : Text) → IsLabel t → is_label t ≡ true
label_to t l = both_hold (ltb 0 (length t)) _ (lt-ltb _ _ l.some) (keyword_to t l.keyword)

-- ---- schemas

all_from : {X : Type 0} (p : X → Bool) (xs : List X) → list_all p xs ≡ true → AllByRecursion (λ x. p x ≡ true) xs
all_from p [] e = tt
all_from p (x ∷ xs) e = let h = both_true (p x) (list_all p xs) e in (h.0, all_from p xs h.1)

all_to : {X : Type 0} (p : X → Bool) (xs : List X) → AllByRecursion (λ x. p x ≡ true) xs → list_all p xs ≡ true
all_to p [] h = refl
all_to p (x ∷ xs) h = both_hold (p x) (list_all p xs) h.0 (all_to p xs h.1)

all_weaker : {X : Type 0} (P Q : X → Type 0) → ((x : X) → P x → Q x) → (xs : List X) → AllByRecursion P xs → AllByRecursion Q xs
all_weaker P Q f [] h = tt
all_weaker P Q f (x ∷ xs) h = (f x h.0, all_weaker P Q f xs h.1)

less_from : (o : Ordering) → is_lt o ≡ true → o ≡ Less
less_from Less e = refl
less_from Equal e = absurd cc
less_from Greater e = absurd cc

less_to : (o : Ordering) → o ≡ Less → is_lt o ≡ true
less_to o e = ap is_lt e

rising_from : (ts : List Text) → is_rising ts ≡ true → IsTextSet ts
unfolding IsStrictlySortedBy
rising_from [] e = tt
rising_from (t ∷ ts) e =
    let h = both_true (list_all (λ u. is_lt (text_cmp t u)) ts) (is_rising ts) e in
    (all_weaker (λ u. is_lt (text_cmp t u) ≡ true) (λ u. text_cmp t u ≡ Less) (λ u. less_from (text_cmp t u)) ts (all_from (λ u. is_lt (text_cmp t u)) ts h.0), rising_from ts h.1)

rising_to : (ts : List Text) → IsTextSet ts → is_rising ts ≡ true
unfolding IsStrictlySortedBy
rising_to [] h = refl
rising_to (t ∷ ts) h =
    both_hold (list_all (λ u. is_lt (text_cmp t u)) ts) (is_rising ts)
    (all_to (λ u. is_lt (text_cmp t u)) ts (all_weaker (λ u. text_cmp t u ≡ Less) (λ u. is_lt (text_cmp t u) ≡ true) (λ u. less_to (text_cmp t u)) ts h.0)) (rising_to ts h.1)

pub schema_from : (fs : Schema) → is_schema fs ≡ true → IsSchema fs
schema_from fs e =
    let h = both_true (leb (length fs) 32) (is_rising (map (λ f. f.name) fs) && list_all (λ f. is_field_name f.name) fs) e in
    let k = both_true (is_rising (map (λ f. f.name) fs)) (list_all (λ f. is_field_name f.name) fs) h.1 in
    record { few = leb-true _ _ h.0; rising = rising_from (map (λ f. f.name) fs) k.0; named = all_from (λ (f : Field). is_field_name f.name) fs k.1 }

pub schema_to : (fs : Schema) → IsSchema fs → is_schema fs ≡ true
schema_to fs s =
    both_hold (leb (length fs) 32) _ (le-leb _ _ s.few)
    (both_hold (is_rising (map (λ f. f.name) fs)) _ (rising_to (map (λ f. f.name) fs) s.rising) (all_to (λ (f : Field). is_field_name f.name) fs s.named))

-- what is read as fields, as far as the test of a schema
fields_read : (old mid after : List ℕ) (n : ℕ) (fs : Schema) → u32_at old ≡ Some (n, mid) → many_at field_at n mid ≡ Some (fs, after) → fields_at old ≡ cond (is_schema fs) (Some (fs, after)) None
unfolding fields_at where_at both_at
fields_read old mid after n fs e f = rw (e, f) refl

pub fields_here : (old mid after : List ℕ) (n : ℕ) (fs : Schema) → u32_at old ≡ Some (n, mid) → many_at field_at n mid ≡ Some (fs, after) → IsSchema fs → fields_at old ≡ Some (fs, after)
fields_here old mid after n fs e f s = fields_read old mid after n fs e f ∙ ap (λ (b : Bool). cond b (Some (fs, after)) None) (schema_to fs s)

pub fields_not_schema : (old mid after : List ℕ) (n : ℕ) (fs : Schema) → u32_at old ≡ Some (n, mid) → many_at field_at n mid ≡ Some (fs, after) → ¬ (IsSchema fs) → fields_at old ≡ None
fields_not_schema old mid after n fs e f no_schema = fields_read old mid after n fs e f ∙ not_kept (is_schema fs) (Some (fs, after)) (λ h. no_schema (schema_from fs h))

pub fields_not_count : (old : List ℕ) → u32_at old ≡ None → fields_at old ≡ None
unfolding fields_at where_at both_at
fields_not_count old e = rw e refl

pub fields_not_each : (old mid : List ℕ) (n : ℕ) → u32_at old ≡ Some (n, mid) → many_at field_at n mid ≡ None → fields_at old ≡ None
unfolding fields_at where_at both_at
fields_not_each old mid n e f = rw (e, f) refl

-- ---- texts of ASCII are UTF-8

low_bytes : (p : ℕ → Bool) → ((b : ℕ) → p b ≡ true → b < 128) → (t : List ℕ) → list_all p t ≡ true → All (λ b. b < 128) t
low_bytes p low [] e = All-nil (λ b. b < 128)
low_bytes p low (b ∷ bs) e = let h = both_true (p b) (list_all p bs) e in All-cons (λ b. b < 128) b bs (low b h.0) (low_bytes p low bs h.1)

low_is_utf8 : (t : List ℕ) → All (λ b. b < 128) t → is_utf8 t ≡ true
low_is_utf8 t low = is_utf8-from_IsUtf8 t (IsUtf8-from_ascii t (IsAscii-from_all t low))

in_range : (low high b : ℕ) → high < 128 → is_in_range low high b ≡ true → b < 128
in_range low high b small e = let h = both_true (leb low b) (leb b high) e in let le : b ≤ high = leb-true _ _ h.1 in omega arith

graphic_low : (b : ℕ) → is_ascii_graphic b ≡ true → b < 128
graphic_low b e = in_range 33 126 b (omega arith) e

either : (a b : Bool) {P : Type 0} → (a || b) ≡ true → (a ≡ true → P) → (b ≡ true → P) → P
either true b e f g = f refl
either false b e f g = g e

name_byte_low : (b : ℕ) → is_name_byte b ≡ true → b < 128
name_byte_low b e =
    either (is_ascii_lowercase b || is_ascii_digit b) (eqb b 95) e
    (λ k. either (is_ascii_lowercase b) (is_ascii_digit b) k (in_range 97 122 b (omega arith)) (in_range 48 57 b (omega arith)))
    (λ s. let is : b ≡ 95 = eqb-true b 95 s in omega arith)

pub id_is_utf8 : (t : Text) → is_id t ≡ true → is_utf8 t ≡ true
id_is_utf8 t e =
    let h = both_true (ltb 0 (length t) && leb (length t) 64) (list_all is_ascii_graphic t) e in
    low_is_utf8 t (low_bytes is_ascii_graphic graphic_low t h.1)

pub id_is_short : (t : Text) → is_id t ≡ true → length t < 2 ^ 32
id_is_short t e =
    let h = both_true (ltb 0 (length t) && leb (length t) 64) (list_all is_ascii_graphic t) e in
    let k = both_true (ltb 0 (length t)) (leb (length t) 64) h.0 in
    let le : length t ≤ 64 = leb-true _ _ k.1 in
    omega arith

pub name_is_text : (t : Text) → is_field_name t ≡ true → (length t < 2 ^ 32) × (is_utf8 t ≡ true)
name_is_text [] e = absurd cc
name_is_text (b ∷ bs) e =
    let h = both_true (has_name_form (b ∷ bs)) (not (same_text (b ∷ bs) (codes "id"))) e in
    let k = both_true (is_ascii_lowercase b && list_all is_name_byte bs) (leb (length bs) 31) h.0 in
    let m = both_true (is_ascii_lowercase b) (list_all is_name_byte bs) k.0 in
    let le : length bs ≤ 31 = leb-true _ _ k.1 in
    (omega arith, low_is_utf8 (b ∷ bs) (All-cons (λ c. c < 128) b bs (in_range 97 122 b (omega arith) m.0) (low_bytes is_name_byte name_byte_low bs m.1)))
