-- What the values of query texts mean, and terms: what is read is so, and what is so is read.
use Rattle.std.proofs.Common.{◌≡◌, ◌≢◌, ℕ, ◌^◌, ◌<◌, List, [], ◌∷◌, ◌++◌, length, take, drop, Result, Ok, Err, Option, Some, None, Bool, true, false, ltb, leb, eqb, cond, ◌&&◌, ◌⊎◌, inl, inr, refl, sym, ap, subst, ◌∙◌, arith}
use Rattle.std.proofs.lemmas.Bool.{ne_eqb, eqb-true, eqb-false, ltb-true, leb-true, lt-ltb, le-leb, and_parts, and_from}
use Rattle.std.proofs.lemmas.List.{take-append-drop, take_at, drop_at}
use Rattle.std.specs.Prelude.{ℤ, pos, neg_ℤ, option_map, IsTrue}
use Rattle.std.specs.List.{AllByRecursion, prefix_len, list_all}
use Rattle.std.specs.Char.{is_ascii_digit}
use Rattle.cat_model.specs.Text.{Text}
use Rattle.cat_model.specs.Item.{Schema, Kind, kind_of, is_name_byte}
use Rattle.cat_model.specs.Query.{Primary}
use Rattle.cat_model.specs.Words.{words, lowered, is_word_byte}
use Rattle.cat_model.specs.Grammar.{Asks, value_from, AreSome, IsInteger, below, IsBound, Means, clauses_in, depth_in}
use Rattle.cat_model.specs.Faults.{IsWhole}
use Rattle.cat_model.specs.Reader.{◌>>=◌, or_fault, only_word, are_digits, integer_of, bound_of, meaning, value_at, name_at, behind_name, colon_at, term_at}
use Rattle.cat_model.proofs.QueryValues.{chosen, if_some, some_is, map_some, and_then_some, Stops, run_len, run_all, run_stops, value_sound, whole_complete}

-- ---- tests of all bytes

all_passed : (p : ℕ → Bool) (t : Text) → list_all p t ≡ true → AllByRecursion (λ b. IsTrue (p b)) t
all_passed p [] e = tt
all_passed p (b ∷ t) e = let x = and_parts (p b) (list_all p t) e in (x.0, all_passed p t x.1)

all_pass : (p : ℕ → Bool) (t : Text) → AllByRecursion (λ b. IsTrue (p b)) t → list_all p t ≡ true
all_pass p [] all = refl
all_pass p (b ∷ t) all = and_from (p b) (list_all p t) all.0 (all_pass p t all.1)

-- ---- integers

digits_sound : (t : Text) → are_digits t ≡ true → AreSome is_ascii_digit t
digits_sound t e =
    let x = and_parts (ltb 0 (length t)) (list_all is_ascii_digit t) e in
    let some : 0 < length t = ltb-true 0 (length t) x.0 in
    (λ h. let none : length t ≡ 0 = ap length h in absurd (omega arith), all_passed is_ascii_digit t x.1)

digits_complete : (t : Text) → AreSome is_ascii_digit t → are_digits t ≡ true
digits_complete [] d = absurd (d.0 refl)
digits_complete (b ∷ t) d = and_from (ltb 0 (length (b ∷ t))) (list_all is_ascii_digit (b ∷ t)) (lt-ltb 0 (length (b ∷ t)) (omega arith)) (all_pass is_ascii_digit (b ∷ t) d.1)

pub integer_sound : (t : Text) (z : ℤ) → integer_of t ≡ Some z → IsInteger t z
unfolding integer_of
integer_sound [] z e = absurd cc
integer_sound (b ∷ bs) z e =
    elim (chosen (eqb b 45) (cond (are_digits bs && leb (value_from 0 bs) (2 ^ 63)) (Some (neg_ℤ (pos (value_from 0 bs)))) None) (cond (are_digits (b ∷ bs) && ltb (value_from 0 (b ∷ bs)) (2 ^ 63)) (Some (pos (value_from 0 (b ∷ bs)))) None) (Some z) e) [
      | inl h ↦
          let g = if_some (are_digits bs && leb (value_from 0 bs) (2 ^ 63)) (Some (neg_ℤ (pos (value_from 0 bs)))) z h.1 in
          let d = and_parts (are_digits bs) (leb (value_from 0 bs) (2 ^ 63)) g.0 in
          subst (λ (x : ℤ). IsInteger (b ∷ bs) x) (some_is (neg_ℤ (pos (value_from 0 bs))) z g.1)
          (subst (λ (x : ℕ). IsInteger (x ∷ bs) (neg_ℤ (pos (value_from 0 bs)))) (sym (eqb-true b 45 h.0)) (below bs (digits_sound bs d.0) (leb-true (value_from 0 bs) (2 ^ 63) d.1)))
      | inr h ↦
          let g = if_some (are_digits (b ∷ bs) && ltb (value_from 0 (b ∷ bs)) (2 ^ 63)) (Some (pos (value_from 0 (b ∷ bs)))) z h.1 in
          let d = and_parts (are_digits (b ∷ bs)) (ltb (value_from 0 (b ∷ bs)) (2 ^ 63)) g.0 in
          subst (λ (x : ℤ). IsInteger (b ∷ bs) x) (some_is (pos (value_from 0 (b ∷ bs))) z g.1)
          (IsInteger.not_below (b ∷ bs) (digits_sound (b ∷ bs) d.0) (ltb-true (value_from 0 (b ∷ bs)) (2 ^ 63) d.1))
    ]

no_minus : (b : ℕ) → is_ascii_digit b ≡ true → eqb b 45 ≡ false
no_minus b e = ne_eqb b 45 (λ h. clash (ap is_ascii_digit (sym h) ∙ e))
  where
    clash : is_ascii_digit 45 ≡ true → ⊥
    clash x = cc

pub integer_complete : {t : Text} {z : ℤ} → IsInteger t z → integer_of t ≡ Some z
unfolding integer_of
integer_complete (IsInteger.not_below [] d h) = absurd (d.0 refl)
integer_complete (IsInteger.not_below (b ∷ bs) d h) =
    let test : (are_digits (b ∷ bs) && ltb (value_from 0 (b ∷ bs)) (2 ^ 63)) ≡ true = and_from (are_digits (b ∷ bs)) (ltb (value_from 0 (b ∷ bs)) (2 ^ 63)) (digits_complete (b ∷ bs) d) (lt-ltb (value_from 0 (b ∷ bs)) (2 ^ 63) h) in
    rw (no_minus b d.1.0) (some_if (are_digits (b ∷ bs) && ltb (value_from 0 (b ∷ bs)) (2 ^ 63)) (pos (value_from 0 (b ∷ bs))) test)
  where
    some_if : (v : Bool) (z : ℤ) → v ≡ true → cond v (Some z) None ≡ Some z
    some_if v z e = rw e refl
integer_complete (below t d h) =
    some_if (are_digits t && leb (value_from 0 t) (2 ^ 63)) (neg_ℤ (pos (value_from 0 t))) (and_from (are_digits t) (leb (value_from 0 t) (2 ^ 63)) (digits_complete t d) (le-leb (value_from 0 t) (2 ^ 63) h))
  where
    some_if : (v : Bool) (z : ℤ) → v ≡ true → cond v (Some z) None ≡ Some z
    some_if v z e = rw e refl

bound_sound : (o : Option Text) (a : Option ℤ) → bound_of o ≡ Some a → IsBound o a
bound_sound None None e = tt
bound_sound None (Some z) e = absurd cc
bound_sound (Some t) None e = absurd (let m = map_some (λ (z : ℤ). Some z) (integer_of t) None e in let bad = m.2 in cc)
bound_sound (Some t) (Some z) e =
    let m = map_some (λ (z : ℤ). Some z) (integer_of t) (Some z) e in
    integer_sound t z (m.1 ∙ m.2)

bound_complete : (o : Option Text) (a : Option ℤ) → IsBound o a → bound_of o ≡ Some a
bound_complete None None h = refl
bound_complete None (Some z) h = absurd h
bound_complete (Some t) None h = absurd h
bound_complete (Some t) (Some z) h = ap (option_map (λ (z : ℤ). Some z)) (integer_complete h)

-- ---- meanings

one_word : (f t : Text) (ws : List Text) (p : Primary) → words t ≡ ws → only_word f ws ≡ Some p → Means f Kind.text (Asks.is t) p
one_word f t [] p e h = absurd cc
one_word f t (w ∷ []) p e h = subst (λ (x : Primary). Means f Kind.text (Asks.is t) x) (some_is (Primary.word f w) p h) (Means.word t w e)
one_word f t (w ∷ v ∷ ws) p e h = absurd cc

pub meaning_sound : (f : Text) (k : Kind) (a : Asks) (p : Primary) → meaning f k a ≡ Some p → Means f k a p
unfolding meaning
meaning_sound f Kind.text (Asks.is t) p e = one_word f t (words t) p refl e
meaning_sound f Kind.text (Asks.begins t) p e =
    let g = if_some (list_all is_word_byte t) (Some (Primary.word_prefix f (lowered t))) p e in
    subst (λ (x : Primary). Means f Kind.text (Asks.begins t) x) (some_is (Primary.word_prefix f (lowered t)) p g.1) (Means.word_prefix t (all_passed is_word_byte t g.0))
meaning_sound f Kind.text (Asks.between low high) p e = absurd cc
meaning_sound f Kind.keyword (Asks.is t) p e = subst (λ (x : Primary). Means f Kind.keyword (Asks.is t) x) (some_is (Primary.keyword f t) p e) (Means.keyword t)
meaning_sound f Kind.keyword (Asks.begins t) p e = subst (λ (x : Primary). Means f Kind.keyword (Asks.begins t) x) (some_is (Primary.keyword_prefix f t) p e) (Means.keyword_prefix t)
meaning_sound f Kind.keyword (Asks.between low high) p e = subst (λ (x : Primary). Means f Kind.keyword (Asks.between low high) x) (some_is (Primary.keyword_range f low high) p e) (Means.keyword_range low high)
meaning_sound f Kind.number (Asks.is t) p e =
    let m = map_some (λ (z : ℤ). Primary.number f z) (integer_of t) p e in
    subst (λ (x : Primary). Means f Kind.number (Asks.is t) x) m.2 (Means.number t m.0 (integer_sound t m.0 m.1))
meaning_sound f Kind.number (Asks.begins t) p e = absurd cc
meaning_sound f Kind.number (Asks.between low high) p e =
    let m = and_then_some (λ (a : Option ℤ). option_map (λ (b : Option ℤ). Primary.number_range f a b) (bound_of high)) (bound_of low) p e in
    let n = map_some (λ (b : Option ℤ). Primary.number_range f m.0 b) (bound_of high) p m.2 in
    subst (λ (x : Primary). Means f Kind.number (Asks.between low high) x) n.2 (Means.number_range low high m.0 n.0 (bound_sound low m.0 m.1) (bound_sound high n.0 n.1))
meaning_sound f Kind.facet (Asks.is t) p e = subst (λ (x : Primary). Means f Kind.facet (Asks.is t) x) (some_is (Primary.label f t) p e) (Means.label t)
meaning_sound f Kind.facet (Asks.begins t) p e = subst (λ (x : Primary). Means f Kind.facet (Asks.begins t) x) (some_is (Primary.label_prefix f t) p e) (Means.label_prefix t)
meaning_sound f Kind.facet (Asks.between low high) p e = absurd cc

pub meaning_complete : {f : Text} {k : Kind} {a : Asks} {p : Primary} → Means f k a p → meaning f k a ≡ Some p
unfolding meaning
meaning_complete {f} (Means.word t w e) = ap (only_word f) e
meaning_complete (Means.word_prefix t all) = rw (all_pass is_word_byte t all) refl
meaning_complete (Means.keyword t) = refl
meaning_complete (Means.keyword_prefix t) = refl
meaning_complete (Means.keyword_range low high) = refl
meaning_complete {f} (Means.number t z n) = ap (option_map (λ (z : ℤ). Primary.number f z)) (integer_complete n)
meaning_complete (Means.number_range low high a b x y) = rw (bound_complete low a x, bound_complete high b y) refl
meaning_complete (Means.label t) = refl
meaning_complete (Means.label_prefix t) = refl

-- ---- results

abbrev pub done : {A : Type 0} → A → Result A ℕ
done x = Ok x

abbrev pub failed : {A : Type 0} → ℕ → Result A ℕ
failed n = Err n

pub ok_is : {A : Type 0} (x y : A) → done x ≡ done y → x ≡ y
ok_is x y e = cc

pub ok_not_err : {A : Type 0} (x : A) (n : ℕ) → done x ≡ failed n → ⊥
ok_not_err x n e = cc

-- what is read is so, or else the number of bytes left is so
abbrev pub Yields : {A : Type 0} → (ℕ → Type 0) → (A → Type 0) → Result A ℕ → Type 0
Yields F P (Ok x) = P x
Yields F P (Err left) = F left

pub yields_bind : {A B : Type 0} (F : ℕ → Type 0) (P : A → Type 0) (Q : B → Type 0) (r : Result A ℕ) (f : A → Result B ℕ) → Yields F P r → ((x : A) → P x → Yields F Q (f x)) → Yields F Q (r >>= f)
yields_bind F P Q (Ok x) f so go = go x so
yields_bind F P Q (Err left) f so go = so

pub bind_ok : {A B : Type 0} (r : Result A ℕ) (f : A → Result B ℕ) (y : B) → (r >>= f) ≡ Ok y → (x : A) × (r ≡ Ok x) × (f x ≡ Ok y)
bind_ok (Ok x) f y e = (x, refl, e)
bind_ok (Err d) f y e = absurd cc

or_fault_ok : {A : Type 0} (n : ℕ) (o : Option A) (x : A) → or_fault n o ≡ Ok x → o ≡ Some x
or_fault_ok n None x e = absurd cc
or_fault_ok n (Some y) x e = ap (λ z. Some z) (ok_is y x e)

pub option_cases : {A : Type 0} (o : Option A) → (o ≡ None) ⊎ ((x : A) × (o ≡ Some x))
option_cases None = inl refl
option_cases (Some x) = inr (x, refl)

some_not_none : {A : Type 0} (o : Option A) (x : A) → o ≡ Some x → o ≡ None → ⊥
some_not_none o x e f = cc

-- ---- names

module _ (name rest : Text) (named : AllByRecursion (λ b. IsTrue (is_name_byte b)) name) (stops : Stops is_name_byte rest) where
  pub name_is : name_at (name ++ rest) ≡ name
  name_is = ap (λ n. take n (name ++ rest)) (run_len is_name_byte name rest named stops) ∙ take_at name rest (length name) refl

  pub behind_is : behind_name (name ++ rest) ≡ rest
  behind_is = ap (λ n. drop n (name ++ rest)) (run_len is_name_byte name rest named stops) ∙ drop_at name rest (length name) refl

pub name_parts : (text : Text) → text ≡ name_at text ++ behind_name text
name_parts text = sym (take-append-drop (prefix_len is_name_byte text) text)

pub name_all : (text : Text) → AllByRecursion (λ b. IsTrue (is_name_byte b)) (name_at text)
name_all text = run_all is_name_byte text

pub name_stops : (text : Text) → Stops is_name_byte (behind_name text)
name_stops text = run_stops is_name_byte text

-- ---- terms

pub record Term (schema : Schema) (text : Text) (p : Primary) (rest : Text) : Type 0 where
  pub name : Text
  pub value : Text
  pub kind : Kind
  pub asks : Asks
  pub parts : text ≡ name ++ (58 ∷ (value ++ rest))
  pub named : AllByRecursion (λ b. IsTrue (is_name_byte b)) name
  pub field : kind_of schema name ≡ Some kind
  pub whole : IsWhole value rest asks
  pub means : Means name kind asks p

colon_cases : (text : Text) → ((behind : Text) × (text ≡ 58 ∷ behind)) ⊎ ((behind : Text) → text ≢ 58 ∷ behind)
colon_cases [] = inr (λ behind e. absurd cc)
colon_cases (b ∷ bs) = colon_test (eqb b 58) refl
  where
    colon_test : (v : Bool) → eqb b 58 ≡ v → ((behind : Text) × (b ∷ bs ≡ 58 ∷ behind)) ⊎ ((behind : Text) → b ∷ bs ≢ 58 ∷ behind)
    colon_test true e = inl (bs, ap (λ (x : ℕ). x ∷ bs) (eqb-true b 58 e))
    colon_test false e = inr (λ behind f. let same : b ≡ 58 = cc f in eqb-false b 58 e same)

no_colon : (left : ℕ) (text : Text) → ((behind : Text) → text ≢ 58 ∷ behind) → colon_at left text ≡ Err left
no_colon left [] none = refl
no_colon left (b ∷ bs) none = rw (ne_eqb b 58 (λ e. none bs (ap (λ (x : ℕ). x ∷ bs) e))) refl

-- what is read behind the colon
unfoldable pub value_of : Text → Kind → Text → Result (Primary × Text) ℕ
value_of name kind behind = or_fault (length behind) (value_at behind) >>= λ value. or_fault (length behind) (meaning name kind value.0) >>= λ p. Ok (p, value.1)

module _ (schema : Schema) (text : Text) where
  term_with : (kind : Kind) (behind : Text) → kind_of schema (name_at text) ≡ Some kind → behind_name text ≡ 58 ∷ behind → term_at schema text ≡ value_of (name_at text) kind behind
  unfolding term_at value_of
  term_with kind behind e f = rw (e, f) refl

  pub term_no_field : kind_of schema (name_at text) ≡ None → term_at schema text ≡ Err (length text)
  unfolding term_at
  term_no_field e = rw e refl

  pub term_no_colon : ((behind : Text) → behind_name text ≢ 58 ∷ behind) → term_at schema text ≡ Err (length text)
  unfolding term_at
  term_no_colon none = elim (option_cases (kind_of schema (name_at text))) [
    | inl e ↦ rw e refl
    | inr e ↦ let f = no_colon (length text) (behind_name text) none in rw (e.1, f) refl
  ]

-- no text behind the colon is a value that means something in the field
abbrev pub NoValue : Text → Kind → Text → Type 0
NoValue name kind behind = (t rest : Text) (a : Asks) (p : Primary) → behind ≡ t ++ rest → IsWhole t rest a → Means name kind a p → ⊥

value_of_sound : (name : Text) (kind : Kind) (behind : Text) (p : Primary) (rest : Text) → value_of name kind behind ≡ Ok (p, rest) → (t : Text) × (a : Asks) × (behind ≡ t ++ rest) × IsWhole t rest a × Means name kind a p
unfolding value_of
value_of_sound name kind behind p rest e =
    let x = bind_ok (or_fault (length behind) (value_at behind)) (λ value. or_fault (length behind) (meaning name kind value.0) >>= λ p. Ok (p, value.1)) (p, rest) e in
    let y = bind_ok (or_fault (length behind) (meaning name kind x.0.0)) (λ p. Ok (p, x.0.1)) (p, rest) x.2 in
    let made = ok_is (y.0, x.0.1) (p, rest) y.2 in
    let p-is : y.0 ≡ p = ap (λ (q : Primary × Text). q.0) made in
    let rest-is : x.0.1 ≡ rest = ap (λ (q : Primary × Text). q.1) made in
    let v = value_sound behind x.0.0 x.0.1 (or_fault_ok (length behind) (value_at behind) x.0 x.1) in (
      v.0,
      x.0.0,
      v.1 ∙ ap (λ (r : Text). v.0 ++ r) rest-is,
      subst (λ (r : Text). IsWhole v.0 r x.0.0) rest-is v.2,
      subst (λ (q : Primary). Means name kind x.0.0 q) p-is (meaning_sound name kind x.0.0 y.0 (or_fault_ok (length behind) (meaning name kind x.0.0) y.0 y.1)),
    )

pub value_of_complete : (name : Text) (kind : Kind) (t rest : Text) (a : Asks) (p : Primary) → IsWhole t rest a → Means name kind a p → value_of name kind (t ++ rest) ≡ Ok (p, rest)
unfolding value_of
value_of_complete name kind t rest a p whole means = rw (whole_complete whole, meaning_complete means) refl

or_fault_cases : {A B : Type 0} (n : ℕ) (o : Option A) (f : A → Result B ℕ) → ((x : A) → (f x ≡ Err n) ⊎ ((y : B) × (f x ≡ Ok y))) → ((or_fault n o >>= f) ≡ Err n) ⊎ ((y : B) × ((or_fault n o >>= f) ≡ Ok y))
or_fault_cases n None f cases = inl refl
or_fault_cases n (Some x) f cases = cases x

-- a fault behind the colon has its place there
value_of_cases : (name : Text) (kind : Kind) (behind : Text) → (value_of name kind behind ≡ Err (length behind)) ⊎ ((x : Primary × Text) × (value_of name kind behind ≡ Ok x))
unfolding value_of
value_of_cases name kind behind =
    or_fault_cases (length behind) (value_at behind) (λ value. or_fault (length behind) (meaning name kind value.0) >>= λ p. Ok (p, value.1)) (λ value.
    or_fault_cases (length behind) (meaning name kind value.0) (λ p. Ok (p, value.1)) (λ p. inr ((p, value.1), refl)))

err_is : {A : Type 0} (r : Result A ℕ) (m n : ℕ) → r ≡ Err m → r ≡ Err n → n ≡ m
err_is r m n e f = cc

value_of_fails : (name : Text) (kind : Kind) (behind : Text) (n : ℕ) → value_of name kind behind ≡ Err n → (n ≡ length behind) × NoValue name kind behind
value_of_fails name kind behind n e = (
  elim (value_of_cases name kind behind) [
    | inl f ↦ err_is (value_of name kind behind) (length behind) n f e
    | inr f ↦ absurd (ok_not_err f.0 n (sym f.1 ∙ e))
  ],
  λ t rest a p parts whole means. ok_not_err (p, rest) n (sym (ap (value_of name kind) parts ∙ value_of_complete name kind t rest a p whole means) ∙ e),
)

pub value_of_none : (name : Text) (kind : Kind) (behind : Text) → NoValue name kind behind → value_of name kind behind ≡ Err (length behind)
value_of_none name kind behind none = elim (value_of_cases name kind behind) [
  | inl f ↦ f
  | inr f ↦ let v = value_of_sound name kind behind f.0.0 f.0.1 f.1 in absurd (none v.0 f.0.1 v.1 f.0.0 v.2 v.3 v.4)
]

pub term_no_value : (schema : Schema) (text : Text) (kind : Kind) (behind : Text) → kind_of schema (name_at text) ≡ Some kind → behind_name text ≡ 58 ∷ behind → NoValue (name_at text) kind behind → term_at schema text ≡ Err (length behind)
term_no_value schema text kind behind e f none = term_with schema text kind behind e f ∙ value_of_none (name_at text) kind behind none

-- a name that isn't a field or isn't followed by a colon
pub record NoField (schema : Schema) (text : Text) (n : ℕ) : Type 0 where
  pub left : n ≡ length text
  pub wrong : (kind_of schema (name_at text) ≡ None) ⊎ ((behind : Text) → behind_name text ≢ 58 ∷ behind)

-- a wrong value
pub record WrongValue (schema : Schema) (text : Text) (n : ℕ) : Type 0 where
  pub kind : Kind
  pub behind : Text
  pub field : kind_of schema (name_at text) ≡ Some kind
  pub colon : behind_name text ≡ 58 ∷ behind
  pub left : n ≡ length behind
  pub none : NoValue (name_at text) kind behind

pub term_fails : (schema : Schema) (text : Text) (n : ℕ) → term_at schema text ≡ Err n → NoField schema text n ⊎ WrongValue schema text n
term_fails schema text n e = elim (option_cases (kind_of schema (name_at text))) [
  | inl f ↦ inl (record { left = err_is (term_at schema text) (length text) n (term_no_field schema text f) e; wrong = inl f })
  | inr f ↦ elim (colon_cases (behind_name text)) [
    | inl c ↦
        let v = value_of_fails (name_at text) f.0 c.0 n (sym (term_with schema text f.0 c.0 f.1 c.1) ∙ e) in
        inr (record { kind = f.0; behind = c.0; field = f.1; colon = c.1; left = v.0; none = v.1 })
    | inr c ↦ inl (record { left = err_is (term_at schema text) (length text) n (term_no_colon schema text c) e; wrong = inr c })
  ]
]

pub term_sound : (schema : Schema) (text : Text) (p : Primary) (rest : Text) → term_at schema text ≡ Ok (p, rest) → Term schema text p rest
term_sound schema text p rest e = elim (option_cases (kind_of schema (name_at text))) [
  | inl f ↦ absurd (ok_not_err (p, rest) (length text) (sym e ∙ term_no_field schema text f))
  | inr f ↦ elim (colon_cases (behind_name text)) [
    | inl c ↦
        let v = value_of_sound (name_at text) f.0 c.0 p rest (sym (term_with schema text f.0 c.0 f.1 c.1) ∙ e) in
        record {
          name = name_at text;
          value = v.0;
          kind = f.0;
          asks = v.1;
          parts = name_parts text ∙ ap (λ (x : Text). name_at text ++ x) (c.1 ∙ ap (λ (x : Text). 58 ∷ x) v.2);
          named = name_all text;
          field = f.1;
          whole = v.3;
          means = v.4;
        }
    | inr c ↦ absurd (ok_not_err (p, rest) (length text) (sym e ∙ term_no_colon schema text c))
  ]
]

pub term_complete : (schema : Schema) (name t rest : Text) (k : Kind) (a : Asks) (p : Primary) → AllByRecursion (λ b. IsTrue (is_name_byte b)) name → kind_of schema name ≡ Some k → IsWhole t rest a → Means name k a p
    → term_at schema (name ++ (58 ∷ (t ++ rest))) ≡ Ok (p, rest)
term_complete schema name t rest k a p named field whole means =
    let text : Text = name ++ (58 ∷ (t ++ rest)) in
    let is : name_at text ≡ name = name_is name (58 ∷ (t ++ rest)) named refl in
    term_with schema text k (t ++ rest) (ap (kind_of schema) is ∙ field) (behind_is name (58 ∷ (t ++ rest)) named refl)
    ∙ ap (λ (n : Text). value_of n k (t ++ rest)) is ∙ value_of_complete name k t rest a p whole means

-- what a value means is no group
pub means_leaf : {f : Text} {k : Kind} {a : Asks} {p : Primary} → Means f k a p → (clauses_in p ≡ 0) × (depth_in p ≡ 0)
means_leaf (Means.word t w e) = (refl, refl)
means_leaf (Means.word_prefix t all) = (refl, refl)
means_leaf (Means.keyword t) = (refl, refl)
means_leaf (Means.keyword_prefix t) = (refl, refl)
means_leaf (Means.keyword_range low high) = (refl, refl)
means_leaf (Means.number t z n) = (refl, refl)
means_leaf (Means.number_range low high a b x y) = (refl, refl)
means_leaf (Means.label t) = (refl, refl)
means_leaf (Means.label_prefix t) = (refl, refl)
