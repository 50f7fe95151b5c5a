-- The integer that a text is.
use Rattle.std.proofs.Common.{◌≡◌, ◌≢◌, ◌<◌, ◌^◌, ℕ, zero, suc, ℤ, pos, neg_ℤ, [], ◌∷◌, length, Option, Some, None, Result, Ok, Err, Bool, true, false, cond, eqb, ltb, leb, ◌&&◌, ◌||◌, ◌⊎◌, eqb-true, refl, sym, ap, ◌∙◌, eq-eqb, true≢false, inl, inr, arith, rules}
use Rattle.std.specs.Result.{OkIff, result_ok}
use Rattle.std.specs.List.{list_all}
use Rattle.std.specs.Char.{is_ascii_digit}
use Rattle.std.specs.Str.Parse.{ParsesSigned}
use Rattle.std.proofs.lemmas.Bool.{ne_eqb, cases_eq, and_parts, ltb-true, leb-true, lt-ltb, le-leb}
use Rattle.std.proofs.lemmas.Str.Parse.{IsNumeralModel, numerals_by_fold, parse_signed_plain, parse_signed_minus}
use mir.Syntax.{w64}
use Rattle.cat_model.specs.Text.{Text}
use Rattle.cat_model.specs.Grammar.{value_from}
use Rattle.cat_model.specs.Reader.{are_digits, integer_of}
use Rattle.cat_query.specs.Reading.{behind_byte}
use Rattle.cat_query.specs.Escapes.{unescaped_from, unescaped, is_escaped_from, is_escaped}
use Rattle.cat_query.proofs.Backslashes.{no_digit, no_minus}

own : IsNumeralModel (λ t. list_all is_ascii_digit t ≡ true) (value_from 0)
own = numerals_by_fold _ (search rules) value_from (search rules)

chosen : {E : Type 0} {P : Type 0} (b : Bool) (r : Result ℤ E) (x z : ℤ) → OkIff r P x → (b ≡ true → P) → (P → b ≡ true) → x ≡ z → result_ok r ≡ cond b (Some z) None
chosen true (Ok y) x z h to from e = ap (λ (n : ℤ). Some n) (h.1 ∙ e)
chosen true (Err f) x z h to from e = absurd (h (to refl))
chosen false (Ok y) x z h to from e = absurd (true≢false (sym (from h.0)))
chosen false (Err f) x z h to from e = refl

both : (a b : Bool) → a ≡ true → b ≡ true → (a && b) ≡ true
both true true p q = refl
both true false p q = q
both false b p q = absurd (true≢false (sym p))

nothing_is_none : {E : Type 0} (r : Result ℤ E) (P Q : Type 0) (x : ℤ) → OkIff r (P × (0 < 0) × Q) x → result_ok r ≡ None
nothing_is_none (Ok y) P Q x h = absurd (let bad = h.0.1 in omega arith)
nothing_is_none (Err e) P Q x h = refl

none : (x y : Bool) (o : Option ℤ) → cond ((x && false) && y) o None ≡ None
none true y o = refl
none false y o = refl

-- a first byte that is no digit and no `-`
no_integer : (b : ℕ) (bs : Text) → eqb b 45 ≡ false → is_ascii_digit b ≡ false → integer_of (b ∷ bs) ≡ None
unfolding integer_of
no_integer b bs p q = rw (p, q) (none (ltb 0 (length (b ∷ bs))) (ltb (value_from 0 (b ∷ bs)) (2 ^ 63)) (Some (pos (value_from 0 (b ∷ bs)))))

-- a `+` at the front is no digit
pub integer_plus : (rest : Text) → integer_of (43 ∷ rest) ≡ None
integer_plus rest = no_integer 43 rest refl refl

and_false : (a : Bool) → (a && false) ≡ false
and_false true = refl
and_false false = refl

-- what stands behind the first byte isn't all digits
no_digits : (b : ℕ) (bs : Text) → list_all is_ascii_digit bs ≡ false → integer_of (b ∷ bs) ≡ None
unfolding integer_of
no_digits b bs h = at (eqb b 45)
  where
    at : (v : Bool) → cond v (cond (are_digits bs && leb (value_from 0 bs) (2 ^ 63)) (Some (neg_ℤ (pos (value_from 0 bs)))) None) (cond (are_digits (b ∷ bs) && ltb (value_from 0 (b ∷ bs)) (2 ^ 63)) (Some (pos (value_from 0 (b ∷ bs)))) None) ≡ None
    at true = rw h (none (ltb 0 (length bs)) (leb (value_from 0 bs) (2 ^ 63)) (Some (neg_ℤ (pos (value_from 0 bs)))))
    at false = rw (h, and_false (is_ascii_digit b)) (none (ltb 0 (length (b ∷ bs))) (ltb (value_from 0 (b ∷ bs)) (2 ^ 63)) (Some (pos (value_from 0 (b ∷ bs)))))

-- the first escaped byte is a quote or a backslash
escaped_no_digits : (t : Text) → is_escaped_from true t ≡ true → list_all is_ascii_digit (unescaped_from true t) ≡ false
escaped_no_digits [] e = absurd cc
escaped_no_digits (b ∷ bs) e = rw (no_digit b (and_parts (eqb b 34 || eqb b 92) (is_escaped bs) e).0) refl

escaped_no_integer : (t : Text) → is_escaped_from true t ≡ true → integer_of (unescaped_from true t) ≡ None
escaped_no_integer [] e = absurd cc
escaped_no_integer (b ∷ bs) e =
    let first = (and_parts (eqb b 34 || eqb b 92) (is_escaped bs) e).0 in
    no_integer b (unescaped bs) (no_minus b first) (no_digit b first)

-- digits aren't escaped
digits_or_escapes : (t : Text) → is_escaped t ≡ true → (unescaped t ≡ t) ⊎ ((list_all is_ascii_digit t ≡ false) × (list_all is_ascii_digit (unescaped t) ≡ false))
digits_or_escapes [] e = inl refl
digits_or_escapes (b ∷ bs) e = at (digits_or_escapes bs) (eqb b 92) refl e
  where
    more : (unescaped bs ≡ bs) ⊎ ((list_all is_ascii_digit bs ≡ false) × (list_all is_ascii_digit (unescaped bs) ≡ false))
        → (b ∷ unescaped bs ≡ b ∷ bs) ⊎ ((list_all is_ascii_digit (b ∷ bs) ≡ false) × (list_all is_ascii_digit (b ∷ unescaped bs) ≡ false))
    more (inl same) = inl (ap (λ (x : Text). b ∷ x) same)
    more (inr (p, q)) = inr (rw p (and_false (is_ascii_digit b)), rw q (and_false (is_ascii_digit b)))

    at : (is_escaped bs ≡ true → (unescaped bs ≡ bs) ⊎ ((list_all is_ascii_digit bs ≡ false) × (list_all is_ascii_digit (unescaped bs) ≡ false)))
        → (v : Bool) → eqb b 92 ≡ v → cond v (is_escaped_from true bs) (is_escaped bs) ≡ true
        → (cond v (unescaped_from true bs) (b ∷ unescaped bs) ≡ b ∷ bs) ⊎ ((list_all is_ascii_digit (b ∷ bs) ≡ false) × (list_all is_ascii_digit (cond v (unescaped_from true bs) (b ∷ unescaped bs)) ≡ false))
    at later true q f = inr (rw (eqb-true b 92 q) refl, escaped_no_digits bs f)
    at later false q f = more (later f)

-- an escaped text is the integer that it is with its backslashes
pub integer_stays : (t : Text) → is_escaped t ≡ true → integer_of (unescaped t) ≡ integer_of t
integer_stays [] e = refl
integer_stays (b ∷ bs) e = at (eqb b 92) refl e
  where
    at : (v : Bool) → eqb b 92 ≡ v → cond v (is_escaped_from true bs) (is_escaped bs) ≡ true → integer_of (cond v (unescaped_from true bs) (b ∷ unescaped bs)) ≡ integer_of (b ∷ bs)
    at true q f = escaped_no_integer bs f ∙ sym (rw (eqb-true b 92 q) (no_integer 92 bs refl refl))
    at false q f = elim (digits_or_escapes bs f) [
      | inl same ↦ ap (λ (x : Text). integer_of (b ∷ x)) same
      | inr none ↦ no_digits b (unescaped bs) none.1 ∙ sym (no_digits b bs none.0)
    ]

pub parsed : {E : Type 0} (t : Text) (r : Result ℤ E) → ParsesSigned w64 10 t r → behind_byte 43 t ≡ None → result_ok r ≡ integer_of t
unfolding integer_of
parsed [] r h n = nothing_is_none r _ _ _ (parse_signed_plain own w64 [] r h (omega arith) (omega arith))
parsed (b ∷ bs) r h n = elim (cases_eq b 45) [
  | inl e ↦
      rw (eq-eqb b 45 e)
      (chosen (are_digits bs && leb (value_from 0 bs) (2 ^ 63)) r (neg_ℤ (pos (value_from 0 bs))) (neg_ℤ (pos (value_from 0 bs))) (parse_signed_minus own w64 (b ∷ bs) r h e)
      (λ t. let p = and_parts (are_digits bs) (leb (value_from 0 bs) (2 ^ 63)) t in let q = and_parts (ltb 0 (length bs)) (list_all is_ascii_digit bs) p.0 in (q.1, ltb-true 0 (length bs) q.0, leb-true (value_from 0 bs) (2 ^ 63) p.1))
      (λ p. both (are_digits bs) (leb (value_from 0 bs) (2 ^ 63)) (both (ltb 0 (length bs)) (list_all is_ascii_digit bs) (lt-ltb 0 (length bs) p.1) p.0) (le-leb (value_from 0 bs) (2 ^ 63) p.2))
      refl)
  | inr e ↦
      rw (ne_eqb b 45 e)
      (chosen (are_digits (b ∷ bs) && ltb (value_from 0 (b ∷ bs)) (2 ^ 63)) r (pos (value_from 0 (b ∷ bs))) (pos (value_from 0 (b ∷ bs))) (parse_signed_plain own w64 (b ∷ bs) r h (no_plus n) e)
      (λ t. let p = and_parts (are_digits (b ∷ bs)) (ltb (value_from 0 (b ∷ bs)) (2 ^ 63)) t in let q = and_parts (ltb 0 (length (b ∷ bs))) (list_all is_ascii_digit (b ∷ bs)) p.0 in (q.1, ltb-true 0 (length (b ∷ bs)) q.0, ltb-true (value_from 0 (b ∷ bs)) (2 ^ 63) p.1))
      (λ p. both (are_digits (b ∷ bs)) (ltb (value_from 0 (b ∷ bs)) (2 ^ 63)) (both (ltb 0 (length (b ∷ bs))) (list_all is_ascii_digit (b ∷ bs)) (lt-ltb 0 (length (b ∷ bs)) p.1) p.0) (lt-ltb (value_from 0 (b ∷ bs)) (2 ^ 63) p.2))
      refl)
]
  where
    no_plus : behind_byte 43 (b ∷ bs) ≡ None → b ≢ 43
    no_plus n e = let bad : cond (eqb b 43) (Some bs) None ≡ None = n in absurd (let there = rw (eq-eqb b 43 e) at bad in cc)
