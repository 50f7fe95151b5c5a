-- What a number is spelled by: digits, and so neither a space nor a line feed.
use Rattle.std.proofs.Common.{suc, ◌≡◌, ◌≢◌, ℕ, ℤ, ◌≤◌, ◌<◌, List, [], ◌∷◌, ◌++◌, arith}
use Rattle.std.specs.Prelude.{pos, negsuc, zero, true, false, cond, ◌==◌, ◌/◌, ◌%◌, nat_lt}
use Rattle.std.specs.List.{AllByRecursion}
use Rattle.std.specs.Fmt.{decimal, signed_decimal, digits, digits_onto, digit_glyph}
use Rattle.std.proofs.lemmas.Bool.Decides.{nat_tests}
use Rattle.cat_model.specs.Text.{IsOneLine}
use Rattle.cat_model.proofs.Lists.{All-weaken}

-- a byte from 0 to 9
pub record IsDigit (b : ℕ) : Type 0 where
  pub low : 48 ≤ b
  pub high : b ≤ 57

glyph : (d : ℕ) → d < 10 → IsDigit (digit_glyph false d)
glyph d h = let e : nat_lt d 10 ≡ true = grind (arith, nat_tests) in rw e (record { low = omega arith; high = omega arith })

onto : (k n : ℕ) (acc : List ℕ) → AllByRecursion IsDigit acc → AllByRecursion IsDigit (digits_onto k 10 false n acc)
onto zero n acc a = a
onto (suc k) n acc a =
    let g : IsDigit (digit_glyph false (n % 10)) = glyph (n % 10) (omega arith) in
    elim (n / 10 == 0) as (λ b. AllByRecursion IsDigit (cond b (digit_glyph false (n % 10) ∷ acc) (digits_onto k 10 false (n / 10) (digit_glyph false (n % 10) ∷ acc)))) [
      | true ↦ (g, a)
      | false ↦ onto k (n / 10) (digit_glyph false (n % 10) ∷ acc) (g, a)
    ]

pub decimal_digits : (n : ℕ) → AllByRecursion IsDigit (decimal n)
unfolding digits
decimal_digits n = onto 64 n [] tt

digit_in_line : (b : ℕ) → IsDigit b → b ≢ 10
digit_in_line b d e = omega (arith, d.low, e)

pub decimal_one_line : (n : ℕ) → IsOneLine (decimal n)
decimal_one_line n = All-weaken IsDigit (λ b. b ≢ 10) digit_in_line (decimal n) (decimal_digits n)

digit_in_word : (b : ℕ) → IsDigit b → b ≢ 32
digit_in_word b d e = omega (arith, d.low, e)

pub decimal_one_word : (n : ℕ) → AllByRecursion (λ b. b ≢ 32) (decimal n)
decimal_one_word n = All-weaken IsDigit (λ b. b ≢ 32) digit_in_word (decimal n) (decimal_digits n)

pub signed_one_line : (z : ℤ) → IsOneLine (signed_decimal z)
signed_one_line (pos n) = decimal_one_line n
signed_one_line (negsuc n) = (λ e. omega (arith, e), decimal_one_line (suc n))

-- the text begins with a digit
abbrev pub StartsDigit : List ℕ → Type 0
StartsDigit [] = ⊥
StartsDigit (b ∷ bs) = IsDigit b

onto_starts : (k n : ℕ) (acc : List ℕ) → StartsDigit acc → StartsDigit (digits_onto k 10 false n acc)
onto_starts zero n acc a = a
onto_starts (suc k) n acc a =
    let g : IsDigit (digit_glyph false (n % 10)) = glyph (n % 10) (omega arith) in
    elim (n / 10 == 0) as (λ b. StartsDigit (cond b (digit_glyph false (n % 10) ∷ acc) (digits_onto k 10 false (n / 10) (digit_glyph false (n % 10) ∷ acc)))) [
      | true ↦ g
      | false ↦ onto_starts k (n / 10) (digit_glyph false (n % 10) ∷ acc) g
    ]

onto_some : (k n : ℕ) → StartsDigit (digits_onto (suc k) 10 false n [])
onto_some k n =
    let g : IsDigit (digit_glyph false (n % 10)) = glyph (n % 10) (omega arith) in
    elim (n / 10 == 0) as (λ b. StartsDigit (cond b (digit_glyph false (n % 10) ∷ []) (digits_onto k 10 false (n / 10) (digit_glyph false (n % 10) ∷ [])))) [
      | true ↦ g
      | false ↦ onto_starts k (n / 10) (digit_glyph false (n % 10) ∷ []) g
    ]

pub decimal_starts : (n : ℕ) → StartsDigit (decimal n)
unfolding digits
decimal_starts n = onto_some 63 n

pub not_letter : (t r q : List ℕ) (b : ℕ) → StartsDigit t → 58 ≤ b → t ++ r ≡ b ∷ q → ⊥
not_letter [] r q b d h e = d
not_letter (c ∷ t) r q b d h e = let same : c ≡ b = cc e in omega (arith, d.high, h, same)
