-- A text of decimal digits, as it is written and as it is parsed.
use Rattle.std.proofs.Common.{◌≡◌, ◌≢◌, ℕ, zero, suc, ◌<◌, ◌^◌, List, length, sym, ◌∙◌, ap, arith}
use Rattle.std.specs.Prelude.{Result, Ok, Err, get_or}
use Rattle.std.specs.Fmt.{decimal}
use Rattle.std.specs.Str.Parse.{ParsesUnsigned, AllDigits, digits_value}
use Rattle.std.proofs.lemmas.Fmt.{decimal_is_IsNumeral, decimal_digit, decimal_nonempty, first_decimal, decimal-digits_value, parse-decimal}
use Rattle.std.proofs.lemmas.Str.Parse.{IsNumeralModel, numerals_by_value, tells_digits, parse_plain, digit_at}

own : IsNumeralModel (AllDigits 10) (digits_value 10)
own = numerals_by_value (AllDigits 10) tells_digits

-- a number has no sign
pub decimal_no_plus : (text : List ℕ) (n : ℕ) → n < 2 ^ 64 → text ≡ decimal n → get_or text 0 0 ≢ 43
decimal_no_plus text n h e plus =
    let range = digit_at (decimal n) 0 (decimal_is_IsNumeral n h).0.1 (decimal_nonempty n h) in
    let first = ap (λ (t : List ℕ). get_or t 0 0) e in
    omega (arith, range.0, first, plus)

-- and no leading zero
pub decimal_no_zero : (text : List ℕ) (n : ℕ) → n < 2 ^ 64 → text ≡ decimal n → get_or text 0 0 ≡ 48 → 1 < length text → ⊥
decimal_no_zero text zero h e first long =
    let same = ap length (e ∙ decimal_digit 0 (omega arith)) in
    omega (arith, same, long)
decimal_no_zero text (suc n) h e first long =
    let above = first_decimal (suc n) (omega arith) h in
    let same = ap (λ (t : List ℕ). get_or t 0 0) e in
    omega (arith, above, same, first)

-- a text without either is what is written of the number that is parsed
pub parsed_is_decimal : {E : Type 0} (text : List ℕ) (r : Result ℕ E) (n : ℕ) → ParsesUnsigned 64 10 text r → r ≡ Ok n
    → get_or text 0 0 ≢ 43 → (get_or text 0 0 ≡ 48 → 1 < length text → ⊥) → text ≡ decimal n
parsed_is_decimal text (Err e) n h is plus zeros = cc
parsed_is_decimal {E = E} text (Ok m) n h is plus zeros =
    let plain = parse_plain own {E = E} 64 text (Ok m) h plus in
    let same : m ≡ n = cc in
    let written = decimal-digits_value own text plain.0.0 plain.0.1 (λ first. omega (arith, zeros first, plain.0.1)) plain.0.2 in
    sym written ∙ ap decimal (sym plain.1 ∙ same)

pub decimal_is_parsed : {E : Type 0} (text : List ℕ) (r : Result ℕ E) (n : ℕ) → ParsesUnsigned 64 10 text r → n < 2 ^ 63 → text ≡ decimal n → r ≡ Ok n
decimal_is_parsed text r n h small e = parse-decimal 64 n text r (omega arith) (omega arith) e h
