use Rattle.std.proofs.Common.{◌≡◌, ℕ, ◌<◌, ◌≤◌, ◌^◌, length, arith, inl, inr, sym, ◌∙◌}
use Rattle.std.specs.Prelude.{Result, Ok, Err, get_or}
use Rattle.std.proofs.lemmas.Bool.{true≢false}
use Rattle.std.proofs.lemmas.Str.Pattern.{starts_char}
use Rattle.cat_base.proofs.Decimals.{decimal_no_plus, decimal_no_zero, parsed_is_decimal, decimal_is_parsed}
use Rattle.cat_base.proofs.decimal.parse_number.Goals as goal

-- What is told of numbers alone stands here, where no tactic reads all that is known of the texts.
plus_is_ascii : 43 < 128
plus_is_ascii = omega arith

plus_is_some : 0 < 43
plus_is_some = omega arith

zero_is_ascii : 48 < 128
zero_is_ascii = omega arith

zero_is_some : 0 < 48
zero_is_some = omega arith

wider : (n : ℕ) → n < 2 ^ 63 → n < 2 ^ 64
wider n small = omega arith

below_last : (n : ℕ) → n ≤ 9223372036854775807 → n < 2 ^ 63
below_last n last = omega arith

past_last : (n m : ℕ) → n < 2 ^ 63 → m ≡ n → 9223372036854775807 < m → ⊥
past_last n m small same past = omega arith

too_long : (n : ℕ) → n ≤ 1 → 1 < n → ⊥
too_long n short long = omega arith

same_number : {E : Type 0} (r : Result ℕ E) (m n : ℕ) → r ≡ Ok m → r ≡ Ok n → m ≡ n
same_number r m n is parsed = cc

no_number : {E : Type 0} (r : Result ℕ E) (n : ℕ) (fault : E) → r ≡ Err fault → r ≡ Ok n → ⊥
no_number r n fault is parsed = cc

pub returns-then-starts_with-clause-none : goal.returns-then-starts_with-clause-none
returns-then-starts_with-clause-none c = λ n small e.
    let plus = starts_char 43 c.args.text.now _ c.starts_with.ensures.cases plus_is_ascii plus_is_some in
    decimal_no_plus c.args.text.now n (wider n small) e (plus.0 c.if-starts_with.true)

pub returns-then-text-gt1-clause-none : goal.returns-then-text-gt1-clause-none
returns-then-text-gt1-clause-none c = λ n small e.
    let zero = starts_char 48 c.args.text.now _ c.starts_with-2.ensures.cases zero_is_ascii zero_is_some in
    decimal_no_zero c.args.text.now n (wider n small) e (zero.0 c.if-starts_with-2.true) c.if-text-gt1.true

pub returns-in-Ok-clause-found : goal.returns-in-Ok-clause-found
returns-in-Ok-clause-found c =
    let plus = starts_char 43 c.args.text.now _ c.starts_with.ensures.cases plus_is_ascii plus_is_some in
    let zero = starts_char 48 c.args.text.now _ c.starts_with-2.ensures.cases zero_is_ascii zero_is_some in
    let plain : get_or c.args.text.now 0 0 ≡ 43 → ⊥ = λ first. true≢false (sym (plus.1 first) ∙ c.if-starts_with.false) in
    let one_digit : get_or c.args.text.now 0 0 ≡ 48 → 1 < length c.args.text.now → ⊥ = λ first long.
    elim c.else-starts_with-2.either [ inl h ↦ too_long (length c.args.text.now) h.1 long | inr h ↦ true≢false (sym (zero.1 first) ∙ h) ] in
    (below_last c.in-Ok.n c.if-n-le-LAST_NUMBER.true, parsed_is_decimal c.args.text.now _ c.in-Ok.n c.parse.ensures.value.0 c.in-Ok.is plain one_digit)

pub returns-in_default-clause-none : goal.returns-in_default-clause-none
returns-in_default-clause-none c = λ n small e.
    let parsed = decimal_is_parsed c.args.text.now _ n c.parse.ensures.value.0 small e in
    past_last n c.in-Ok.n small (same_number _ c.in-Ok.n n c.in-Ok.is parsed) c.if-n-le-LAST_NUMBER.false

pub returns-in_default-2-clause-none : goal.returns-in_default-2-clause-none
returns-in_default-2-clause-none c = λ n small e.
    no_number _ n _ c.in_default.is (decimal_is_parsed c.args.text.now _ n c.parse.ensures.value.0 small e)
