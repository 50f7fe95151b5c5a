use Rattle.std.proofs.Common.{◌≡◌, ◌<◌, ◌+◌, ℕ, Bool, true, false, List, get_or, refl, rules, sym, arith, IsTrue, ltb}
use Rattle.std.specs.Prelude.{◌↔◌}
use Rattle.std.specs.List.{AllPairs, IsAllAdjacentAnswer}
use Rattle.std.proofs.lemmas.Bool.{true≢false}
use Rattle.std.proofs.lemmas.Bool.Decides.{nat_tests}
use Rattle.std.proofs.lemmas.Fn.{always_returns_same}
use Rattle.std.proofs.lemmas.List.Kept.{AllPairs-from_increasing}
use Rattle.cat_segment.proofs.assembly.rise.Goals as goal

above : (a b : ℕ) → true ≡ ltb a b → a < b
above a b e = grind (arith, nat_tests)

not_above : (a b : ℕ) → false ≡ ltb a b → a < b → ⊥
not_above a b e lt = grind (arith, nat_tests)

told : (numbers : List ℕ) (b : Bool) → IsAllAdjacentAnswer (λ x y r. r ≡ ltb x y) numbers b → IsTrue b ↔ AllPairs (λ x y. x < y) numbers
told numbers true rises = (λ _. AllPairs-from_increasing numbers (λ k lt. above (get_or numbers k 0) (get_or numbers (k + 1) 0) (rises k 0 lt)), λ _. refl)
told numbers false level = (λ e. absurd (true≢false (sym e)), λ pairs. absurd (not_above (get_or numbers level.0 0) (get_or numbers (level.0 + 1) 0) (level.2 0) (pairs level.0 (level.0 + 1) 0 (omega arith) level.1)))

pub returns : goal.returns
returns c = told c.args.numbers.now c.is_sorted_by.result (c.is_sorted_by.ensures.cases ltb (always_returns_same _ _ _ (λ a r f' k. search rules)))
