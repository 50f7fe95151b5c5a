-- Numbers of threads that words spell.
use Rattle.std.proofs.Common.{◌≡◌, ◌∙◌, ℕ, zero, suc, ◌+◌, ◌<◌, ◌≤◌, ◌^◌, Bool, true, false, cond, List, None, Some, refl, sym, ap, arith, inl, inr}
use Rattle.std.proofs.lemmas.Bool.{cases_lt}
use Rattle.std.proofs.lemmas.Fmt.{decimal_injective}
use Rattle.std.proofs.lemmas.Slice.Eq.{bytes_eq-Decides}
use Rattle.std.specs.Fmt.{decimal}
use Rattle.std.specs.List.{range_with_len}
use Rattle.std.specs.Prelude.{find, bytes_eq}
use Rattle.catalogue.specs.Asked.{count_spelled}

first_found : (p : ℕ → Bool) (a k n : ℕ) → a ≤ n → n < a + k → p n ≡ true → ((m : ℕ) → m < n → p m ≡ false) → find p (range_with_len a k) ≡ Some n
first_found p a zero n low high is before = absurd (omega arith)
first_found p a (suc k) n low high is before = elim (cases_lt a n) [
  | inl below ↦ ap (λ b. cond b (Some a) (find p (range_with_len (a + 1) k))) (before a below) ∙ first_found p (a + 1) k n (omega arith) (omega arith) is before
  | inr rest ↦ let same : n ≡ a = omega arith in
      ap (λ b. cond b (Some a) (find p (range_with_len (a + 1) k))) (ap p (sym same) ∙ is) ∙ ap Some (sym same)
]

none_found : (p : ℕ → Bool) (a k : ℕ) → ((m : ℕ) → a ≤ m → m < a + k → p m ≡ false) → find p (range_with_len a k) ≡ None
none_found p a zero wrong = refl
none_found p a (suc k) wrong =
    ap (λ b. cond b (Some a) (find p (range_with_len (a + 1) k))) (wrong a (omega arith) (omega arith)) ∙ none_found p (a + 1) k (λ m low high. wrong m (omega arith) (omega arith))

is_not : (b : Bool) → (b ≡ true → ⊥) → b ≡ false
is_not true wrong = absurd (wrong refl)
is_not false wrong = refl

unlike : (word : List ℕ) (n m : ℕ) → n < 2 ^ 63 → word ≡ decimal n → m < 65 → (m ≡ n → ⊥) → bytes_eq word (decimal m) ≡ false
unlike word n m small is low other =
    is_not (bytes_eq word (decimal m)) (λ same. other (decimal_injective m n (omega arith) (omega arith) (sym ((bytes_eq-Decides word (decimal m)).0 same) ∙ is)))

pub spelled : (word : List ℕ) (n : ℕ) → word ≡ decimal n → 1 ≤ n → n < 65 → count_spelled word ≡ Some n
unfolding count_spelled
spelled word n is low high =
    first_found (λ n. bytes_eq word (decimal n)) 1 64 n low high ((bytes_eq-Decides word (decimal n)).1 is)
    (λ m below. unlike word n m (omega arith) is (omega arith) (λ e. omega (arith, e, below)))

pub too_many : (word : List ℕ) (n : ℕ) → n < 2 ^ 63 → word ≡ decimal n → (1 ≤ n → n < 65 → ⊥) → count_spelled word ≡ None
unfolding count_spelled
too_many word n small is wrong =
    none_found (λ n. bytes_eq word (decimal n)) 1 64 (λ m low high. unlike word n m small is (omega arith) (λ e. wrong (omega (arith, e, low)) (omega (arith, e, high))))

pub unspelled : (word : List ℕ) → ((n : ℕ) → n < 2 ^ 63 → word ≡ decimal n → ⊥) → count_spelled word ≡ None
unfolding count_spelled
unspelled word none =
    none_found (λ n. bytes_eq word (decimal n)) 1 64
    (λ m low high. is_not (bytes_eq word (decimal m)) (λ same. none m (omega arith) ((bytes_eq-Decides word (decimal m)).0 same)))
