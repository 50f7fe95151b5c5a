-- Numbers that are marked in blocks of bits, each at its distance from a first one.
use Rattle.std.proofs.Common.{◌≡◌, ℕ, ◌+◌, ◌-◌, ◌/◌, ◌%◌, ◌<◌, ◌≤◌, Bool, true, false, ◌||◌, eqb, List, length, get_or, take, replicate, if◌then◌else◌, inl, inr, refl, sym, ap, ◌∙◌, arith, eq-eqb, eqb-true}
use Rattle.std.proofs.lemmas.Bool.{cases_Bool, cases_lt, true≢false}
use Rattle.std.proofs.lemmas.List.{get_or-replicate, get_or_past, length-replicate, get_or_default}
use Rattle.std.proofs.lemmas.List.Folds.{list_any_more, Any-from_list_any, list_any_at}
use Rattle.std.specs.List.{list_any}
use Rattle.std.specs.Prelude.{Contains}
use Rattle.cat_columns.specs.Bits.{is_set, has_bit}
use Rattle.cat_columns.proofs.Bits.{has_bit-zero}

or_true : (a : Bool) → true ≡ (a || true)
or_true true = refl
or_true false = refl

or_false : (a : Bool) → a ≡ (a || false)
or_false true = refl
or_false false = refl

-- the bit of a number that has one
pub marked_in : (a : Bool) (n from k : ℕ) → from ≤ n → (if eqb k (n - from) then true else a) ≡ (a || eqb n (from + k))
marked_in a n from k le =
    elim (cases_Bool (eqb k (n - from))) [
      | inl yes' ↦
          let at : k ≡ n - from = eqb-true k (n - from) yes' in
          let same : n ≡ from + k = omega arith in
          ap (λ b. if b then true else a) yes' ∙ or_true a ∙ ap (λ b. a || b) (sym (eq-eqb n (from + k) same))
      | inr no' ↦
          ap (λ b. if b then true else a) no' ∙ or_false a ∙ ap (λ b. a || b) (sym (elim (cases_Bool (eqb n (from + k))) [
            | inl other ↦
                let same : n ≡ from + k = eqb-true n (from + k) other in
                let at : k ≡ n - from = omega arith in
                absurd (true≢false (sym (eq-eqb k (n - from) at) ∙ no'))
            | inr none ↦ none
          ]))
    ]

-- and of one that has none
pub marked_out : (a : Bool) (n from k : ℕ) → (n ≡ from + k → ⊥) → a ≡ (a || eqb n (from + k))
marked_out a n from k out =
    or_false a ∙ ap (λ b. a || b) (sym (elim (cases_Bool (eqb n (from + k))) [
      | inl same ↦ absurd (out (eqb-true n (from + k) same))
      | inr none ↦ none
    ]))

pub marked_more : (from k i n : ℕ) (numbers : List ℕ) (a b : Bool) → i < length numbers → n ≡ get_or numbers i 0 → b ≡ (a || eqb n (from + k)) → a ≡ list_any (λ m. eqb m (from + k)) (take i numbers)
    → b ≡ list_any (λ m. eqb m (from + k)) (take (i + 1) numbers)
marked_more from k i n numbers a b lt at step before =
    step ∙ ap (λ t. t || eqb n (from + k)) before ∙ ap (λ m. list_any (λ m. eqb m (from + k)) (take i numbers) || eqb m (from + k)) at
    ∙ sym (list_any_more (λ m. eqb m (from + k)) numbers i 0 lt)

-- blocks of zeros have no bit
pub none_set : (count : ℕ) (k : ℕ) → is_set (replicate count 0) k ≡ false
none_set count k =
    ap (λ n. has_bit n (k % 64)) (elim (cases_lt (k / 64) count) [
      | inl within ↦ get_or-replicate count (k / 64) 0 0 within
      | inr past ↦ get_or_past (replicate count 0) (k / 64) 0 (omega (arith, length-replicate {A = ℕ} count 0))
    ]) ∙ has_bit-zero (k % 64)

-- the bits that are set are of the numbers that are there
module _ (blocks numbers : List ℕ) (from count : ℕ) (marked : (k : ℕ) → k < count → is_set blocks k ≡ list_any (λ n. eqb n (from + k)) numbers) where
  pub all_there : ((k : ℕ) → k < count → is_set blocks k ≡ true) → (n : ℕ) → from ≤ n → n < from + count → Contains numbers n
  all_there all n low high =
      let k : ℕ = n - from in
      let same : n ≡ from + k = omega arith in
      let within : k < count = omega arith in
      let any = Any-from_list_any (λ m. eqb m (from + k)) numbers (sym (marked k within) ∙ all k within) in
      (any.0, any.2, eqb-true (get_or numbers any.0 n) n (ap (λ m. eqb (get_or numbers any.0 n) m) same ∙ ap (λ m. eqb m (from + k)) (get_or_default numbers any.0 n any.1 any.2 ∙ any.3) ∙ any.4))

  pub all_set : ((n : ℕ) → from ≤ n → n < from + count → Contains numbers n) → (k : ℕ) → k < count → is_set blocks k ≡ true
  all_set there k lt =
      let h = there (from + k) (omega arith) (omega arith) in
      marked k lt ∙ list_any_at (λ m. eqb m (from + k)) numbers h.0 (from + k) h.1 (eq-eqb (get_or numbers h.0 (from + k)) (from + k) h.2)
