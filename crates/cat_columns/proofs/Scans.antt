-- The rows of a set, one after another.
use Rattle.std.proofs.Common.{◌≡◌, ℕ, zero, suc, ◌+◌, ◌-◌, ◌*◌, ◌/◌, ◌%◌, ◌^◌, ◌<◌, ◌≤◌, Bool, true, false, ◌&&◌, cond, eqb, List, [], ◌∷◌, ◌++◌, length, filter, get_or, refl, sym, ap, ◌∙◌, arith, inl, inr, eq-eqb}
use Rattle.std.specs.Prelude.{bit_and}
use Rattle.std.specs.Int.{bit_at}
use Rattle.std.specs.List.{range_with_len}
use Rattle.std.proofs.lemmas.Bool.{cases_eq, cases_lt, ne_eqb, cond-true, cond-false}
use Rattle.std.proofs.lemmas.Nat.{shr-shr}
use Rattle.std.proofs.lemmas.Nat.Bits.{bit_at-zero, bit_at-suc, bit_at_lowest}
use Rattle.std.proofs.lemmas.List.Elements.{filter-append}
use Rattle.std.proofs.lemmas.List.{append-nil}
use Rattle.cat_model.specs.RowSets.{indices}
use Rattle.cat_columns.specs.Bits.{has_bit, is_set, flags_of, IsBits, rows_from, is_left, rows_left, IsFirstBlock, IsLowestBit, NoBlockFrom}
use Rattle.cat_columns.proofs.Bits.{has_bit-and, has_bit-zero, flags-length, flag_at}
use Rattle.cat_columns.proofs.Counts.{range_split}

pub shifted_bit : (w k i : ℕ) → bit_at (w / 2 ^ k) i ≡ bit_at w (k + i)
shifted_bit w k i = ap (λ n. n % 2) (shr-shr w k i)

pub no_bit : (w k i : ℕ) → w / 2 ^ k ≡ 0 → k ≤ i → has_bit w i ≡ false
no_bit w k i none le =
    let at : i ≡ k + (i - k) = omega arith in
    ap (has_bit w) at ∙ ap (λ n. eqb n 1) (sym (shifted_bit w k (i - k)) ∙ ap (λ n. bit_at n (i - k)) none ∙ bit_at-zero (i - k))

filter_none : (p : ℕ → Bool) (a n : ℕ) → ((r : ℕ) → a ≤ r → r < a + n → p r ≡ false) → filter p (range_with_len a n) ≡ []
filter_none p a zero none = refl
filter_none p a (suc n) none =
    cond-false (p a) (a ∷ filter p (range_with_len (a + 1) n)) (filter p (range_with_len (a + 1) n)) (none a (omega arith) (omega arith))
    ∙ filter_none p (a + 1) n (λ r low high. none r (omega arith) (omega arith))

filter_same : (p q : ℕ → Bool) (a n : ℕ) → ((r : ℕ) → a ≤ r → r < a + n → p r ≡ q r) → filter p (range_with_len a n) ≡ filter q (range_with_len a n)
filter_same p q a zero same = refl
filter_same p q a (suc n) same =
    ap (λ l. cond (p a) (a ∷ l) l) (filter_same p q (a + 1) n (λ r low high. same r (omega arith) (omega arith)))
    ∙ ap (λ b. cond b (a ∷ filter q (range_with_len (a + 1) n)) (filter q (range_with_len (a + 1) n))) (same a (omega arith) (omega arith))

filter_split : (p : ℕ → Bool) (a m n k : ℕ) → k ≡ m + n → filter p (range_with_len a k) ≡ filter p (range_with_len a m) ++ filter p (range_with_len (a + m) n)
filter_split p a m n k e =
    ap (λ j. filter p (range_with_len a j)) e ∙ ap (filter p) (range_split a m n) ∙ filter-append p (range_with_len a m) (range_with_len (a + m) n)

-- A filter begins where it first may have a row.
filter_from : (p : ℕ → Bool) (a n b : ℕ) → a ≤ b → b ≤ a + n → ((r : ℕ) → a ≤ r → r < b → p r ≡ false)
    → filter p (range_with_len a n) ≡ filter p (range_with_len b (a + n - b))
filter_from p a n b le within none =
    let at : a + (b - a) ≡ b = omega arith in
    filter_split p a (b - a) (a + n - b) n (omega arith)
    ∙ ap (λ l. l ++ filter p (range_with_len (a + (b - a)) (a + n - b))) (filter_none p a (b - a) (λ r low high. none r low (omega arith)))
    ∙ ap (λ k. filter p (range_with_len k (a + n - b))) at

-- The first row that one filter has, and then those of another, which has the others.
filter_first : (p q : ℕ → Bool) (a n row : ℕ) → a ≤ row → row < a + n → p row ≡ true
    → ((r : ℕ) → a ≤ r → r < row → p r ≡ false) → ((r : ℕ) → a ≤ r → r < row + 1 → q r ≡ false) → ((r : ℕ) → row < r → p r ≡ q r)
    → filter p (range_with_len a n) ≡ row ∷ filter q (range_with_len a n)
filter_first p q a n row le within is_in before gone later =
    let rest : ℕ = a + n - (row + 1) in
    let more : a + n - row ≡ suc rest = omega arith in
    filter_from p a n row le (omega arith) before
    ∙ ap (λ k. filter p (range_with_len row k)) more
    ∙ cond-true (p row) (row ∷ filter p (range_with_len (row + 1) rest)) (filter p (range_with_len (row + 1) rest)) is_in
    ∙ ap (λ l. row ∷ l) (filter_same p q (row + 1) rest (λ r low high. later r (omega arith)) ∙ sym (filter_from q a n (row + 1) (omega arith) (omega arith) gone))

-- What `n - 1` does to the bits of n from the lowest 1 on.
borrowed : (t n : ℕ) → bit_at n t ≡ 1 → ((i : ℕ) → i < t → bit_at n i ≡ 0) → bit_at (n - 1) t ≡ 0
borrowed zero n here below = bit_at_lowest (n - 1) ∙ omega (arith, sym (bit_at_lowest n) ∙ here)
borrowed (suc t) n here below =
    let half : (n - 1) / 2 ≡ n / 2 - 1 = omega (arith, sym (bit_at_lowest n) ∙ below 0 (omega arith)) in
    bit_at-suc (n - 1) t ∙ ap (λ m. bit_at m t) half
    ∙ borrowed t (n / 2) (sym (bit_at-suc n t) ∙ here) (λ i lt. sym (bit_at-suc n i) ∙ below (suc i) (omega arith))

above_borrowed : (t n i : ℕ) → bit_at n t ≡ 1 → ((i : ℕ) → i < t → bit_at n i ≡ 0) → t < i → bit_at (n - 1) i ≡ bit_at n i
above_borrowed t n zero here below lt = absurd (omega arith)
above_borrowed zero n (suc i) here below lt =
    let half : (n - 1) / 2 ≡ n / 2 = omega (arith, sym (bit_at_lowest n) ∙ here) in
    bit_at-suc (n - 1) i ∙ ap (λ m. bit_at m i) half ∙ sym (bit_at-suc n i)
above_borrowed (suc t) n (suc i) here below lt =
    let half : (n - 1) / 2 ≡ n / 2 - 1 = omega (arith, sym (bit_at_lowest n) ∙ below 0 (omega arith)) in
    bit_at-suc (n - 1) i ∙ ap (λ m. bit_at m i) half
    ∙ above_borrowed t (n / 2) i (sym (bit_at-suc n t) ∙ here) (λ j le. sym (bit_at-suc n j) ∙ below (suc j) (omega arith)) (omega arith)
    ∙ sym (bit_at-suc n i)

-- `n & (n - 1)` has the bits of n but for the lowest 1.
record Cleared (n t : ℕ) : Type 0 where
  up_to : (i : ℕ) → i ≤ t → has_bit (bit_and n (n - 1)) i ≡ false
  above : (i : ℕ) → t < i → has_bit n i ≡ has_bit (bit_and n (n - 1)) i

lowest_cleared : (n t : ℕ) → bit_at n t ≡ 1 → ((i : ℕ) → i < t → bit_at n i ≡ 0) → Cleared n t
lowest_cleared n t here below = record {
  up_to = λ i le. has_bit-and n (n - 1) i ∙ elim (cases_lt i t) [
    | inl lt ↦ ap (λ b. eqb b 1 && has_bit (n - 1) i) (below i lt)
    | inr from ↦
        let same : i ≡ t = omega arith in
        ap (λ k. has_bit n k && has_bit (n - 1) k) same ∙ ap (λ b. eqb b 1 && has_bit (n - 1) t) here ∙ ap (λ b. eqb b 1) (borrowed t n here below)
  ];
  above = λ i lt. sym (has_bit-and n (n - 1) i ∙ ap (λ b. has_bit n i && eqb b 1) (above_borrowed t n i here below lt) ∙ twice (has_bit n i));
}
  where
    twice : (b : Bool) → (b && b) ≡ b
    twice true = refl
    twice false = refl

in_block : (blocks : List ℕ) (index left r : ℕ) → 64 * index ≤ r → r < 64 * index + 64 → is_left blocks index left r ≡ has_bit left (r - 64 * index)
in_block blocks index left r low high =
    let block : r / 64 ≡ index = omega arith in
    let bit : r % 64 ≡ r - 64 * index = omega arith in
    cond-true (eqb (r / 64) index) (has_bit left (r % 64)) (is_set blocks r) (eq-eqb (r / 64) index block) ∙ ap (has_bit left) bit

behind_block : (blocks : List ℕ) (index left r : ℕ) → 64 * index + 64 ≤ r → is_left blocks index left r ≡ is_set blocks r
behind_block blocks index left r low = cond-false (eqb (r / 64) index) (has_bit left (r % 64)) (is_set blocks r) (ne_eqb (r / 64) index (λ e. omega arith))

whole_block : (blocks : List ℕ) (index r : ℕ) → is_left blocks index (get_or blocks index 0) r ≡ is_set blocks r
whole_block blocks index r =
    elim (cases_eq (r / 64) index) [
      | inl same ↦
          cond-true (eqb (r / 64) index) (has_bit (get_or blocks index 0) (r % 64)) (is_set blocks r) (eq-eqb (r / 64) index same)
          ∙ ap (λ k. has_bit (get_or blocks k 0) (r % 64)) (sym same)
      | inr apart ↦ cond-false (eqb (r / 64) index) (has_bit (get_or blocks index 0) (r % 64)) (is_set blocks r) (ne_eqb (r / 64) index apart)
    ]

none_between : (blocks : List ℕ) (index left next : ℕ) → left ≡ 0 → ((k : ℕ) → index + 1 ≤ k → k < next → get_or blocks k 0 ≡ 0)
    → (r : ℕ) → 64 * index ≤ r → r < 64 * next → is_left blocks index left r ≡ false
none_between blocks index left next none between r low high =
    elim (cases_lt r (64 * index + 64)) [
      | inl here ↦ in_block blocks index left r low here ∙ ap (λ w. has_bit w (r - 64 * index)) none ∙ has_bit-zero (r - 64 * index)
      | inr behind ↦
          behind_block blocks index left r behind ∙ ap (λ w. has_bit w (r % 64)) (between (r / 64) (omega arith) (omega arith)) ∙ has_bit-zero (r % 64)
    ]

pub rows_left-none : (blocks : List ℕ) (index left : ℕ) → left ≡ 0 → NoBlockFrom blocks (index + 1) → rows_left blocks index left ≡ []
rows_left-none blocks index left none past =
    filter_none (is_left blocks index left) (64 * index) (64 * length blocks - 64 * index)
    (λ r low high. none_between blocks index left (r / 64 + 1) none (λ k from below. past k from) r low (omega arith))

-- The next block that has a row is taken in hand.
pub rows_left-block : (blocks : List ℕ) (index left next block : ℕ) → left ≡ 0 → IsFirstBlock blocks (index + 1) next block
    → rows_left blocks index left ≡ rows_left blocks next block
rows_left-block blocks index left next block none is =
    let after : index + 1 ≤ next = is.after in
    let within : next < length blocks = is.within in
    let rest : 64 * index + (64 * length blocks - 64 * index) - 64 * next ≡ 64 * length blocks - 64 * next = omega arith in
    filter_from (is_left blocks index left) (64 * index) (64 * length blocks - 64 * index) (64 * next) (omega arith) (omega arith)
    (none_between blocks index left next none is.between)
    ∙ ap (λ k. filter (is_left blocks index left) (range_with_len (64 * next) k)) rest
    ∙ filter_same (is_left blocks index left) (is_left blocks next (get_or blocks next 0)) (64 * next) (64 * length blocks - 64 * next)
    (λ r low high. behind_block blocks index left r (omega arith) ∙ sym (whole_block blocks next r))
    ∙ ap (rows_left blocks next) is.is

-- The lowest row of the block in hand is given.
pub rows_left-row : (blocks : List ℕ) (index left bit : ℕ) → index < length blocks → IsLowestBit left bit
    → rows_left blocks index left ≡ (64 * index + bit) ∷ rows_left blocks index (bit_and left (left - 1))
rows_left-row blocks index left bit within is =
    let small : bit < 64 = is.within in
    let at : 64 * index + bit - 64 * index ≡ bit = omega arith in
    let cleared : Cleared left bit = lowest_cleared left bit is.is_in is.below in
    filter_first (is_left blocks index left) (is_left blocks index (bit_and left (left - 1))) (64 * index) (64 * length blocks - 64 * index) (64 * index + bit)
    (omega arith) (omega arith)
    (in_block blocks index left (64 * index + bit) (omega arith) (omega arith) ∙ ap (has_bit left) at ∙ ap (λ b. eqb b 1) is.is_in)
    (λ r low high. in_block blocks index left r low (omega arith) ∙ ap (λ b. eqb b 1) (is.below (r - 64 * index) (omega arith)))
    (λ r low high. in_block blocks index (bit_and left (left - 1)) r low (omega arith) ∙ cleared.up_to (r - 64 * index) (omega arith))
    (λ r low. elim (cases_lt r (64 * index + 64)) [
      | inl here ↦
          in_block blocks index left r (omega arith) here ∙ cleared.above (r - 64 * index) (omega arith)
          ∙ sym (in_block blocks index (bit_and left (left - 1)) r (omega arith) here)
      | inr behind ↦ behind_block blocks index left r behind ∙ sym (behind_block blocks index (bit_and left (left - 1)) r behind)
    ])

pub rows_left-start : (blocks : List ℕ) (left : ℕ) → left ≡ get_or blocks 0 0 → rows_left blocks 0 left ≡ rows_from blocks 0
rows_left-start blocks left e =
    ap (λ w. rows_left blocks 0 w) e
    ∙ filter_same (is_left blocks 0 (get_or blocks 0 0)) (is_set blocks) 0 (64 * length blocks - 0) (λ r low high. whole_block blocks 0 r)

-- From the first row on, they are the indices of the flags.
pub rows_from-start : (rows : ℕ) (blocks blocks' : List ℕ) (v : List Bool) → IsBits rows blocks → flags_of rows blocks ≡ v → blocks' ≡ blocks → rows_from blocks' 0 ≡ indices v
rows_from-start rows blocks blocks' v is e same =
    let long : length v ≡ rows = flags-length rows blocks v e in
    let rest : ℕ = 64 * length blocks - length v in
    ap (λ l. rows_from l 0) same
    ∙ filter_split (is_set blocks) 0 (length v) rest (64 * length blocks - 0) (omega (arith, is.long))
    ∙ ap (λ l. filter (is_set blocks) (range_with_len 0 (length v)) ++ l) (filter_none (is_set blocks) (0 + length v) rest (λ r low high. is.clear r (omega arith)))
    ∙ append-nil (filter (is_set blocks) (range_with_len 0 (length v)))
    ∙ filter_same (is_set blocks) (λ row. get_or v row false) 0 (length v) (λ r low high. flag_at rows blocks v r e (omega arith))
