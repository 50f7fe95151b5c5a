-- A set whose rows below one of them are taken out.
use Rattle.std.proofs.Common.{◌++◌, take, drop, ◌≡◌, ◌≢◌, ℕ, ◌+◌, ◌-◌, ◌*◌, ◌/◌, ◌%◌, ◌^◌, ◌<◌, ◌≤◌, Bool, true, false, ◌&&◌, cond, eqb, ltb, List, length, set, get_or, replicate, refl, sym, ap, ◌∙◌, inl, inr, arith}
use Rattle.std.specs.Prelude.{bit_and}
use Rattle.std.proofs.lemmas.Bool.{cases_eq, cases_lt, lt-ltb, le-ltb, cond-true, cond-false}
use Rattle.std.proofs.lemmas.List.{get_or_append_left, get_or-append_right, get_or-drop, get_or-set_same, get_or-set_other, length-append, length-drop, length-replicate, length-take, get_or-replicate}
use Rattle.std.proofs.lemmas.Nat.Bits.{ones_shl, bit_at_mask_inside, bit_at_mask_below}
use Rattle.cat_columns.specs.Bits.{has_bit, is_set, flags_of, IsBits}
use Rattle.cat_columns.proofs.Bits.{has_bit-and, has_bit-zero, are_flags, flags-length, flag_at, written_back}

and_false : (b : Bool) → (b && false) ≡ false
and_false true = refl
and_false false = refl

and_true : (b : Bool) → (b && true) ≡ b
and_true true = refl
and_true false = refl

-- `block & (MAX << k)` has no bit below k, and the block's own from k on
masked_bit : (block k i : ℕ) → k < 64 → i < 64 → has_bit (bit_and block ((2 ^ 64 - 1) * 2 ^ k % 2 ^ 64)) i ≡ cond (ltb i k) false (has_bit block i)
masked_bit block k i within lt =
    ap (λ mask. has_bit (bit_and block mask) i) (ones_shl 64 k (omega arith)) ∙ has_bit-and block (2 ^ 64 - 2 ^ k) i ∙ elim (cases_lt i k) [
      | inl below ↦
          ap (λ n. has_bit block i && eqb n 1) (bit_at_mask_below k 64 i below) ∙ and_false (has_bit block i) ∙ sym (cond-true (ltb i k) false (has_bit block i) (lt-ltb i k below))
      | inr from ↦
          ap (λ n. has_bit block i && eqb n 1) (bit_at_mask_inside k 64 i from lt) ∙ and_true (has_bit block i) ∙ sym (cond-false (ltb i k) false (has_bit block i) (le-ltb i k from))
    ]

-- The first blocks are 0, and the others stay.
module _ (blocks zeros : List ℕ) (whole : ℕ) (within : whole ≤ length blocks) (e : zeros ≡ replicate (length (take whole blocks)) 0) where
  zeros_long : length zeros ≡ whole
  zeros_long = ap length e ∙ length-replicate {A = ℕ} (length (take whole blocks)) 0 ∙ length-take whole blocks ∙ omega arith

  block_below : (k : ℕ) → k < whole → get_or (zeros ++ drop whole blocks) k 0 ≡ 0
  block_below k lt =
      get_or_append_left zeros (drop whole blocks) 0 k (omega (arith, zeros_long)) ∙ ap (λ l. get_or l k 0) e
      ∙ get_or-replicate (length (take whole blocks)) k 0 0 (omega (arith, zeros_long, ap length e, length-replicate {A = ℕ} (length (take whole blocks)) 0))

  block_from : (k : ℕ) → whole ≤ k → get_or (zeros ++ drop whole blocks) k 0 ≡ get_or blocks k 0
  block_from k from =
      get_or-append_right zeros (drop whole blocks) whole k 0 zeros_long from ∙ get_or-drop whole blocks (k - whole) 0
      ∙ ap (λ n. get_or blocks n 0) (omega arith)

  front_long : length (zeros ++ drop whole blocks) ≡ length blocks
  front_long = length-append zeros (drop whole blocks) ∙ omega (arith, zeros_long, length-drop whole blocks)

-- whole blocks are cleared, and the block of the row is masked
pub below_cut : (blocks zeros : List ℕ) (row : ℕ) → row ≤ 64 * length blocks → zeros ≡ replicate (length (take (row / 64) blocks)) 0 → row % 64 ≢ 0
    → (r : ℕ) → is_set (set (zeros ++ drop (row / 64) blocks) (row / 64) (bit_and (get_or (zeros ++ drop (row / 64) blocks) (row / 64) 0) ((2 ^ 64 - 1) * 2 ^ (row % 64) % 2 ^ 64))) r
    ≡ cond (ltb r row) false (is_set blocks r)
below_cut blocks zeros row le e cut r =
    let front : List ℕ = zeros ++ drop (row / 64) blocks in
    let block : ℕ = bit_and (get_or front (row / 64) 0) ((2 ^ 64 - 1) * 2 ^ (row % 64) % 2 ^ 64) in
    let within : row / 64 ≤ length blocks = omega arith in
    let long : length front ≡ length blocks = front_long blocks zeros (row / 64) within e in
    elim (cases_eq (r / 64) (row / 64)) [
      | inl same ↦
          ap (λ n. has_bit n (r % 64)) (ap (λ n. get_or (set front (row / 64) block) n 0) same ∙ get_or-set_same front (row / 64) block 0 (omega arith))
          ∙ masked_bit (get_or front (row / 64) 0) (row % 64) (r % 64) (omega arith) (omega arith)
          ∙ ap (λ n. cond (ltb (r % 64) (row % 64)) false (has_bit n (r % 64))) (ap (λ n. get_or front n 0) (sym same) ∙ block_from blocks zeros (row / 64) within e (r / 64) (omega arith))
          ∙ ap (λ b. cond b false (is_set blocks r)) (same_test (r / 64) (row / 64) (r % 64) (row % 64) r row same (omega arith) (omega arith))
      | inr away ↦
          ap (λ n. has_bit n (r % 64)) (get_or-set_other front (row / 64) (r / 64) block 0 away) ∙ elim (cases_lt r row) [
            | inl below ↦
                ap (λ n. has_bit n (r % 64)) (block_below blocks zeros (row / 64) within e (r / 64) (omega arith)) ∙ has_bit-zero (r % 64)
                ∙ sym (cond-true (ltb r row) false (is_set blocks r) (lt-ltb r row below))
            | inr from ↦
                ap (λ n. has_bit n (r % 64)) (block_from blocks zeros (row / 64) within e (r / 64) (omega arith))
                ∙ sym (cond-false (ltb r row) false (is_set blocks r) (le-ltb r row from))
          ]
    ]
  where
    same_test : (a b i k r row : ℕ) → a ≡ b → r ≡ 64 * a + i → row ≡ 64 * b + k → ltb i k ≡ ltb r row
    same_test a b i k r row same at end = elim (cases_lt i k) [
      | inl below ↦ lt-ltb i k below ∙ sym (lt-ltb r row (omega arith))
      | inr from ↦ le-ltb i k from ∙ sym (le-ltb r row (omega arith))
    ]

pub below_fits : (rows : ℕ) (old old' : List ℕ) (v : List Bool) (row : ℕ) → IsBits rows old → flags_of rows old ≡ v → old' ≡ old → row ≤ length v → row ≤ 64 * length old'
below_fits rows old old' v row is e o le = omega (arith, flags-length rows old v e, is.long, ap length o)

-- the flags of the blocks from the row on
flags-below : (rows : ℕ) (blocks new : List ℕ) (v : List Bool) (row : ℕ) → flags_of rows blocks ≡ v → row ≤ length v
    → ((r : ℕ) → is_set new r ≡ cond (ltb r row) false (is_set blocks r)) → flags_of rows new ≡ replicate row false ++ drop row v
flags-below rows blocks new v row e le each =
    let long : length v ≡ rows = flags-length rows blocks v e in
    are_flags rows new (replicate row false ++ drop row v)
    (length-append (replicate row false) (drop row v) ∙ omega (arith, length-replicate row false, length-drop row v))
    (λ r within. each r ∙ elim (cases_lt r row) [
      | inl below ↦
          cond-true (ltb r row) false (is_set blocks r) (lt-ltb r row below)
          ∙ sym (get_or_append_left (replicate row false) (drop row v) false r (omega (arith, length-replicate row false)) ∙ get_or-replicate row r false false below)
      | inr from ↦
          cond-false (ltb r row) false (is_set blocks r) (le-ltb r row from) ∙ flag_at rows blocks v r e (omega arith)
          ∙ sym (get_or-append_right (replicate row false) (drop row v) row r false (length-replicate row false) from ∙ get_or-drop row v (r - row) false ∙ ap (λ n. get_or v n false) (omega arith))
    ])

bits-below : (rows : ℕ) (blocks new : List ℕ) (row : ℕ) → IsBits rows blocks → length new ≡ length blocks
    → ((r : ℕ) → is_set new r ≡ cond (ltb r row) false (is_set blocks r)) → IsBits rows new
bits-below rows blocks new row is long each = record {
  few = is.few;
  long = long ∙ is.long;
  clear = λ r past. each r ∙ ap (cond (ltb r row) false) (is.clear r past) ∙ by (ltb r row);
}
  where
    by : (b : Bool) → cond b false false ≡ false
    by true = refl
    by false = refl

pub below_back : (rows n : ℕ) (old old' new : List ℕ) (v : List Bool) (row : ℕ)
    → IsBits rows old → flags_of rows old ≡ v → row ≤ length v
    → old' ≡ old → length new ≡ length old' → length old' ≡ n
    → ((r : ℕ) → is_set new r ≡ cond (ltb r row) false (is_set old' r))
    → IsBits rows (take n (new ++ drop (length new) old)) × (flags_of rows (take n (new ++ drop (length new) old)) ≡ replicate row false ++ drop row v)
below_back rows n old old' new v row is e le o same len each =
    let back : take n (new ++ drop (length new) old) ≡ new = written_back n new old (same ∙ ap length o) (sym len ∙ ap length o) in
    let all : List ℕ = take n (new ++ drop (length new) old) in
    let rowwise : (r : ℕ) → is_set all r ≡ cond (ltb r row) false (is_set old r) =
    λ r. ap (λ l. is_set l r) back ∙ each r ∙ ap (λ l. cond (ltb r row) false (is_set l r)) o in (
      bits-below rows old all row is (ap length back ∙ same ∙ ap length o) rowwise,
      flags-below rows old all v row e le rowwise,
    )
