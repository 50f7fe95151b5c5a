-- How many rows are set.
use Rattle.std.proofs.Common.{◌≡◌, ℕ, zero, suc, ◌+◌, ◌-◌, ◌*◌, ◌/◌, ◌%◌, ◌^◌, ◌<◌, ◌≤◌, Bool, true, false, cond, eqb, List, [], ◌∷◌, ◌++◌, length, map, get_or, refl, sym, ap, ◌∙◌, arith, count_by, sum_by, subst}
use Rattle.std.specs.Prelude.{count_ones}
use Rattle.std.specs.Int.{bit_at}
use Rattle.std.specs.List.{range_with_len}
use Rattle.std.proofs.Common.{mul-suc}
use Rattle.std.proofs.lemmas.Bool.{true≢false}
use Rattle.std.proofs.lemmas.List.Sums.{sum_by-cons, sum_by-append, count_by-le-length}
use Rattle.std.proofs.lemmas.List.FromFn.{length-map-range_with_len, get_or-map-range_with_len}
use Rattle.std.proofs.lemmas.Nat.Bits.{bit_at-lt, same_from_bits_below}
use Rattle.std.proofs.lemmas.Simd.{mask_l-lt, bit_mask_l, ones-mask_l}
use lib.Lanes.{mask_l}
use Rattle.cat_columns.specs.Bits.{has_bit, is_set, flags_of, IsBits}

bit_back : (b : ℕ) → b < 2 → cond (eqb b 1) 1 0 ≡ b
bit_back zero lt = refl
bit_back (suc zero) lt = refl
bit_back (suc (suc b)) lt = omega arith

mask_is : (n w : ℕ) → w < 2 ^ n → mask_l (map (has_bit w) (range_with_len 0 n)) ≡ w
mask_is n w fits =
    let ms : List Bool = map (has_bit w) (range_with_len 0 n) in
    same_from_bits_below n (mask_l ms) w (subst (λ k. mask_l ms < 2 ^ k) (length-map-range_with_len (has_bit w) 0 n) (mask_l-lt ms)) fits
    (λ i lt. bit_mask_l ms i ∙ ap (λ b. cond b 1 0) (get_or-map-range_with_len (has_bit w) 0 n i i false lt (omega arith)) ∙ bit_back (bit_at w i) (bit_at-lt w i))

ones_in_block : (n w : ℕ) → w < 2 ^ n → count_ones w ≡ count_by (has_bit w) (range_with_len 0 n)
ones_in_block n w fits = ap count_ones (sym (mask_is n w fits)) ∙ ones-mask_l (has_bit w) (range_with_len 0 n)

pub range_split : (a m n : ℕ) → range_with_len a (m + n) ≡ range_with_len a m ++ range_with_len (a + m) n
range_split a zero n =
    let none : 0 + n ≡ n = omega arith in
    let here : a ≡ a + 0 = omega arith in
    ap (λ k. range_with_len a k) none ∙ ap (λ k. range_with_len k n) here
range_split a (suc m) n =
    let more : suc m + n ≡ suc (m + n) = omega arith in
    let next : a + 1 + m ≡ a + suc m = omega arith in
    ap (λ k. range_with_len a k) more
    ∙ ap (λ l. a ∷ l) (range_split (a + 1) m n ∙ ap (λ k. range_with_len (a + 1) m ++ range_with_len k n) next)

count_split : (p : ℕ → Bool) (a m n : ℕ) → count_by p (range_with_len a (m + n)) ≡ count_by p (range_with_len a m) + count_by p (range_with_len (a + m) n)
count_split p a m n = ap (count_by p) (range_split a m n) ∙ sum_by-append (λ x. cond (p x) 1 0) (range_with_len a m) (range_with_len (a + m) n)

count_moved : (p q : ℕ → Bool) (a b n : ℕ) → ((i : ℕ) → i < n → p (a + i) ≡ q (b + i)) → count_by p (range_with_len a n) ≡ count_by q (range_with_len b n)
count_moved p q a b zero same = refl
count_moved p q a b (suc n) same =
    sum_by-cons (λ x. cond (p x) 1 0) a (range_with_len (a + 1) n)
    ∙ ap (λ k. k + count_by p (range_with_len (a + 1) n)) (ap (λ t. cond t 1 0) (
    let at : a ≡ a + 0 = omega arith in
    let to : b + 0 ≡ b = omega arith in
    ap p at ∙ same 0 (omega arith) ∙ ap q to
    ))
    ∙ ap (λ k. cond (q b) 1 0 + k) (count_moved p q (a + 1) (b + 1) n (λ i lt.
    let at : a + 1 + i ≡ a + (i + 1) = omega arith in
    let to : b + (i + 1) ≡ b + 1 + i = omega arith in
    ap p at ∙ same (i + 1) (omega arith) ∙ ap q to))
    ∙ sym (sum_by-cons (λ x. cond (q x) 1 0) b (range_with_len (b + 1) n))

count_none : (p : ℕ → Bool) (a n : ℕ) → ((i : ℕ) → a ≤ i → p i ≡ false) → count_by p (range_with_len a n) ≡ 0
count_none p a zero none = refl
count_none p a (suc n) none =
    sum_by-cons (λ x. cond (p x) 1 0) a (range_with_len (a + 1) n)
    ∙ ap (λ k. cond (p a) 1 0 + k) (count_none p (a + 1) n (λ i le. none i (omega arith))) ∙ ap (λ t. cond t 1 0 + 0) (none a (omega arith))

first_block : (w : ℕ) (ws : List ℕ) (row : ℕ) → row < 64 → is_set (w ∷ ws) row ≡ has_bit w row
first_block w ws row lt =
    let block : row / 64 ≡ 0 = omega arith in
    let bit : row % 64 ≡ row = omega arith in
    ap (λ k. has_bit (get_or (w ∷ ws) k 0) (row % 64)) block ∙ ap (has_bit w) bit

later_block : (w : ℕ) (ws : List ℕ) (row : ℕ) → is_set (w ∷ ws) (64 + row) ≡ is_set ws row
later_block w ws row =
    let block : (64 + row) / 64 ≡ suc (row / 64) = omega arith in
    let bit : (64 + row) % 64 ≡ row % 64 = omega arith in
    ap (λ k. has_bit (get_or (w ∷ ws) k 0) ((64 + row) % 64)) block ∙ ap (has_bit (get_or ws (row / 64) 0)) bit

-- block by block
pub count_rows : (n : ℕ) → n ≡ 64 → (blocks : List ℕ) → ((k : ℕ) → get_or blocks k 0 < 2 ^ n)
    → sum_by count_ones blocks ≡ count_by (is_set blocks) (range_with_len 0 (n * length blocks))
count_rows n e [] fits =
    let none : 0 ≡ n * 0 = omega arith in ap (λ k. count_by (is_set []) (range_with_len 0 k)) none
count_rows n e (w ∷ ws) fits =
    let all : n + n * length ws ≡ n * suc (length ws) = omega (arith, mul-suc n (length ws)) in
    sum_by-cons count_ones w ws
    ∙ ap (λ k. k + sum_by count_ones ws) (ones_in_block n w (fits 0) ∙ sym (count_moved (is_set (w ∷ ws)) (has_bit w) 0 0 n (λ i lt. first_block w ws (0 + i) (omega arith))))
    ∙ ap (λ k. count_by (is_set (w ∷ ws)) (range_with_len 0 n) + k)
    (count_rows n e ws (λ k. fits (suc k)) ∙ sym (count_moved (is_set (w ∷ ws)) (is_set ws) (0 + n) 0 (n * length ws) (λ i lt.
    let at : 0 + n + i ≡ 64 + (0 + i) = omega arith in ap (is_set (w ∷ ws)) at ∙ later_block w ws (0 + i))))
    ∙ sym (count_split (is_set (w ∷ ws)) 0 n (n * length ws))
    ∙ ap (λ k. count_by (is_set (w ∷ ws)) (range_with_len 0 k)) all

count_of_map : (p : ℕ → Bool) (xs : List ℕ) → count_by (λ b. b) (map p xs) ≡ count_by p xs
count_of_map p [] = refl
count_of_map p (x ∷ xs) =
    sum_by-cons (λ b. cond b 1 0) (p x) (map p xs) ∙ ap (λ k. cond (p x) 1 0 + k) (count_of_map p xs) ∙ sym (sum_by-cons (λ y. cond (p y) 1 0) x xs)

pub count_flags : (rows : ℕ) (blocks blocks' : List ℕ) (v : List Bool) → IsBits rows blocks → flags_of rows blocks ≡ v → blocks' ≡ blocks
    → count_by (is_set blocks') (range_with_len 0 (64 * length blocks')) ≡ count_by (λ b. b) v
count_flags rows blocks blocks' v is e same =
    let more : rows + (64 * length blocks - rows) ≡ 64 * length blocks = omega (arith, is.long) in
    ap (λ l. count_by (is_set l) (range_with_len 0 (64 * length l))) same
    ∙ ap (λ k. count_by (is_set blocks) (range_with_len 0 k)) (sym more)
    ∙ count_split (is_set blocks) 0 rows (64 * length blocks - rows)
    ∙ ap (λ k. count_by (is_set blocks) (range_with_len 0 rows) + k) (count_none (is_set blocks) (0 + rows) (64 * length blocks - rows) (λ i le. is.clear i (omega arith)))
    ∙ omega arith
    ∙ sym (count_of_map (is_set blocks) (range_with_len 0 rows)) ∙ ap (count_by (λ b. b)) e

-- all are counted where each is true
pub all_counted : (set : List Bool) → length set ≤ count_by (λ b. b) set → (k : ℕ) → k < length set → get_or set k false ≡ true
all_counted [] le k lt = absurd (omega arith)
all_counted (true ∷ set) le zero lt = refl
all_counted (true ∷ set) le (suc k) lt = all_counted set (omega (arith, sum_by-cons (λ b. cond b 1 0) true set)) k (omega arith)
all_counted (false ∷ set) le k lt = absurd (omega (arith, sum_by-cons (λ b. cond b 1 0) false set, count_by-le-length (λ b. b) set))

pub count_all : (set : List Bool) → ((k : ℕ) → k < length set → get_or set k false ≡ true) → count_by (λ b. b) set ≡ length set
count_all [] each = refl
count_all (true ∷ set) each =
    let rest : count_by (λ b. b) set ≡ length set = count_all set (λ k lt. each (suc k) (omega arith)) in
    omega (arith, sum_by-cons (λ b. cond b 1 0) true set)
count_all (false ∷ set) each = absurd (true≢false (sym (each 0 (omega arith))))
