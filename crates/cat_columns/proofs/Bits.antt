-- What a change of blocks does to the rows' flags.
use Rattle.std.proofs.Common.{◌++◌, take, drop, ◌≡◌, ◌≢◌, ℕ, zero, suc, ◌+◌, ◌-◌, ◌*◌, ◌/◌, ◌%◌, ◌^◌, ◌<◌, ◌≤◌, min, max, Bool, true, false, not, ◌&&◌, ◌||◌, cond, eqb, ltb, List, [], ◌∷◌, length, map, set, get_or, refl, sym, ap, ◌∙◌, inl, inr, arith, eq-eqb, w64, replicate}
use Rattle.std.specs.Prelude.{bit_and, bit_or}
use Rattle.std.specs.Int.{bit_at, bit_not}
use Rattle.std.specs.List.{range_with_len, list_any}
use Rattle.std.specs.Prelude.{All}
use Rattle.std.proofs.lemmas.Bool.{cases_eq, cases_lt, ne_eqb, lt-ltb, le-ltb, cond-true, cond-false}
use Rattle.std.proofs.lemmas.Bool.Decides.{nat_tests}
use Rattle.std.proofs.lemmas.List.{take_more, drop_all, take_all, append-nil, ext_get_or, get_or-set_same, get_or-set_other, length-set, length-replicate, get_or-replicate, get_or_past}
use Rattle.std.proofs.lemmas.List.FromFn.{length-map-range_with_len, get_or-map-range_with_len}
use Rattle.std.proofs.lemmas.Nat.Bits.{bit_at-lt, bit_at_and, bit_at_or, bit_at_not, bit_at-zero, bit_at_ones, bit_at_ones_above, bit_at_set_same, bit_at_set_other, bit_at_clear_same, bit_at_clear_other}
use Rattle.cat_model.specs.RowSets.{joined, with_rows}
use Rattle.cat_columns.specs.Bits.{has_bit, is_set, flags_of, IsBits}

pub length-flags_of : (rows : ℕ) (blocks : List ℕ) → length (flags_of rows blocks) ≡ rows
length-flags_of rows blocks = length-map-range_with_len (is_set blocks) 0 rows

pub get_or-flags_of : (rows : ℕ) (blocks : List ℕ) (row : ℕ) (d : Bool) → row < rows → get_or (flags_of rows blocks) row d ≡ is_set blocks row
get_or-flags_of rows blocks row d lt = get_or-map-range_with_len (is_set blocks) 0 rows row row d lt (omega arith)

-- the blocks stand for the flags
pub are_flags : (rows : ℕ) (blocks : List ℕ) (flags : List Bool) → length flags ≡ rows
    → ((row : ℕ) → row < rows → is_set blocks row ≡ get_or flags row false) → flags_of rows blocks ≡ flags
are_flags rows blocks flags long each =
    ext_get_or false (flags_of rows blocks) flags (length-flags_of rows blocks ∙ sym long)
    (λ row lt. let within : row < rows = omega (arith, length-flags_of rows blocks) in get_or-flags_of rows blocks row false within ∙ each row within)

bit_and_test : (a b : ℕ) → a < 2 → b < 2 → eqb (min a b) 1 ≡ (eqb a 1 && eqb b 1)
bit_and_test zero zero p q = refl
bit_and_test zero (suc b) p q = grind (arith, nat_tests)
bit_and_test (suc a) zero p q = grind (arith, nat_tests)
bit_and_test (suc a) (suc b) p q = grind (arith, nat_tests)

pub has_bit-and : (a b i : ℕ) → has_bit (bit_and a b) i ≡ (has_bit a i && has_bit b i)
has_bit-and a b i = ap (λ n. eqb n 1) (bit_at_and a b i) ∙ bit_and_test (bit_at a i) (bit_at b i) (bit_at-lt a i) (bit_at-lt b i)

bit_or_test : (a b : ℕ) → a < 2 → b < 2 → eqb (max a b) 1 ≡ (eqb a 1 || eqb b 1)
bit_or_test zero zero p q = refl
bit_or_test zero (suc b) p q = grind (arith, nat_tests)
bit_or_test (suc a) zero p q = grind (arith, nat_tests)
bit_or_test (suc a) (suc b) p q = grind (arith, nat_tests)

pub has_bit-or : (a b i : ℕ) → has_bit (bit_or a b) i ≡ (has_bit a i || has_bit b i)
has_bit-or a b i = ap (λ n. eqb n 1) (bit_at_or a b i) ∙ bit_or_test (bit_at a i) (bit_at b i) (bit_at-lt a i) (bit_at-lt b i)

bit_not_test : (a : ℕ) → a < 2 → eqb (1 - a) 1 ≡ not (eqb a 1)
bit_not_test zero p = refl
bit_not_test (suc a) p = grind (arith, nat_tests)

pub has_bit-not : (a i : ℕ) → a < 2 ^ 64 → i < 64 → has_bit (bit_not w64 a) i ≡ not (has_bit a i)
has_bit-not a i fits lt = ap (λ n. eqb n 1) (bit_at_not w64 a i fits lt) ∙ bit_not_test (bit_at a i) (bit_at-lt a i)

pub has_bit-zero : (i : ℕ) → has_bit 0 i ≡ false
has_bit-zero i = ap (λ n. eqb n 1) (bit_at-zero i)

-- One block is written, and of its bits only that of the row changes.
pub written : (blocks : List ℕ) (row block : ℕ) (b : Bool) → row / 64 < length blocks → has_bit block (row % 64) ≡ b
    → ((i : ℕ) → i < 64 → i ≢ row % 64 → bit_at block i ≡ bit_at (get_or blocks (row / 64) 0) i)
    → (r : ℕ) → is_set (set blocks (row / 64) block) r ≡ cond (eqb r row) b (is_set blocks r)
written blocks row block b within here others r =
    elim (cases_eq r row) [
      | inl same ↦ rw (same, get_or-set_same blocks (row / 64) block 0 within) (here ∙ sym (cond-true (eqb row row) b (is_set blocks row) (eq-eqb row row refl)))
      | inr apart ↦
          elim (cases_eq (r / 64) (row / 64)) [
            | inl block_of ↦
                ap (λ n. eqb (bit_at n (r % 64)) 1) (ap (λ n. get_or (set blocks (row / 64) block) n 0) block_of ∙ get_or-set_same blocks (row / 64) block 0 within)
                ∙ ap (λ n. eqb n 1) (others (r % 64) (omega arith) (λ e. apart (omega arith)) ∙ ap (λ n. bit_at (get_or blocks n 0) (r % 64)) (sym block_of))
                ∙ sym (cond-false (eqb r row) b (is_set blocks r) (ne_eqb r row apart))
            | inr away ↦
                ap (λ n. eqb (bit_at n (r % 64)) 1) (get_or-set_other blocks (row / 64) (r / 64) block 0 away)
                ∙ sym (cond-false (eqb r row) b (is_set blocks r) (ne_eqb r row apart))
          ]
    ]

-- One operation on blocks does to each row what another does to flags.
pub is_set_joined : (f : Bool → Bool → Bool) (g : ℕ → ℕ → ℕ) (old new other : List ℕ)
    → f false false ≡ false
    → ((a b i : ℕ) → i < 64 → b < 2 ^ 64 → has_bit (g a b) i ≡ f (has_bit a i) (has_bit b i))
    → length new ≡ length old → length other ≡ length old
    → ((k : ℕ) → get_or other k 0 < 2 ^ 64)
    → ((k : ℕ) → k < length old → get_or new k 0 ≡ g (get_or old k 0) (get_or other k 0))
    → (row : ℕ) → is_set new row ≡ f (is_set old row) (is_set other row)
is_set_joined f g old new other none bits new_long other_long fits each row =
    elim (cases_lt (row / 64) (length old)) [
      | inr past ↦
          let out : (blocks : List ℕ) → length blocks ≡ length old → is_set blocks row ≡ false =
          λ blocks long. ap (λ n. has_bit n (row % 64)) (get_or_past blocks (row / 64) 0 (omega arith)) ∙ has_bit-zero (row % 64) in
          out new new_long ∙ sym (ap (λ b. f b (is_set other row)) (out old refl) ∙ ap (f false) (out other other_long) ∙ none)
      | inl within ↦
          ap (λ n. has_bit n (row % 64)) (each (row / 64) within) ∙ bits (get_or old (row / 64) 0) (get_or other (row / 64) 0) (row % 64) (omega arith) (fits (row / 64))
    ]

map_same : {X Y : Type 0} (f g : X → Y) → ((x : X) → f x ≡ g x) → (xs : List X) → map f xs ≡ map g xs
map_same f g same [] = refl
map_same f g same (x ∷ xs) = ap (λ y. y ∷ map f xs) (same x) ∙ ap (λ ys. g x ∷ ys) (map_same f g same xs)

-- Two sets made of tests join to the set of the joined test.
pub joined-map : {X : Type 0} (f : Bool → Bool → Bool) (p q : X → Bool) (xs : List X) → joined f (map p xs) (map q xs) ≡ map (λ x. f (p x) (q x)) xs
joined-map f p q [] = refl
joined-map f p q (x ∷ xs) = ap (λ ys. f (p x) (q x) ∷ ys) (joined-map f p q xs)

pub flags_of-joined : (f : Bool → Bool → Bool) (rows : ℕ) (old new other : List ℕ)
    → ((row : ℕ) → is_set new row ≡ f (is_set old row) (is_set other row))
    → flags_of rows new ≡ joined f (flags_of rows old) (flags_of rows other)
flags_of-joined f rows old new other each =
    map_same (is_set new) (λ row. f (is_set old row) (is_set other row)) each (range_with_len 0 rows)
    ∙ sym (joined-map f (is_set old) (is_set other) (range_with_len 0 rows))

pub flags-length : (rows : ℕ) (blocks : List ℕ) (v : List Bool) → flags_of rows blocks ≡ v → length v ≡ rows
flags-length rows blocks v e = sym (ap length e) ∙ length-flags_of rows blocks

pub flag_at : (rows : ℕ) (blocks : List ℕ) (v : List Bool) (row : ℕ) → flags_of rows blocks ≡ v → row < length v → is_set blocks row ≡ get_or v row false
flag_at rows blocks v row e lt =
    let within : row < rows = omega (arith, flags-length rows blocks v e) in
    sym (get_or-flags_of rows blocks row false within) ∙ ap (λ l. get_or l row false) e

-- the set after one row is written
pub flags-write : (rows : ℕ) (blocks new : List ℕ) (v : List Bool) (row : ℕ) (b : Bool) → flags_of rows blocks ≡ v → row < length v
    → ((r : ℕ) → is_set new r ≡ cond (eqb r row) b (is_set blocks r)) → flags_of rows new ≡ set v row b
flags-write rows blocks new v row b e lt each =
    are_flags rows new (set v row b) (length-set v row b ∙ flags-length rows blocks v e)
    (λ r within. each r ∙ elim (cases_eq r row) [
      | inl same ↦ cond-true (eqb r row) b (is_set blocks r) (eq-eqb r row same) ∙ sym (ap (λ n. get_or (set v row b) n false) same ∙ get_or-set_same v row b false lt)
      | inr apart ↦
          cond-false (eqb r row) b (is_set blocks r) (ne_eqb r row apart)
          ∙ flag_at rows blocks v r e (omega (arith, flags-length rows blocks v e)) ∙ sym (get_or-set_other v row r b false apart)
    ])

pub bits-write : (rows : ℕ) (blocks new : List ℕ) (row : ℕ) (b : Bool) → IsBits rows blocks → length new ≡ length blocks → row < rows
    → ((r : ℕ) → is_set new r ≡ cond (eqb r row) b (is_set blocks r)) → IsBits rows new
bits-write rows blocks new row b is long lt each = record {
  few = is.few;
  long = long ∙ is.long;
  clear = λ r past. each r ∙ cond-false (eqb r row) b (is_set blocks r) (ne_eqb r row (omega arith)) ∙ is.clear r past;
}

pub flags-joined : (f : Bool → Bool → Bool) (rows rows' : ℕ) (old new other : List ℕ) (v u : List Bool)
    → flags_of rows old ≡ v → flags_of rows' other ≡ u → length v ≡ length u
    → ((row : ℕ) → is_set new row ≡ f (is_set old row) (is_set other row))
    → flags_of rows new ≡ joined f v u
flags-joined f rows rows' old new other v u e e' long each =
    let same : rows' ≡ rows = omega (arith, flags-length rows old v e, flags-length rows' other u e') in
    flags_of-joined f rows old new other each ∙ ap (λ l. joined f l (flags_of rows other)) e ∙ ap (joined f v) (ap (λ n. flags_of n other) (sym same) ∙ e')

pub bits-joined : (f : Bool → Bool → Bool) (rows rows' : ℕ) (old new other : List ℕ)
    → f false false ≡ false → IsBits rows old → IsBits rows' other → rows' ≡ rows → length new ≡ length old
    → ((row : ℕ) → is_set new row ≡ f (is_set old row) (is_set other row)) → IsBits rows new
bits-joined f rows rows' old new other none is is' same long each = record {
  few = is.few;
  long = long ∙ is.long;
  clear = λ r past. each r ∙ ap (λ b. f b (is_set other r)) (is.clear r past) ∙ ap (f false) (is'.clear r (omega arith)) ∙ none;
}

pub same-long : (rows rows' : ℕ) (old other : List ℕ) → IsBits rows old → IsBits rows' other → rows' ≡ rows → length old ≡ length other
same-long rows rows' old other is is' same = is.long ∙ sym (ap (λ n. (n + 63) / 64) same) ∙ sym is'.long

-- the set of no row, and of all rows
pub bits-empty : (rows : ℕ) → rows < 2 ^ 32 → (blocks : List ℕ) → blocks ≡ replicate ((rows + 63) / 64) 0 → IsBits rows blocks × (flags_of rows blocks ≡ replicate rows false)
bits-empty rows few blocks e =
    let zeros : (k : ℕ) → get_or blocks k 0 ≡ 0 =
    λ k. ap (λ l. get_or l k 0) e ∙ elim (cases_lt k ((rows + 63) / 64)) [
      | inl within ↦ get_or-replicate ((rows + 63) / 64) k 0 0 within
      | inr past ↦ get_or_past (replicate ((rows + 63) / 64) 0) k 0 (omega (arith, length-replicate {A = ℕ} ((rows + 63) / 64) 0))
    ] in
    let none : (r : ℕ) → is_set blocks r ≡ false = λ r. ap (λ n. has_bit n (r % 64)) (zeros (r / 64)) ∙ has_bit-zero (r % 64) in (
      record { few = few; long = ap length e ∙ length-replicate {A = ℕ} ((rows + 63) / 64) 0; clear = λ r past. none r },
      are_flags rows blocks (replicate rows false) (length-replicate rows false) (λ r lt. none r ∙ sym (get_or-replicate rows r false false lt)),
    )

pub bits-full : (rows : ℕ) → rows < 2 ^ 32 → (blocks : List ℕ) → length blocks ≡ (rows + 63) / 64 → ((r : ℕ) → is_set blocks r ≡ ltb r rows)
    → IsBits rows blocks × (flags_of rows blocks ≡ replicate rows true)
bits-full rows few blocks long each = (
  record { few = few; long = long; clear = λ r past. each r ∙ le-ltb r rows past },
  are_flags rows blocks (replicate rows true) (length-replicate rows true) (λ r lt. each r ∙ lt-ltb r rows lt ∙ sym (get_or-replicate rows r true false lt)),
)

ones_bit : (r : ℕ) → r < 64 → has_bit (2 ^ 64 - 1) r ≡ true
ones_bit r lt = eq-eqb (bit_at (2 ^ 64 - 1) r) 1 (bit_at_ones 64 r lt)

-- blocks of ones, the last one cut
pub full_whole : (rows : ℕ) (blocks : List ℕ) → blocks ≡ replicate ((rows + 63) / 64) (2 ^ 64 - 1) → rows % 64 ≡ 0 → (r : ℕ) → is_set blocks r ≡ ltb r rows
full_whole rows blocks e whole r =
    elim (cases_lt r rows) [
      | inl within ↦
          ap (λ n. has_bit n (r % 64)) (ap (λ l. get_or l (r / 64) 0) e ∙ get_or-replicate ((rows + 63) / 64) (r / 64) (2 ^ 64 - 1) 0 (omega arith))
          ∙ ones_bit (r % 64) (omega arith) ∙ sym (lt-ltb r rows within)
      | inr past ↦
          ap (λ n. has_bit n (r % 64)) (ap (λ l. get_or l (r / 64) 0) e ∙ get_or_past (replicate ((rows + 63) / 64) (2 ^ 64 - 1)) (r / 64) 0 (omega (arith, length-replicate ((rows + 63) / 64) (2 ^ 64 - 1))))
          ∙ has_bit-zero (r % 64) ∙ sym (le-ltb r rows past)
    ]

pub full_cut : (rows : ℕ) (old blocks : List ℕ) → old ≡ replicate ((rows + 63) / 64) (2 ^ 64 - 1) → rows % 64 ≢ 0
    → blocks ≡ set old (rows / 64) (2 ^ (rows % 64) - 1) → (r : ℕ) → is_set blocks r ≡ ltb r rows
full_cut rows old blocks e cut written r =
    let long : length old ≡ (rows + 63) / 64 = ap length e ∙ length-replicate ((rows + 63) / 64) (2 ^ 64 - 1) in
    elim (cases_eq (r / 64) (rows / 64)) [
      | inl last ↦
          let here : get_or blocks (r / 64) 0 ≡ 2 ^ (rows % 64) - 1 = ap (λ l. get_or l (r / 64) 0) written ∙ ap (λ n. get_or (set old (rows / 64) (2 ^ (rows % 64) - 1)) n 0) last ∙ get_or-set_same old (rows / 64) (2 ^ (rows % 64) - 1) 0 (omega arith) in
          ap (λ n. has_bit n (r % 64)) here ∙ elim (cases_lt r rows) [
            | inl within ↦ eq-eqb (bit_at (2 ^ (rows % 64) - 1) (r % 64)) 1 (bit_at_ones (rows % 64) (r % 64) (omega arith)) ∙ sym (lt-ltb r rows within)
            | inr past ↦ ap (λ n. eqb n 1) (bit_at_ones_above (rows % 64) (r % 64) (omega arith)) ∙ sym (le-ltb r rows past)
          ]
      | inr away ↦
          let there : get_or blocks (r / 64) 0 ≡ get_or (replicate ((rows + 63) / 64) (2 ^ 64 - 1)) (r / 64) 0 = ap (λ l. get_or l (r / 64) 0) written ∙ get_or-set_other old (rows / 64) (r / 64) (2 ^ (rows % 64) - 1) 0 away ∙ ap (λ l. get_or l (r / 64) 0) e in
          ap (λ n. has_bit n (r % 64)) there ∙ elim (cases_lt r rows) [
            | inl within ↦
                ap (λ n. has_bit n (r % 64)) (get_or-replicate ((rows + 63) / 64) (r / 64) (2 ^ 64 - 1) 0 (omega arith))
                ∙ ones_bit (r % 64) (omega arith) ∙ sym (lt-ltb r rows within)
            | inr past ↦
                ap (λ n. has_bit n (r % 64)) (get_or_past (replicate ((rows + 63) / 64) (2 ^ 64 - 1)) (r / 64) 0 (omega (arith, length-replicate ((rows + 63) / 64) (2 ^ 64 - 1))))
                ∙ has_bit-zero (r % 64) ∙ sym (le-ltb r rows past)
          ]
    ]

pub has_bit-and_not : (a b i : ℕ) → b < 2 ^ 64 → i < 64 → has_bit (bit_and a (bit_not w64 b)) i ≡ (has_bit a i && not (has_bit b i))
has_bit-and_not a b i fits lt = has_bit-and a (bit_not w64 b) i ∙ ap (λ x. has_bit a i && x) (has_bit-not b i fits lt)

-- `|= 1 << k` and `&= !(1 << k)` in one block
pub row_set : (blocks : List ℕ) (row : ℕ) → row < 64 * length blocks → (r : ℕ)
    → is_set (set blocks (row / 64) (bit_or (get_or blocks (row / 64) 0) (1 * 2 ^ (row % 64) % 2 ^ 64))) r ≡ cond (eqb r row) true (is_set blocks r)
row_set blocks row lt =
    let w : ℕ = get_or blocks (row / 64) 0 in
    written blocks row (bit_or w (1 * 2 ^ (row % 64) % 2 ^ 64)) true (omega arith)
    (eq-eqb (bit_at (bit_or w (1 * 2 ^ (row % 64) % 2 ^ 64)) (row % 64)) 1 (bit_at_set_same w64 w (row % 64) (omega arith)))
    (λ i within apart. bit_at_set_other w64 w (row % 64) (omega arith) i apart)

pub row_cleared : (blocks : List ℕ) (row : ℕ) → row < 64 * length blocks → (r : ℕ)
    → is_set (set blocks (row / 64) (bit_and (get_or blocks (row / 64) 0) (bit_not w64 (1 * 2 ^ (row % 64) % 2 ^ 64)))) r ≡ cond (eqb r row) false (is_set blocks r)
row_cleared blocks row lt =
    let w : ℕ = get_or blocks (row / 64) 0 in
    written blocks row (bit_and w (bit_not w64 (1 * 2 ^ (row % 64) % 2 ^ 64))) false (omega arith)
    (ap (λ n. eqb n 1) (bit_at_clear_same w64 w (row % 64) (omega arith)))
    (λ i within apart. bit_at_clear_other w64 w (row % 64) (omega arith) i within apart)

-- A slice of a whole `Vec` is written back as it is.
pub written_back : {X : Type 0} (n : ℕ) (new old : List X) → length new ≡ length old → n ≡ length old → take n (new ++ drop (length new) old) ≡ new
written_back n new old long len =
    ap (λ l. take n (new ++ l)) (ap (λ k. drop k old) long ∙ drop_all (length old) old (omega arith)) ∙ ap (take n) (append-nil new) ∙ take_all n new (omega arith)

pub joined_back : (f : Bool → Bool → Bool) (rows rows' n : ℕ) (old other old' other' new : List ℕ) (v u : List Bool)
    → f false false ≡ false → IsBits rows old → IsBits rows' other → flags_of rows old ≡ v → flags_of rows' other ≡ u → length v ≡ length u
    → old' ≡ old → other' ≡ other → length new ≡ length old' → length old' ≡ n
    → ((row : ℕ) → is_set new row ≡ f (is_set old' row) (is_set other' row))
    → IsBits rows (take n (new ++ drop (length new) old)) × (flags_of rows (take n (new ++ drop (length new) old)) ≡ joined f v u)
joined_back f rows rows' n old other old' other' new v u none is is' e e' long o o' same len each =
    let back : take n (new ++ drop (length new) old) ≡ new = written_back n new old (same ∙ ap length o) (sym len ∙ ap length o) in
    let all : List ℕ = take n (new ++ drop (length new) old) in
    let rowwise : (row : ℕ) → is_set all row ≡ f (is_set old row) (is_set other row) =
    λ row. ap (λ l. is_set l row) back ∙ each row ∙ ap (λ l. f (is_set l row) (is_set other' row)) o ∙ ap (λ l. f (is_set old row) (is_set l row)) o' in (
      bits-joined f rows rows' old all other none is is' (omega (arith, flags-length rows old v e, flags-length rows' other u e')) (ap length back ∙ same ∙ ap length o) rowwise,
      flags-joined f rows rows' old all other v u e e' long rowwise,
    )

pub write_back : (rows n : ℕ) (old old' new : List ℕ) (v : List Bool) (row : ℕ) (b : Bool)
    → IsBits rows old → flags_of rows old ≡ v → row < length v
    → old' ≡ old → length new ≡ length old' → length old' ≡ n
    → ((r : ℕ) → is_set new r ≡ cond (eqb r row) b (is_set old' r))
    → IsBits rows (take n (new ++ drop (length new) old)) × (flags_of rows (take n (new ++ drop (length new) old)) ≡ set v row b)
write_back rows n old old' new v row b is e lt o same len each =
    let back : take n (new ++ drop (length new) old) ≡ new = written_back n new old (same ∙ ap length o) (sym len ∙ ap length o) in
    let all : List ℕ = take n (new ++ drop (length new) old) in
    let rowwise : (r : ℕ) → is_set all r ≡ cond (eqb r row) b (is_set old r) =
    λ r. ap (λ l. is_set l r) back ∙ each r ∙ ap (λ l. cond (eqb r row) b (is_set l r)) o in (
      bits-write rows old all row b is (ap length back ∙ same ∙ ap length o) (omega (arith, flags-length rows old v e)) rowwise,
      flags-write rows old all v row b e lt rowwise,
    )

pub row_fits : (rows : ℕ) (old old' : List ℕ) (v : List Bool) (row : ℕ) → IsBits rows old → flags_of rows old ≡ v → old' ≡ old → row < length v → row < 64 * length old'
row_fits rows old old' v row is e o lt = omega (arith, flags-length rows old v e, is.long, ap length o)

pub length-full : (n w i x : ℕ) (blocks : List ℕ) → blocks ≡ replicate n w → (length blocks ≡ n) × (length (set blocks i x) ≡ n)
length-full n w i x blocks e =
    let long : length blocks ≡ n = ap length e ∙ length-replicate {A = ℕ} n w in (long, length-set blocks i x ∙ long)

eqb_sym : (a b : ℕ) → eqb a b ≡ eqb b a
eqb_sym a b = elim (cases_eq a b) [
  | inl same ↦ eq-eqb a b same ∙ sym (eq-eqb b a (sym same))
  | inr apart ↦ ne_eqb a b apart ∙ sym (ne_eqb b a (λ e. apart (sym e)))
]

any_push : (p : ℕ → Bool) (xs : List ℕ) (x : ℕ) → list_any p (xs ++ x ∷ []) ≡ (list_any p xs || p x)
any_push p [] x = by (p x)
  where
    by : (b : Bool) → (b || false) ≡ b
    by true = refl
    by false = refl
any_push p (y ∷ ys) x = ap (λ b. p y || b) (any_push p ys x) ∙ by (p y)
  where
    by : (b : Bool) → (b || (list_any p ys || p x)) ≡ ((b || list_any p ys) || p x)
    by true = refl
    by false = refl

-- the bits after one more row is put in
pub set_more : (rows : List ℕ) (i row : ℕ) (blocks old new : List ℕ) → i < length rows → row ≡ get_or rows i 0
    → ((r : ℕ) → is_set old r ≡ (is_set blocks r || list_any (λ k. eqb k r) (take i rows)))
    → ((r : ℕ) → is_set new r ≡ cond (eqb r row) true (is_set old r))
    → (r : ℕ) → is_set new r ≡ (is_set blocks r || list_any (λ k. eqb k r) (take (i + 1) rows))
set_more rows i row blocks old new lt is before step r =
    let all : list_any (λ k. eqb k r) (take (i + 1) rows) ≡ (list_any (λ k. eqb k r) (take i rows) || eqb row r) =
    ap (list_any (λ k. eqb k r)) (take_more rows i 0 lt ∙ ap (λ x. take i rows ++ x ∷ []) (sym is)) ∙ any_push (λ k. eqb k r) (take i rows) row in
    step r ∙ ap (λ b. cond (eqb r row) true b) (before r) ∙ by (eqb r row) (eqb row r) (is_set blocks r) (list_any (λ k. eqb k r) (take i rows)) (eqb_sym r row)
    ∙ ap (λ b. is_set blocks r || b) (sym all)
  where
    by : (a a' b d : Bool) → a ≡ a' → cond a true (b || d) ≡ (b || (d || a'))
    by true true true d e = refl
    by true true false true e = refl
    by true true false false e = refl
    by false false true d e = refl
    by false false false true e = refl
    by false false false false e = refl
    by true false b d e = absurd (cc)
    by false true b d e = absurd (cc)

none_past : (rows : List ℕ) (len r : ℕ) → ((k : ℕ) → k < length rows → get_or rows k 0 < len) → len ≤ r → list_any (λ k. eqb k r) rows ≡ false
none_past [] len r below past = refl
none_past (x ∷ xs) len r below past =
    let first : x < len = below 0 (omega arith) in
    ap (λ b. b || list_any (λ k. eqb k r) xs) (ne_eqb x r (λ e. absurd (omega arith)))
    ∙ none_past xs len r (λ k lt. below (suc k) (omega arith)) past

-- the rows fit into the blocks
pub rows_fit : (len : ℕ) (old old' : List ℕ) (v : List Bool) (rows : List ℕ) → IsBits len old → flags_of len old ≡ v → old' ≡ old
    → All (λ r. r < length v) rows → All (λ r. r < 64 * length old') rows
rows_fit len old old' v rows is e o below k d lt = row_fits len old old' v (get_or rows k d) is e o (below k d lt)

pub all_back : (len n : ℕ) (old old' new : List ℕ) (v : List Bool) (rows : List ℕ)
    → IsBits len old → flags_of len old ≡ v → All (λ r. r < length v) rows
    → old' ≡ old → length new ≡ length old' → length old' ≡ n
    → ((r : ℕ) → is_set new r ≡ (is_set old' r || list_any (λ k. eqb k r) rows))
    → IsBits len (take n (new ++ drop (length new) old)) × (flags_of len (take n (new ++ drop (length new) old)) ≡ with_rows rows v)
all_back len n old old' new v rows is e below o same fits each =
    let back : take n (new ++ drop (length new) old) ≡ new = written_back n new old (same ∙ ap length o) (sym fits ∙ ap length o) in
    let all : List ℕ = take n (new ++ drop (length new) old) in
    let long : length v ≡ len = flags-length len old v e in
    let rowwise : (r : ℕ) → is_set all r ≡ (is_set old r || list_any (λ k. eqb k r) rows) =
    λ r. ap (λ l. is_set l r) back ∙ each r ∙ ap (λ l. is_set l r || list_any (λ k. eqb k r) rows) o in (
      record {
        few = is.few;
        long = ap length back ∙ same ∙ ap length o ∙ is.long;
        clear = λ r past. rowwise r ∙ ap (λ b. b || list_any (λ k. eqb k r) rows) (is.clear r past)
            ∙ none_past rows (length v) r (λ k lt. below k 0 lt) (omega arith);
      },
      are_flags len all (with_rows rows v) (length-map-range_with_len (λ r. get_or v r false || list_any (λ k. eqb k r) rows) 0 (length v) ∙ long)
          (λ r lt. rowwise r ∙ ap (λ b. b || list_any (λ k. eqb k r) rows) (flag_at len old v r e (omega arith))
          ∙ sym (get_or-map-range_with_len (λ r. get_or v r false || list_any (λ k. eqb k r) rows) 0 (length v) r r false (omega arith) (omega arith))),
    )
