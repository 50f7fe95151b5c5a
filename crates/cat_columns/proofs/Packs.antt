-- Tests that are packed into blocks, 64 in each.
use Rattle.std.proofs.Common.{◌≡◌, ℕ, ℤ, pos, ◌+◌, ◌-◌, ◌*◌, ◌/◌, ◌%◌, ◌^◌, ◌<◌, ◌≤◌, min, Bool, true, false, ◌||◌, eqb, not, ◌&&◌, negsuc, unwrap_or, Option, Some, None, List, [], ◌∷◌, ◌++◌, length, map, get_or, drop, take, refl, sym, ap, ◌∙◌, inl, inr, arith, eq-eqb, w64, subst}
use Rattle.std.specs.Prelude.{bit_or}
use mir.Val.{bool_byte}
use Rattle.std.proofs.lemmas.Bool.{cases_eq, cases_lt, le-ltb}
use Rattle.std.proofs.lemmas.List.{get_or-map, get_or_past, length-map, get_or_append_left, get_or-drop, get_or-take, length-take, length_push, length-drop, length-append, drop_all, nil_from_length, map-append, drop-drop, drop-map}
use Rattle.std.proofs.Math.Seq.{get_or-append_seam, drop-append_seam}
use mir.Val.{SFits}
use Rattle.cat_model.specs.Query.{int_le, open_or}
use Rattle.cat_columns.specs.Columns.{is_within, is_between}
use Rattle.std.proofs.lemmas.Nat.Bits.{bit_at_set_same, bit_at_set_other}
use Rattle.cat_columns.specs.Bits.{has_bit, is_set, flags_of, IsBits}
use Rattle.cat_columns.proofs.Bits.{has_bit-or, has_bit-zero, are_flags}

or_false : (b : Bool) → (b || false) ≡ b
or_false true = refl
or_false false = refl

-- the bit of one index after a test is put there
pub bit_put-same : (w k : ℕ) (b : Bool) → k < 64 → has_bit w k ≡ false → has_bit (bit_or w (bool_byte b * 2 ^ k % 2 ^ 64)) k ≡ b
bit_put-same w k true lt none = eq-eqb _ 1 (bit_at_set_same w64 w k lt)
bit_put-same w k false lt none =
    let nothing : 0 * 2 ^ k % 2 ^ 64 ≡ 0 = omega arith in
    ap (λ n. has_bit (bit_or w n) k) nothing ∙ has_bit-or w 0 k ∙ ap (λ b. has_bit w k || b) (has_bit-zero k) ∙ or_false (has_bit w k) ∙ none

-- and those of the others
pub bit_put-other : (w k i : ℕ) (b : Bool) → k < 64 → (i ≡ k → ⊥) → has_bit (bit_or w (bool_byte b * 2 ^ k % 2 ^ 64)) i ≡ has_bit w i
bit_put-other w k i true lt apart = ap (λ n. eqb n 1) (bit_at_set_other w64 w k lt i apart)
bit_put-other w k i false lt apart =
    let nothing : 0 * 2 ^ k % 2 ^ 64 ≡ 0 = omega arith in
    ap (λ n. has_bit (bit_or w n) i) nothing ∙ has_bit-or w 0 i ∙ ap (λ b. has_bit w i || b) (has_bit-zero i) ∙ or_false (has_bit w i)

-- one test more in a block
pub bits_done : (test : ℤ → Bool) (values : List ℤ) (w k : ℕ) (b : Bool) → k < 64 → b ≡ test (get_or values k (pos 0))
    → ((i : ℕ) → i < k → has_bit w i ≡ test (get_or values i (pos 0))) → ((i : ℕ) → k ≤ i → has_bit w i ≡ false)
    → (i : ℕ) → i < k + 1 → has_bit (bit_or w (bool_byte b * 2 ^ k % 2 ^ 64)) i ≡ test (get_or values i (pos 0))
bits_done test values w k b lt is done left i below =
    elim (cases_eq i k) [
      | inl same ↦ rw same (bit_put-same w k b lt (left k (omega arith)) ∙ is)
      | inr apart ↦ bit_put-other w k i b lt apart ∙ done i (omega arith)
    ]

pub bits_left : (w k : ℕ) (b : Bool) → k < 64 → ((i : ℕ) → k ≤ i → has_bit w i ≡ false)
    → (i : ℕ) → k + 1 ≤ i → has_bit (bit_or w (bool_byte b * 2 ^ k % 2 ^ 64)) i ≡ false
bits_left w k b lt left i past = bit_put-other w k i b lt (λ e. absurd (omega arith)) ∙ left i (omega arith)

-- a block of all tests
pub bits_all : (test : ℤ → Bool) (values : List ℤ) (w k : ℕ) → length values ≤ k
    → ((i : ℕ) → i < k → has_bit w i ≡ test (get_or values i (pos 0))) → ((i : ℕ) → k ≤ i → has_bit w i ≡ false) → k ≤ length values
    → (i : ℕ) → has_bit w i ≡ get_or (map test values) i false
bits_all test values w k all done left le i =
    elim (cases_lt i k) [
      | inl within ↦ done i within ∙ sym (get_or-map test values i (pos 0) false (omega arith))
      | inr past ↦ left i past ∙ sym (get_or_past (map test values) i false (omega (arith, length-map values test)))
    ]

-- one block more, of the next 64 tests or of those that are left
pub blocks_more : (tests cs rest : List Bool) (blocks : List ℕ) (w : ℕ) → drop (64 * length blocks) tests ≡ cs ++ rest → length cs ≡ min 64 (length (drop (64 * length blocks) tests))
    → ((i : ℕ) → has_bit w i ≡ get_or cs i false) → ((row : ℕ) → row < 64 * length blocks → is_set blocks row ≡ get_or tests row false)
    → (row : ℕ) → row < 64 * (length blocks + 1) → is_set (blocks ++ w ∷ []) row ≡ get_or tests row false
blocks_more tests cs rest blocks w parts long bits old row below =
    elim (cases_lt row (64 * length blocks)) [
      | inl within ↦ ap (λ n. has_bit n (row % 64)) (get_or_append_left blocks (w ∷ []) 0 (row / 64) (omega arith)) ∙ old row within
      | inr past ↦
          let block : row / 64 ≡ length blocks = omega arith in
          let bit : ℕ = row % 64 in
          let index : row ≡ 64 * length blocks + bit = omega arith in
          ap (λ k. has_bit (get_or (blocks ++ w ∷ []) k 0) bit) block ∙ ap (λ n. has_bit n bit) (get_or-append_seam blocks w [] 0)
          ∙ bits bit
          ∙ elim (cases_lt bit (length cs)) [
            | inl here ↦ sym (get_or_append_left cs rest false bit here) ∙ ap (λ l. get_or l bit false) (sym parts)
            | inr out ↦
                get_or_past cs bit false out
                ∙ sym (get_or_past (drop (64 * length blocks) tests) bit false (omega arith))
          ]
          ∙ get_or-drop (64 * length blocks) tests bit false ∙ ap (λ k. get_or tests k false) (sym index)
    ]

-- the blocks of all tests
pub blocks_all : (tests : List Bool) (blocks : List ℕ) → length tests ≤ 64 * length blocks → ((row : ℕ) → row < 64 * length blocks → is_set blocks row ≡ get_or tests row false)
    → (row : ℕ) → is_set blocks row ≡ get_or tests row false
blocks_all tests blocks all old row =
    elim (cases_lt row (64 * length blocks)) [
      | inl within ↦ old row within
      | inr past ↦
          ap (λ n. has_bit n (row % 64)) (get_or_past blocks (row / 64) 0 (omega arith)) ∙ has_bit-zero (row % 64)
          ∙ sym (get_or_past tests row false (omega arith))
    ]

-- blocks whose bits are tests are the set of these tests
pub IsBits-tests : (tests : List Bool) (blocks : List ℕ) → length tests < 2 ^ 32 → length blocks ≡ (length tests + 63) / 64
    → ((row : ℕ) → is_set blocks row ≡ get_or tests row false) → IsBits (length tests) blocks
IsBits-tests tests blocks few long bits = record { few = few; long = long; clear = λ row past. bits row ∙ get_or_past tests row false past }

pub flags_of-tests : (tests : List Bool) (blocks : List ℕ) → ((row : ℕ) → is_set blocks row ≡ get_or tests row false) → flags_of (length tests) blocks ≡ tests
flags_of-tests tests blocks bits = are_flags (length tests) blocks tests refl (λ row lt. bits row)

-- open ends are the least and the greatest number
open_low : (low : Option ℤ) (n : ℤ) → SFits w64 n → int_le (unwrap_or low (negsuc 9223372036854775807)) n ≡ open_or (λ a. int_le a n) low
open_low None (pos n) fits = refl
open_low None (negsuc n) fits = ap not (le-ltb 9223372036854775807 n (let f : n < 2 ^ 63 = fits.sfits in omega arith))
open_low (Some a) n fits = refl

open_high : (high : Option ℤ) (n : ℤ) → SFits w64 n → int_le n (unwrap_or high (pos 9223372036854775807)) ≡ open_or (int_le n) high
open_high None (pos n) fits = ap not (le-ltb 9223372036854775807 n (let f : n < 2 ^ 63 = fits.sfits in omega arith))
open_high None (negsuc n) fits = refl
open_high (Some b) n fits = refl

pub within_between : (low high : Option ℤ) (n a b : ℤ) → SFits w64 n → a ≡ unwrap_or low (negsuc 9223372036854775807) → b ≡ unwrap_or high (pos 9223372036854775807)
    → is_within a b n ≡ is_between low high n
within_between low high n a b fits ea eb =
    ap (λ x. int_le x n && int_le n b) ea ∙ ap (λ y. int_le (unwrap_or low (negsuc 9223372036854775807)) n && int_le n y) eb
    ∙ ap (λ t. t && int_le n (unwrap_or high (pos 9223372036854775807))) (open_low low n fits)
    ∙ ap (λ t. open_or (λ a. int_le a n) low && t) (open_high high n fits)

-- the set of the numbers that pass a test, from blocks whose bits say so
pub rows_of_tests : (test : ℤ → Bool) (ns : List ℤ) (blocks : List ℕ) → length ns < 2 ^ 32
    → length blocks ≡ (length ns + 63) / 64 → ((row : ℕ) → is_set blocks row ≡ get_or (map test ns) row false)
    → IsBits (length ns) blocks × (flags_of (length ns) blocks ≡ map test ns)
rows_of_tests test ns blocks few long bits =
    let tests : List Bool = map test ns in
    let same : length tests ≡ length ns = length-map ns test in (
      subst (λ n. IsBits n blocks) same (IsBits-tests tests blocks (omega arith) (long ∙ ap (λ n. (n + 63) / 64) (sym same)) bits),
      subst (λ n. flags_of n blocks ≡ tests) same (flags_of-tests tests blocks bits),
    )

-- what a scan of 64 numbers after another keeps
pub record Packed (test : ℤ → Bool) (ns rest : List ℤ) (blocks : List ℕ) : Type 0 where
  pub rest_is : rest ≡ drop (64 * length blocks) ns
  pub near : 64 * length blocks < length ns + 64
  pub bits : (row : ℕ) → row < 64 * length blocks → is_set blocks row ≡ get_or (map test ns) row false

drop_chunk : (chunk rest : List ℤ) → length chunk ≡ min 64 (length (chunk ++ rest)) → drop 64 (chunk ++ rest) ≡ rest
drop_chunk chunk rest long =
    elim (cases_lt (length chunk) 64) [
      | inl short ↦
          let none : rest ≡ [] = nil_from_length rest (omega (arith, length-append chunk rest)) in
          drop_all 64 (chunk ++ rest) (omega (arith, length-append chunk rest)) ∙ sym none
      | inr full ↦
          let whole : 64 ≡ length chunk = omega arith in
          ap (λ k. drop k (chunk ++ rest)) whole ∙ drop-append_seam chunk rest
    ]

pub packed_more : (test : ℤ → Bool) (ns rest chunk rest' : List ℤ) (blocks blocks' : List ℕ) (w size : ℕ) → Packed test ns rest blocks → size ≡ 64
    → rest ≡ chunk ++ rest' → length chunk ≡ min size (length rest) → 0 < length rest → blocks' ≡ blocks ++ w ∷ []
    → ((i : ℕ) → has_bit w i ≡ get_or (map test chunk) i false) → Packed test ns rest' blocks'
packed_more test ns rest chunk rest' blocks blocks' w size p full parts long some push bits =
    let n : ℕ = 64 * length blocks in
    let more : length blocks' ≡ length blocks + 1 = ap length push ∙ length_push blocks w in
    let left : length rest ≡ length ns - n = ap length p.rest_is ∙ length-drop n ns in
    let size_is : length chunk ≡ min 64 (length rest) = long ∙ ap (λ k. min k (length rest)) full in
    let next : n + 64 ≡ 64 * length blocks' = omega arith in
    let there : drop n (map test ns) ≡ map test chunk ++ map test rest' = drop-map test n ns ∙ ap (map test) (sym p.rest_is ∙ parts) ∙ map-append test chunk rest' in
    let as_long : length (map test chunk) ≡ min 64 (length (drop n (map test ns))) =
    length-map chunk test ∙ size_is ∙ ap (min 64) (left ∙ sym (length-drop n (map test ns) ∙ ap (λ k. k - n) (length-map ns test))) in record {
      rest_is = sym (drop_chunk chunk rest' (size_is ∙ ap (λ l. min 64 (length l)) parts)) ∙ ap (drop 64) (sym parts ∙ p.rest_is) ∙ drop-drop 64 n ns ∙ ap (λ k. drop k ns) next;
      near = omega arith;
      bits = λ row lt. ap (λ l. is_set l row) push ∙ blocks_more (map test ns) (map test chunk) (map test rest') blocks w there as_long bits p.bits row (omega arith);
    }

pub packed_all : (test : ℤ → Bool) (ns rest : List ℤ) (blocks : List ℕ) → Packed test ns rest blocks → length rest ≡ 0
    → (length blocks ≡ (length ns + 63) / 64) × ((row : ℕ) → is_set blocks row ≡ get_or (map test ns) row false)
packed_all test ns rest blocks p none =
    let left : 0 ≡ length ns - 64 * length blocks = sym none ∙ ap length p.rest_is ∙ length-drop (64 * length blocks) ns in
    (let near : 64 * length blocks < length ns + 64 = p.near in omega arith, blocks_all (map test ns) blocks (omega (arith, length-map ns test)) p.bits)

pub packed_none : (test : ℤ → Bool) (ns rest : List ℤ) (blocks : List ℕ) → blocks ≡ [] → rest ≡ ns → Packed test ns rest blocks
packed_none test ns rest blocks none all = record {
  rest_is = all ∙ ap (λ l. drop (64 * length l) ns) (sym none);
  near = omega (arith, ap length none);
  bits = λ row lt. absurd (omega (arith, ap length none));
}

-- a block of tests of the next 64 numbers, or of those that are left
pub bits_in_block : (test : ℤ → Bool) (ns rest near : List ℤ) (w start n : ℕ) → rest ≡ drop start ns → near ≡ take n rest → n ≡ min (length rest) 64
    → ((i : ℕ) → has_bit w i ≡ get_or (map test near) i false) → (i : ℕ) → i < 64 → has_bit w i ≡ get_or (map test ns) (start + i) false
bits_in_block test ns rest near w start n behind front many bits i below =
    let left : length rest ≡ length ns - start = ap length behind ∙ length-drop start ns in
    let long : length near ≡ min n (length rest) = ap length front ∙ length-take n rest in
    bits i
    ∙ elim (cases_lt i n) [
      | inl within ↦
          get_or-map test near i (pos 0) false (omega arith)
          ∙ ap test (ap (λ l. get_or l i (pos 0)) front ∙ get_or-take n rest i (pos 0) within ∙ ap (λ l. get_or l i (pos 0)) behind ∙ get_or-drop start ns i (pos 0))
          ∙ sym (get_or-map test ns (start + i) (pos 0) false (omega arith))
      | inr past ↦
          get_or_past (map test near) i false (omega (arith, length-map near test))
          ∙ sym (get_or_past (map test ns) (start + i) false (omega (arith, length-map ns test)))
    ]

pub bits_past_block : (test : ℤ → Bool) (rest near : List ℤ) (w n : ℕ) → near ≡ take n rest → n ≡ min (length rest) 64
    → ((i : ℕ) → has_bit w i ≡ get_or (map test near) i false) → (i : ℕ) → 64 ≤ i → has_bit w i ≡ false
bits_past_block test rest near w n front many bits i past =
    let long : length near ≡ min n (length rest) = ap length front ∙ length-take n rest in
    bits i ∙ get_or_past (map test near) i false (omega (arith, length-map near test))
