-- The bits of bytes, and of the blocks that hold them.
use Rattle.std.proofs.Common.{◌≡◌, ◌≢◌, ◌↔◌, ℕ, zero, suc, ◌+◌, ◌*◌, ◌/◌, ◌%◌, ◌^◌, ◌<◌, ◌≤◌, Bool, false, eqb, List, [], ◌∷◌, ◌++◌, length, get_or, set, map, refl, sym, ap, ◌∙◌, inl, inr, arith, w64, eq-eqb, IsTrue}
use Rattle.std.specs.Prelude.{bit_and, All, Result, Ok, Err, IfOk, IfErr}
use Rattle.std.specs.Int.{bit_at, to_le_bytes, from_le_bytes}
use Rattle.std.proofs.lemmas.Bool.{cases_lt, cases_eq, true≢false}
use Rattle.std.proofs.lemmas.Bool.Decides.{Decides-eqb}
use Rattle.std.proofs.lemmas.Nat.{shr-shr, shr_split, and_mask, le_bytes_8}
use Rattle.std.proofs.lemmas.Nat.Bits.{bit_at_cat_low, bit_at-zero, bit_at-lt, bit_at_above, same_from_bits}
use Rattle.std.proofs.lemmas.List.{get_or_past, get_or_append_left, get_or-set_same, get_or-set_other}
use Rattle.std.proofs.lemmas.List.Elements.{All-from_get_or}
use Rattle.std.proofs.lemmas.List.FromFn.{length-map-range_with_len, get_or-map-range_with_len}
use Rattle.std.proofs.Math.Seq.{get_or-append_seam}
use Rattle.std.specs.List.{range_with_len}
use Rattle.cat_columns.specs.Bits.{has_bit, is_set, has_row_bit, flags_of, IsBits}
use Rattle.cat_model.specs.RowSets.{IsPacked}
use Rattle.cat_columns.proofs.Bits.{has_bit-zero, flags-length, flag_at, length-flags_of}
use Rattle.cat_columns.proofs.Scans.{shifted_bit, no_bit}

-- the bits of one byte of a number
low_bit : (n i : ℕ) → i < 8 → bit_at (n % 2 ^ 8) i ≡ bit_at n i
low_bit n i lt = sym (bit_at_cat_low (n / 2 ^ 8) 8 (n % 2 ^ 8) i lt) ∙ ap (λ k. bit_at k i) (shr_split n 8)

pub byte_bit : (n k i : ℕ) → i < 8 → bit_at (n / 2 ^ k % 2 ^ 8) i ≡ bit_at n (k + i)
byte_bit n k i lt = low_bit (n / 2 ^ k) i lt ∙ ap (λ m. m % 2) (shr-shr n k i)

-- a byte of blocks
pub byte_of_blocks : (blocks : List ℕ) (index i : ℕ) → i < 8
    → has_bit (bit_and (get_or blocks (index / 8) 0 / 2 ^ (8 * (index % 8))) 255) i ≡ is_set blocks (8 * index + i)
byte_of_blocks blocks index i lt =
    let w : ℕ = get_or blocks (index / 8) 0 in
    let block : index / 8 ≡ (8 * index + i) / 64 = omega arith in
    let bit : 8 * (index % 8) + i ≡ (8 * index + i) % 64 = omega arith in
    ap (λ n. eqb (bit_at n i) 1) (and_mask (w / 2 ^ (8 * (index % 8))) 8) ∙ ap (λ n. eqb n 1) (byte_bit w (8 * (index % 8)) i lt)
    ∙ ap (has_bit w) bit ∙ ap (λ k. has_bit (get_or blocks k 0) ((8 * index + i) % 64)) block

byte_is : (n j : ℕ) → j < 8 → get_or (to_le_bytes w64 n) j 0 ≡ n / 2 ^ (8 * j) % 2 ^ 8
byte_is n zero lt = let whole : n / 1 ≡ n = omega arith in ap (λ m. m % 256) (sym whole)
byte_is n (suc zero) lt = refl
byte_is n (suc (suc zero)) lt = refl
byte_is n (suc (suc (suc zero))) lt = refl
byte_is n (suc (suc (suc (suc zero)))) lt = refl
byte_is n (suc (suc (suc (suc (suc zero))))) lt = refl
byte_is n (suc (suc (suc (suc (suc (suc zero)))))) lt = refl
byte_is n (suc (suc (suc (suc (suc (suc (suc zero))))))) lt = refl
byte_is n (suc (suc (suc (suc (suc (suc (suc (suc j)))))))) lt = absurd (omega arith)

-- a block made of bytes
pub block_of_bytes : (bytes : List ℕ) (n i : ℕ) → length bytes ≡ 8 → ((j : ℕ) → get_or bytes j 0 < 256) → n ≡ from_le_bytes w64 bytes → i < 64
    → has_bit n i ≡ has_bit (get_or bytes (i / 8) 0) (i % 8)
block_of_bytes bytes n i long fits is lt =
    let at : 8 * (i / 8) + i % 8 ≡ i = omega arith in
    sym (
    ap (λ l. has_bit (get_or l (i / 8) 0) (i % 8)) (sym (le_bytes_8 bytes n long fits is))
    ∙ ap (λ m. has_bit m (i % 8)) (byte_is n (i / 8) (omega arith))
    ∙ ap (λ m. eqb m 1) (byte_bit n (8 * (i / 8)) (i % 8) (omega arith)) ∙ ap (has_bit n) at
    )

-- the bit of a row in the byte that holds it
pub row_bit : (bytes : List ℕ) (from i : ℕ) → has_bit (get_or bytes (from + i / 8) 0) (i % 8) ≡ has_row_bit bytes (8 * from + i)
row_bit bytes from i =
    let byte : from + i / 8 ≡ (8 * from + i) / 8 = omega arith in
    let bit : i % 8 ≡ (8 * from + i) % 8 = omega arith in
    ap (λ k. has_bit (get_or bytes k 0) (i % 8)) byte ∙ ap (has_bit (get_or bytes ((8 * from + i) / 8) 0)) bit

pub row_bit_past : (bytes : List ℕ) (row : ℕ) → 8 * length bytes ≤ row → has_row_bit bytes row ≡ false
row_bit_past bytes row past = ap (λ w. has_bit w (row % 8)) (get_or_past bytes (row / 8) 0 (omega arith)) ∙ has_bit-zero (row % 8)

-- a byte more
pub byte_more : (f : ℕ → Bool) (bytes bytes' : List ℕ) (b index : ℕ) → length bytes ≡ index → bytes' ≡ bytes ++ b ∷ [] → ((i : ℕ) → i < 8 → has_bit b i ≡ f (8 * index + i))
    → ((row : ℕ) → row < 8 * index → has_row_bit bytes row ≡ f row) → (row : ℕ) → row < 8 * (index + 1) → has_row_bit bytes' row ≡ f row
byte_more f bytes bytes' b index long push bits done row lt =
    ap (λ l. has_row_bit l row) push ∙ elim (cases_lt row (8 * index)) [
      | inl before ↦ ap (λ w. has_bit w (row % 8)) (get_or_append_left bytes (b ∷ []) 0 (row / 8) (omega arith)) ∙ done row before
      | inr last ↦
          let byte : row / 8 ≡ length bytes = omega arith in
          let at : 8 * index + row % 8 ≡ row = omega arith in
          ap (λ k. has_bit (get_or (bytes ++ b ∷ []) k 0) (row % 8)) byte ∙ ap (λ w. has_bit w (row % 8)) (get_or-append_seam bytes b [] 0)
          ∙ bits (row % 8) (omega arith) ∙ ap f at
    ]

-- a block more
pub block_more : (f : ℕ → Bool) (blocks blocks' : List ℕ) (w k : ℕ) → length blocks ≡ k → blocks' ≡ blocks ++ w ∷ [] → ((i : ℕ) → i < 64 → has_bit w i ≡ f (8 * (8 * k) + i))
    → ((row : ℕ) → row < 64 * k → is_set blocks row ≡ f row) → (row : ℕ) → row < 64 * (k + 1) → is_set blocks' row ≡ f row
block_more f blocks blocks' w k long push bits done row lt =
    ap (λ l. is_set l row) push ∙ elim (cases_lt row (64 * k)) [
      | inl before ↦ ap (λ v. has_bit v (row % 64)) (get_or_append_left blocks (w ∷ []) 0 (row / 64) (omega arith)) ∙ done row before
      | inr last ↦
          let block : row / 64 ≡ length blocks = omega arith in
          let at : 8 * (8 * k) + row % 64 ≡ row = omega arith in
          ap (λ j. has_bit (get_or (blocks ++ w ∷ []) j 0) (row % 64)) block ∙ ap (λ v. has_bit v (row % 64)) (get_or-append_seam blocks w [] 0)
          ∙ bits (row % 64) (omega arith) ∙ ap f at
    ]

-- no bit is set from a row on
no_one : (b : ℕ) → b < 2 → eqb b 1 ≡ false → b ≡ 0
no_one zero lt e = refl
no_one (suc zero) lt e = absurd (true≢false e)
no_one (suc (suc b)) lt e = absurd (omega arith)

pub clear_from : (bytes : List ℕ) (row : ℕ) → length bytes ≡ (row + 7) / 8 → row % 8 ≢ 0 → get_or bytes (row / 8) 0 < 2 ^ 8
    → IsTrue (eqb (get_or bytes (row / 8) 0 / 2 ^ (row % 8)) 0) ↔ ((r : ℕ) → row ≤ r → has_row_bit bytes r ≡ false)
clear_from bytes row long part fits =
    let b : ℕ = get_or bytes (row / 8) 0 in
    let k : ℕ = row % 8 in (
      λ t r le. elim (cases_lt (row / 8) (r / 8)) [
        | inl later ↦ row_bit_past bytes r (omega arith)
        | inr last ↦
            let byte : r / 8 ≡ row / 8 = omega arith in
            ap (λ j. has_bit (get_or bytes j 0) (r % 8)) byte ∙ no_bit b k (r % 8) ((Decides-eqb (b / 2 ^ k) 0).0 t) (omega arith)
      ],
      λ clear. eq-eqb (b / 2 ^ k) 0 (same_from_bits (b / 2 ^ k) 0 (λ i. shifted_bit b k i ∙ none i (clear (8 * (row / 8) + (k + i))) ∙ sym (bit_at-zero i))),
    )
  where
    none : (i : ℕ) → (row ≤ 8 * (row / 8) + (row % 8 + i) → has_row_bit bytes (8 * (row / 8) + (row % 8 + i)) ≡ false) → bit_at (get_or bytes (row / 8) 0) (row % 8 + i) ≡ 0
    none i clear = elim (cases_lt (row % 8 + i) 8) [
      | inl within ↦
          let byte : (8 * (row / 8) + (row % 8 + i)) / 8 ≡ row / 8 = omega arith in
          let bit : (8 * (row / 8) + (row % 8 + i)) % 8 ≡ row % 8 + i = omega arith in
          no_one (bit_at (get_or bytes (row / 8) 0) (row % 8 + i)) (bit_at-lt (get_or bytes (row / 8) 0) (row % 8 + i))
          (sym (ap (λ j. has_bit (get_or bytes j 0) ((8 * (row / 8) + (row % 8 + i)) % 8)) byte ∙ ap (has_bit (get_or bytes (row / 8) 0)) bit) ∙ clear (omega arith))
      | inr past ↦ bit_at_above (get_or bytes (row / 8) 0) 8 (row % 8 + i) fits past
    ]

-- the bytes of a set
pub IsPacked-of : (len : ℕ) (blocks blocks' bytes : List ℕ) (v : List Bool) → IsBits len blocks → flags_of len blocks ≡ v → blocks' ≡ blocks → length bytes ≡ (len + 7) / 8
    → All (λ b. b < 256) bytes → ((row : ℕ) → row < 8 * ((len + 7) / 8) → has_row_bit bytes row ≡ is_set blocks' row) → IsPacked bytes v
IsPacked-of len blocks blocks' bytes v is e same long fits bits =
    let rows : length v ≡ len = flags-length len blocks v e in record {
      long = long ∙ ap (λ n. (n + 7) / 8) (sym rows);
      bytes = fits;
      bits = λ row lt. bits row (omega arith) ∙ ap (λ l. is_set l row) same ∙ elim (cases_lt row (length v)) [
        | inl within ↦ flag_at len blocks v row e within
        | inr past ↦ is.clear row (omega arith) ∙ sym (get_or_past v row false past)
      ];
    }

-- the set of bytes
module _ (len : ℕ) (blocks bytes : List ℕ) (few : len < 2 ^ 32) (long : length bytes ≡ (len + 7) / 8) (blocks_long : length blocks ≡ (length bytes + 7) / 8)
    (bits : (row : ℕ) → is_set blocks row ≡ has_row_bit bytes row) (clear : (r : ℕ) → len ≤ r → has_row_bit bytes r ≡ false) where
  pub IsBits-from : IsBits len blocks
  IsBits-from = record { few = few; long = omega arith; clear = λ row past. bits row ∙ clear row past }

  pub IsPacked-from : ((k : ℕ) → k < length bytes → get_or bytes k 0 < 256) → (length (flags_of len blocks) ≡ len) × IsPacked bytes (flags_of len blocks)
  IsPacked-from fits = (
    length-flags_of len blocks,
    IsPacked-of len blocks blocks bytes (flags_of len blocks) IsBits-from refl refl long (All-from_get_or (λ b. b < 256) bytes 0 fits) (λ row lt. sym (bits row)),
  )

-- bytes with no bit past the last row are of the set of the rows whose bits are 1
pub packed_rows : (len : ℕ) (bytes : List ℕ) → length bytes ≡ (len + 7) / 8 → ((k : ℕ) → k < length bytes → get_or bytes k 0 < 256) → ((row : ℕ) → len ≤ row → has_row_bit bytes row ≡ false)
    → (length (map (has_row_bit bytes) (range_with_len 0 len)) ≡ len) × IsPacked bytes (map (has_row_bit bytes) (range_with_len 0 len))
packed_rows len bytes long fits clear =
    let set : List Bool = map (has_row_bit bytes) (range_with_len 0 len) in
    let whole : length set ≡ len = length-map-range_with_len (has_row_bit bytes) 0 len in (
      whole,
      record {
        long = omega arith;
        bytes = All-from_get_or (λ b. b < 256) bytes 0 fits;
        bits = λ row lt. elim (cases_lt row len) [
          | inl within ↦ sym (get_or-map-range_with_len (has_row_bit bytes) 0 len row row false within (let at : 0 + row ≡ row = omega arith in at))
          | inr past ↦ clear row past ∙ sym (get_or_past set row false (omega arith))
        ];
      },
    )

-- a byte more of an array of eight
pub put_more : (bytes block : List ℕ) (from index b : ℕ) → length block ≡ 8 → index < 8 → b ≡ get_or bytes (from + index) 0
    → ((j : ℕ) → j < index → get_or block j 0 ≡ get_or bytes (from + j) 0) → (j : ℕ) → j < index + 1 → get_or (set block index b) j 0 ≡ get_or bytes (from + j) 0
put_more bytes block from index b long lt is done j below = elim (cases_eq j index) [
  | inl same ↦ ap (λ k. get_or (set block index b) k 0) same ∙ get_or-set_same block index b 0 (omega arith) ∙ is ∙ ap (λ k. get_or bytes (from + k) 0) (sym same)
  | inr apart ↦ get_or-set_other block index j b 0 apart ∙ done j (omega arith)
]

pub eight_fit : (bytes block : List ℕ) (from : ℕ) → length block ≡ 8 → ((j : ℕ) → j < 8 → get_or block j 0 ≡ get_or bytes (from + j) 0)
    → ((j : ℕ) → get_or bytes j 0 < 2 ^ 8) → (j : ℕ) → get_or block j 0 < 256
eight_fit bytes block from long done fits j = elim (cases_lt j 8) [
  | inl within ↦ omega (arith, done j within, fits (from + j))
  | inr past ↦ omega (arith, get_or_past block j 0 (omega arith))
]

-- three facts of what an `Ok` holds give a fourth
pub from_three : {T E : Type 0} (r : Result T E) (P Q R S : T → Type 0) → ((x : T) → P x → Q x → R x → S x) → IfOk r P → IfOk r Q → IfOk r R → IfOk r S
from_three (Ok x) P Q R S gives p q r = gives x p q r
from_three (Err e) P Q R S gives p q r = tt

-- a fact of every error
pub if_err : {T E : Type 0} (r : Result T E) (P : E → Type 0) → ((e : E) → P e) → IfErr r P
if_err (Ok x) P all = tt
if_err (Err e) P all = all e
