-- The bytes of the set of all rows.
use Rattle.std.proofs.Common.{◌≡◌, ◌≢◌, ℕ, ◌+◌, ◌-◌, ◌*◌, ◌/◌, ◌%◌, ◌^◌, ◌<◌, true, false, eqb, List, length, replicate, get_or, sym, ap, ◌∙◌, inl, inr, arith, eq-eqb}
use Rattle.std.specs.Int.{bit_at}
use Rattle.std.proofs.lemmas.Bool.{cases_lt}
use Rattle.std.proofs.lemmas.Nat.Bits.{bit_at_ones, bit_at_ones_above, bit_at-lt, same_from_bits_below}
use Rattle.std.proofs.lemmas.List.{get_or-replicate, get_or_past, length-replicate}
use Rattle.std.proofs.lemmas.List.Elements.{All-from_get_or}
use Rattle.cat_model.specs.RowSets.{IsPacked, has_row}
use Rattle.cat_columns.specs.Bits.{has_bit, has_row_bit}
use Rattle.cat_columns.proofs.Bytes.{row_bit_past}
use Rattle.cat_columns.proofs.Told.{one_bit}

-- a byte of rows that are all there, and one with the last rows
pub whole_byte : (len index i : ℕ) → index < len / 8 → i < 8 → has_bit 255 i ≡ has_row (replicate len true) (8 * index + i)
whole_byte len index i lt below = eq-eqb (bit_at 255 i) 1 (bit_at_ones 8 i below) ∙ sym (get_or-replicate len (8 * index + i) true false (omega arith))

pub last_byte : (len index b i : ℕ) → index ≡ len / 8 → b ≡ 2 ^ (len % 8) - 1 → i < 8 → has_bit b i ≡ has_row (replicate len true) (8 * index + i)
last_byte len index b i at is below = ap (λ w. has_bit w i) is ∙ elim (cases_lt i (len % 8)) [
  | inl within ↦ eq-eqb (bit_at (2 ^ (len % 8) - 1) i) 1 (bit_at_ones (len % 8) i within) ∙ sym (get_or-replicate len (8 * index + i) true false (omega arith))
  | inr past ↦
      ap (λ n. eqb n 1) (bit_at_ones_above (len % 8) i past)
      ∙ sym (get_or_past (replicate len true) (8 * index + i) false (omega (arith, length-replicate len true)))
]

-- a byte more is as it is to be
pub full_more : (bytes : List ℕ) (len index b : ℕ) → get_or bytes index 0 ≡ b → ((i : ℕ) → i < 8 → has_bit b i ≡ has_row (replicate len true) (8 * index + i))
    → ((r : ℕ) → r < 8 * index → has_row_bit bytes r ≡ has_row (replicate len true) r) → (r : ℕ) → r < 8 * (index + 1) → has_row_bit bytes r ≡ has_row (replicate len true) r
full_more bytes len index b is bits done r lt = elim (cases_lt r (8 * index)) [
  | inl before ↦ done r before
  | inr last ↦
      let byte : r / 8 ≡ index = omega arith in
      let at : 8 * index + r % 8 ≡ r = omega arith in
      ap (λ k. has_bit (get_or bytes k 0) (r % 8)) byte ∙ ap (λ w. has_bit w (r % 8)) is ∙ bits (r % 8) (omega arith) ∙ ap (has_row (replicate len true)) at
]

-- and one that isn't
pub not_full : (bytes : List ℕ) (len index b : ℕ) → get_or bytes index 0 < 2 ^ 8 → b < 2 ^ 8 → get_or bytes index 0 ≢ b
    → ((i : ℕ) → i < 8 → has_bit b i ≡ has_row (replicate len true) (8 * index + i)) → ((r : ℕ) → has_row_bit bytes r ≡ has_row (replicate len true) r) → ⊥
not_full bytes len index b fits fit apart bits all =
    let w : ℕ = get_or bytes index 0 in
    apart (same_from_bits_below 8 w b fits fit (λ i lt.
    let byte : (8 * index + i) / 8 ≡ index = omega arith in
    let bit : (8 * index + i) % 8 ≡ i = omega arith in
    one_bit (bit_at w i) (bit_at b i) (bit_at-lt w i) (bit_at-lt b i)
    (sym (ap (λ j. has_bit (get_or bytes j 0) ((8 * index + i) % 8)) byte ∙ ap (has_bit w) bit) ∙ all (8 * index + i) ∙ sym (bits i lt))))

-- all bytes are
pub full_all : (bytes : List ℕ) (len : ℕ) → length bytes ≡ (len + 7) / 8 → ((r : ℕ) → r < 8 * length bytes → has_row_bit bytes r ≡ has_row (replicate len true) r)
    → (r : ℕ) → has_row_bit bytes r ≡ has_row (replicate len true) r
full_all bytes len long done r = elim (cases_lt r (8 * length bytes)) [
  | inl within ↦ done r within
  | inr past ↦ row_bit_past bytes r past ∙ sym (get_or_past (replicate len true) r false (omega (arith, length-replicate len true)))
]

-- these are the bytes of the set
pub packed_full : (bytes : List ℕ) (len : ℕ) → length bytes ≡ (len + 7) / 8 → ((k : ℕ) → k < length bytes → get_or bytes k 0 < 256)
    → ((r : ℕ) → has_row_bit bytes r ≡ has_row (replicate len true) r) → IsPacked bytes (replicate len true)
packed_full bytes len long fits bits = record {
  long = long ∙ ap (λ n. (n + 7) / 8) (sym (length-replicate len true));
  bytes = All-from_get_or (λ b. b < 256) bytes 0 fits;
  bits = λ row lt. bits row;
}

pub full_packed : (bytes : List ℕ) (len : ℕ) → IsPacked bytes (replicate len true)
    → (length bytes ≡ (len + 7) / 8) × ((r : ℕ) → has_row_bit bytes r ≡ has_row (replicate len true) r)
full_packed bytes len p =
    let long : length bytes ≡ (len + 7) / 8 = p.long ∙ ap (λ n. (n + 7) / 8) (length-replicate len true) in
    (long, full_all bytes len long p.bits)
