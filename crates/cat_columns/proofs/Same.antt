-- Sets of the same rows have the same blocks.
use Rattle.std.proofs.Common.{◌≡◌, ℕ, ◌+◌, ◌*◌, ◌/◌, ◌%◌, ◌^◌, ◌<◌, Bool, true, false, List, length, get_or, refl, sym, ap, ◌∙◌, inl, inr, arith}
use Rattle.std.specs.Prelude.{IsTrue, ◌↔◌, nat_eq}
use Rattle.std.specs.Cmp.{booleans_Decides}
use Rattle.std.specs.Cmp.Lexicographic.{pointwise_decides}
use Rattle.std.proofs.lemmas.Bool.{true≢false, ne_eqb}
use Rattle.std.specs.Int.{bit_at}
use Rattle.std.proofs.lemmas.Bool.{cases_lt}
use Rattle.std.proofs.lemmas.List.{ext_get_or}
use Rattle.std.proofs.lemmas.Nat.Bits.{bit_at-lt, same_from_bits_below}
use Rattle.cat_columns.specs.Bits.{has_bit, is_set, flags_of, IsBits, same_rows}
use Rattle.cat_columns.proofs.Bits.{flags-length, flag_at, are_flags, length-flags_of, get_or-flags_of}
use Rattle.cat_columns.proofs.Told.{one_bit}

-- Blocks whose bits are the same are the same.
pub blocks_same : (a b : List ℕ) → ((k : ℕ) → get_or a k 0 < 2 ^ 64) → ((k : ℕ) → get_or b k 0 < 2 ^ 64) → length a ≡ length b
    → ((row : ℕ) → is_set a row ≡ is_set b row) → a ≡ b
blocks_same a b fit fit' long each =
    ext_get_or 0 a b long (λ k lt. same_from_bits_below 64 (get_or a k 0) (get_or b k 0) (fit k) (fit' k) (λ i below.
    let block : (64 * k + i) / 64 ≡ k = omega arith in
    let bit : (64 * k + i) % 64 ≡ i = omega arith in
    let there : (l : List ℕ) → is_set l (64 * k + i) ≡ has_bit (get_or l k 0) i = λ l. ap (λ j. has_bit (get_or l j 0) ((64 * k + i) % 64)) block ∙ ap (has_bit (get_or l k 0)) bit in
    one_bit (bit_at (get_or a k 0) i) (bit_at (get_or b k 0) i) (bit_at-lt (get_or a k 0) i) (bit_at-lt (get_or b k 0) i) (sym (there a) ∙ each (64 * k + i) ∙ there b)))

-- Sets of the same rows have as many blocks,
pub as_long : (rows rows' : ℕ) (a b : List ℕ) (u v : List Bool) → IsBits rows a → IsBits rows' b → flags_of rows a ≡ u → flags_of rows' b ≡ v → u ≡ v
    → length a ≡ length b
as_long rows rows' a b u v ia ib fa fb same =
    ia.long ∙ ap (λ n. (n + 63) / 64) (sym (flags-length rows a u fa) ∙ ap length same ∙ flags-length rows' b v fb) ∙ sym ib.long

-- and the same bits in them.
pub bits_same : (rows rows' : ℕ) (a b : List ℕ) (u v : List Bool) → IsBits rows a → IsBits rows' b → flags_of rows a ≡ u → flags_of rows' b ≡ v → u ≡ v
    → (row : ℕ) → is_set a row ≡ is_set b row
bits_same rows rows' a b u v ia ib fa fb same row = elim (cases_lt row (length v)) [
  | inl within ↦ flag_at rows a v row (fa ∙ same) within ∙ sym (flag_at rows' b v row fb within)
  | inr past ↦ ia.clear row (omega (arith, flags-length rows a v (fa ∙ same))) ∙ sym (ib.clear row (omega (arith, flags-length rows' b v fb)))
]

-- Where the bits are the same, so are the rows.
flags_same : (rows : ℕ) (a b : List ℕ) → ((row : ℕ) → is_set a row ≡ is_set b row) → flags_of rows a ≡ flags_of rows b
flags_same rows a b each = are_flags rows a (flags_of rows b) (length-flags_of rows b) (λ row lt. each row ∙ sym (get_or-flags_of rows b row false lt))

-- What the test of two lists says of them.
pub rows_decide : (u v : List Bool) (r : Bool) → r ≡ same_rows u v → IsTrue r ↔ (u ≡ v)
rows_decide u v r e =
    let d = pointwise_decides booleans_Decides u v in (
      λ t. d.0 (sym e ∙ t),
      λ same. e ∙ d.1 same,
    )

one_truth : (r q : Bool) → (r ≡ true → q ≡ true) → (q ≡ true → r ≡ true) → r ≡ q
one_truth true q f g = sym (f refl)
one_truth false true f g = g refl
one_truth false false f g = refl

-- Blocks decide whether sets of as many rows are the same.
pub sets_decide : (rows rows' : ℕ) (a b : List ℕ) (u v : List Bool) (r : Bool) → IsBits rows a → IsBits rows' b → flags_of rows a ≡ u → flags_of rows' b ≡ v
    → rows ≡ rows' → (a' b' : List ℕ) → a' ≡ a → b' ≡ b
    → IsTrue r ↔ (length a' ≡ length b') × ((row : ℕ) → is_set a' row ≡ is_set b' row) → r ≡ same_rows u v
sets_decide rows rows' a b u v r ia ib fa fb as_many a' b' ea eb told =
    let d = pointwise_decides booleans_Decides u v in
    one_truth r (same_rows u v)
    (λ t. d.1 (sym fa ∙ ap (λ n. flags_of n a) as_many ∙ flags_same rows' a b (λ row. ap (λ l. is_set l row) (sym ea) ∙ (told.0 t).1 row ∙ ap (λ l. is_set l row) eb) ∙ fb))
    (λ t. told.1 (
      ap length ea ∙ as_long rows rows' a b u v ia ib fa fb (d.0 t) ∙ sym (ap length eb),
      λ row. ap (λ l. is_set l row) ea ∙ bits_same rows rows' a b u v ia ib fa fb (d.0 t) row ∙ sym (ap (λ l. is_set l row) eb),
    ))

-- Sets out of other numbers of rows are never the same.
pub apart_decide : (rows rows' : ℕ) (a b : List ℕ) (u v : List Bool) → flags_of rows a ≡ u → flags_of rows' b ≡ v → (rows ≡ rows' → ⊥)
    → nat_eq rows rows' ≡ same_rows u v
apart_decide rows rows' a b u v fa fb apart =
    let d = pointwise_decides booleans_Decides u v in
    ne_eqb rows rows' apart ∙ one_truth false (same_rows u v) (λ t. absurd (true≢false (sym t)))
    (λ t. absurd (apart (sym (flags-length rows a u fa) ∙ ap length (d.0 t) ∙ flags-length rows' b v fb)))
