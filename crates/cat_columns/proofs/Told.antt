-- What tells columns and sets apart.
use Rattle.std.proofs.Common.{◌≡◌, ℕ, zero, suc, ◌*◌, ◌/◌, ◌%◌, ◌+◌, ◌<◌, Bool, false, eqb, List, [], ◌∷◌, length, map, get_or, Option, Some, None, refl, sym, ap, ◌∙◌, arith}
use Rattle.std.proofs.lemmas.Bool.{true≢false}
use Rattle.std.proofs.lemmas.List.{ext_get_or}
use Rattle.std.proofs.lemmas.Nat.Bits.{bit_at-lt, same_from_bits_below}
use Rattle.std.specs.Int.{bit_at}
use Rattle.std.specs.Prelude.{All, Contains}
use Rattle.cat_model.specs.Text.{Text}
use Rattle.cat_model.specs.Layout.{ordinal_in, code_in, keywords_of}
use Rattle.cat_model.specs.Ordinals.{text_at, dictionary_of}
use Rattle.cat_model.specs.RowSets.{IsPacked}
use Rattle.cat_columns.specs.Bits.{has_bit, has_row_bit}
use Rattle.cat_columns.specs.Columns.{text_of_code, DictionaryHas}
use Rattle.cat_columns.proofs.Laid.{keywords_there, rows_there}
use Rattle.cat_columns.proofs.Ordinals.{text_back}

-- ---- columns

label_back : (ds : List Text) (v : Option Text) → DictionaryHas ds v → text_of_code ds (code_in ds v) ≡ v
label_back ds None h = refl
label_back ds (Some t) h = ap Some (text_back ds t h)

labels_back : (ds : List Text) (vs : List (Option Text)) → All (DictionaryHas ds) vs → map (text_of_code ds) (map (code_in ds) vs) ≡ vs
labels_back ds [] all = refl
labels_back ds (v ∷ vs) all =
    ap (λ w. w ∷ map (text_of_code ds) (map (code_in ds) vs)) (label_back ds v (all 0 v (omega arith))) ∙ ap (λ l. v ∷ l) (labels_back ds vs (λ k d lt. all (suc k) d (omega arith)))

texts_back : (ds row : List Text) → All (Contains ds) row → map (text_at ds) (map (ordinal_in ds) row) ≡ row
texts_back ds [] all = refl
texts_back ds (t ∷ row) all =
    ap (λ s. s ∷ map (text_at ds) (map (ordinal_in ds) row)) (text_back ds t (all 0 t (omega arith))) ∙ ap (λ l. t ∷ l) (texts_back ds row (λ k d lt. all (suc k) d (omega arith)))

rows_back : (ds : List Text) (rows : List (List Text)) → All (All (Contains ds)) rows → map (map (text_at ds)) (map (map (ordinal_in ds)) rows) ≡ rows
rows_back ds [] all = refl
rows_back ds (row ∷ rows) all =
    ap (λ l. l ∷ map (map (text_at ds)) (map (map (ordinal_in ds)) rows)) (texts_back ds row (all 0 row (omega arith))) ∙ ap (λ l. row ∷ l) (rows_back ds rows (λ k d lt. all (suc k) d (omega arith)))

pub same_keywords : (a b : List (Option Text)) → keywords_of a ≡ keywords_of b → map (code_in (keywords_of a)) a ≡ map (code_in (keywords_of b)) b → a ≡ b
same_keywords a b same codes =
    sym (labels_back (keywords_of a) a (keywords_there a)) ∙ ap (map (text_of_code (keywords_of a))) codes
    ∙ ap (λ (ds : List Text). map (text_of_code ds) (map (code_in (keywords_of b)) b)) same ∙ labels_back (keywords_of b) b (keywords_there b)

pub same_labels : (a b : List (List Text)) → dictionary_of a ≡ dictionary_of b → map (map (ordinal_in (dictionary_of a))) a ≡ map (map (ordinal_in (dictionary_of b))) b → a ≡ b
same_labels a b same ordinals =
    sym (rows_back (dictionary_of a) a (rows_there a)) ∙ ap (map (map (text_at (dictionary_of a)))) ordinals
    ∙ ap (λ (ds : List Text). map (map (text_at ds)) (map (map (ordinal_in (dictionary_of b))) b)) same ∙ rows_back (dictionary_of b) b (rows_there b)

-- ---- sets

pub one_bit : (m n : ℕ) → m < 2 → n < 2 → eqb m 1 ≡ eqb n 1 → m ≡ n
one_bit zero zero p q e = refl
one_bit zero (suc zero) p q e = absurd (true≢false (sym e))
one_bit zero (suc (suc n)) p q e = absurd (omega arith)
one_bit (suc zero) zero p q e = absurd (true≢false e)
one_bit (suc zero) (suc zero) p q e = refl
one_bit (suc zero) (suc (suc n)) p q e = absurd (omega arith)
one_bit (suc (suc m)) n p q e = absurd (omega arith)

pub same_bytes : (a b : List ℕ) (s : List Bool) → IsPacked a s → IsPacked b s → a ≡ b
same_bytes a b s one other =
    let long : length a ≡ length b = one.long ∙ sym other.long in
    ext_get_or 0 a b long (λ k lt.
    let next : k < length b = omega arith in
    same_from_bits_below 8 (get_or a k 0) (get_or b k 0) (one.bytes k 0 lt) (other.bytes k 0 next) (λ i below.
    let byte : (8 * k + i) / 8 ≡ k = omega arith in
    let bit : (8 * k + i) % 8 ≡ i = omega arith in
    let in_byte : (l : List ℕ) → has_row_bit l (8 * k + i) ≡ has_bit (get_or l k 0) i = λ l. ap (λ j. has_bit (get_or l j 0) ((8 * k + i) % 8)) byte ∙ ap (has_bit (get_or l k 0)) bit in
    one_bit (bit_at (get_or a k 0) i) (bit_at (get_or b k 0) i) (bit_at-lt (get_or a k 0) i) (bit_at-lt (get_or b k 0) i)
    (sym (in_byte a) ∙ one.bits (8 * k + i) (omega arith) ∙ sym (other.bits (8 * k + i) (omega arith)) ∙ in_byte b)))

pub same_sets : (a : List ℕ) (s t : List Bool) → IsPacked a s → IsPacked a t → length s ≡ length t → s ≡ t
same_sets a s t one other long =
    ext_get_or false s t long (λ row lt.
    let count : length a ≡ (length s + 7) / 8 = one.long in
    sym (one.bits row (omega arith)) ∙ other.bits row (omega arith))
