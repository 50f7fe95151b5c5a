-- The postings of rows that are merged, out of those of the parts.
use Rattle.std.proofs.Common.{◌≡◌, ℕ, zero, suc, ◌+◌, ◌<◌, List, [], ◌∷◌, ◌++◌, length, get_or, take, map, nat_lt, Bool, true, false, cond, ◌||◌, if◌then◌else◌, refl, sym, ap, ◌∙◌, arith, subst}
use Rattle.std.proofs.lemmas.Bool.{lt-ltb, true≢false}
use Rattle.std.proofs.lemmas.List.{length-map, length-append, append_assoc}
use Rattle.std.proofs.lemmas.List.Folds.{flat_map-map}
use Rattle.std.specs.List.{list_any, flat_map, filter, range_with_len}
use Rattle.std.specs.Prelude.{All}
use Rattle.cat_model.specs.Text.{Text, same_text}
use Rattle.cat_model.specs.RowSets.{has_row, indices}
use Rattle.cat_model.specs.Ordinals.{postings_of, rows_having}
use Rattle.cat_columns.specs.Merged.{kept_of, row_in, moved, AreNumbered}

-- ---- of lists

map_both : {X Y : Type 0} (f : X → Y) (xs ys : List X) → map f (xs ++ ys) ≡ map f xs ++ map f ys
map_both f [] ys = refl
map_both {X} {Y} f (x ∷ xs) ys = ap (λ (l : List Y). f x ∷ l) (map_both f xs ys)

shifted : (n : ℕ) (xs : List ℕ) → map (λ r. n + r) (map suc xs) ≡ map (λ r. n + 1 + r) xs
shifted n [] = refl
shifted n (x ∷ xs) = ap (λ k. k ∷ map (λ r. n + r) (map suc xs)) (let e : n + suc x ≡ n + 1 + x = omega arith in e) ∙ ap (λ (l : List ℕ). (n + 1 + x) ∷ l) (shifted n xs)

raised : (n : ℕ) (xs : List ℕ) → map suc (map (λ r. n + r) xs) ≡ map (λ r. suc n + r) xs
raised n [] = refl
raised n (x ∷ xs) = ap (λ k. k ∷ map suc (map (λ r. n + r) xs)) (let e : suc (n + x) ≡ suc n + x = omega arith in e) ∙ ap (λ (l : List ℕ). (suc n + x) ∷ l) (raised n xs)

from_zero : (xs : List ℕ) → xs ≡ map (λ r. 0 + r) xs
from_zero [] = refl
from_zero (x ∷ xs) = ap (λ k. k ∷ xs) (let e : x ≡ 0 + x = omega arith in e) ∙ ap (λ (l : List ℕ). (0 + x) ∷ l) (from_zero xs)

-- ---- of places

later_places : (b : Bool) (bs : List Bool) (a n : ℕ) → filter (has_row (b ∷ bs)) (range_with_len (suc a) n) ≡ map suc (filter (has_row bs) (range_with_len a n))
later_places b bs a zero = refl
later_places b bs a (suc n) =
    ap (λ k. cond (has_row bs a) (suc a ∷ filter (has_row (b ∷ bs)) (range_with_len k n)) (filter (has_row (b ∷ bs)) (range_with_len k n))) (let e : suc a + 1 ≡ suc (a + 1) = omega arith in e)
    ∙ elim (has_row bs a) as (λ t. cond t (suc a ∷ filter (has_row (b ∷ bs)) (range_with_len (suc (a + 1)) n)) (filter (has_row (b ∷ bs)) (range_with_len (suc (a + 1)) n)) ≡ map suc (cond t (a ∷ filter (has_row bs) (range_with_len (a + 1) n)) (filter (has_row bs) (range_with_len (a + 1) n)))) [
      | true ↦ ap (λ (l : List ℕ). suc a ∷ l) (later_places b bs (a + 1) n)
      | false ↦ later_places b bs (a + 1) n
    ]

pub places_first : (b : Bool) (bs : List Bool) → indices (b ∷ bs) ≡ (if b then 0 ∷ [] else []) ++ map suc (indices bs)
places_first b bs =
    elim b as (λ t. cond t (0 ∷ filter (has_row (b ∷ bs)) (range_with_len (0 + 1) (length bs))) (filter (has_row (b ∷ bs)) (range_with_len (0 + 1) (length bs))) ≡ (if t then 0 ∷ [] else []) ++ map suc (indices bs)) [
      | true ↦ ap (λ (l : List ℕ). 0 ∷ l) rest
      | false ↦ rest
    ]
  where
    rest : filter (has_row (b ∷ bs)) (range_with_len (0 + 1) (length bs)) ≡ map suc (indices bs)
    rest = ap (λ k. filter (has_row (b ∷ bs)) (range_with_len k (length bs))) (let e : 0 + 1 ≡ suc 0 = omega arith in e) ∙ later_places b bs 0 (length bs)

-- ---- of the postings of rows one behind another

pub postings_both : (w : Text) (xs ys : List (List Text)) → postings_of w (xs ++ ys) ≡ postings_of w xs ++ map (λ r. length xs + r) (postings_of w ys)
postings_both w [] ys = from_zero (postings_of w ys)
postings_both w (x ∷ xs) ys =
    places_first b (rows_having w (xs ++ ys))
    ∙ ap (λ (l : List ℕ). first ++ map suc l) (postings_both w xs ys)
    ∙ ap (λ (l : List ℕ). first ++ l) (map_both suc (postings_of w xs) (map (λ r. length xs + r) (postings_of w ys)))
    ∙ ap (λ (l : List ℕ). first ++ (map suc (postings_of w xs) ++ l)) (raised (length xs) (postings_of w ys))
    ∙ sym (append_assoc first (map suc (postings_of w xs)) (map (λ r. suc (length xs) + r) (postings_of w ys)))
    ∙ ap (λ (l : List ℕ). l ++ map (λ r. suc (length xs) + r) (postings_of w ys)) (sym (places_first b (rows_having w xs)))
  where
    b : Bool
    b = list_any (same_text w) x

    first : List ℕ
    first = if b then 0 ∷ [] else []

-- some row has the word where it has postings
pub some_posting : (w : Text) (xs : List (List Text)) → nat_lt 0 (length (postings_of w xs)) ≡ list_any (list_any (same_text w)) xs
some_posting w [] = refl
some_posting w (x ∷ xs) =
    ap (λ (l : List ℕ). nat_lt 0 (length l)) (places_first (list_any (same_text w) x) (rows_having w xs))
    ∙ elim (list_any (same_text w) x) as (λ t. nat_lt 0 (length ((if t then 0 ∷ [] else []) ++ map suc (postings_of w xs))) ≡ (t || list_any (list_any (same_text w)) xs)) [
      | true ↦ lt-ltb 0 (suc (length (map suc (postings_of w xs)))) (omega arith)
      | false ↦ ap (nat_lt 0) (length-map (postings_of w xs) suc) ∙ some_posting w xs
    ]

nothing : (l : List ℕ) → nat_lt 0 (length l) ≡ false → l ≡ []
nothing [] e = refl
nothing (x ∷ xs) e = absurd (true≢false (sym (lt-ltb 0 (suc (length xs)) (omega arith)) ∙ e))

pub no_posting : (w : Text) (xs : List (List Text)) → list_any (list_any (same_text w)) xs ≡ false → postings_of w xs ≡ []
no_posting w xs e = nothing (postings_of w xs) (some_posting w xs ∙ e)

-- ---- of the postings of rows that are kept

later_moved : (c : ℕ) (codes rows : List ℕ) → moved (c ∷ codes) (map suc rows) ≡ moved codes rows
later_moved c codes rows = flat_map-map (λ r. row_in (get_or (c ∷ codes) r 0)) suc rows

module _ (w : Text) where
  pub kept_moved : (n : ℕ) (codes : List ℕ) (ts : List (List Text)) → length codes ≡ length ts → AreNumbered n codes → moved codes (postings_of w ts) ≡ map (λ r. n + r) (postings_of w (kept_of codes ts))
  kept_moved n [] [] e h = refl
  kept_moved n [] (t ∷ ts) e h = absurd (omega arith)
  kept_moved n (c ∷ codes) [] e h = absurd (omega arith)
  kept_moved n (zero ∷ codes) (t ∷ ts) e h =
      ap (moved (zero ∷ codes)) (places_first (list_any (same_text w) t) (rows_having w ts))
      ∙ elim (list_any (same_text w) t) as (λ b. moved (zero ∷ codes) ((if b then 0 ∷ [] else []) ++ map suc (postings_of w ts)) ≡ moved (zero ∷ codes) (map suc (postings_of w ts))) [ true ↦ refl | false ↦ refl ]
      ∙ later_moved zero codes (postings_of w ts)
      ∙ kept_moved n codes ts (omega arith) h
  kept_moved n (suc p ∷ codes) (t ∷ ts) e h =
      let later : moved (suc p ∷ codes) (map suc (postings_of w ts)) ≡ map (λ r. n + r) (map suc (postings_of w (kept_of codes ts))) =
      later_moved (suc p) codes (postings_of w ts) ∙ kept_moved (n + 1) codes ts (omega arith) h.1 ∙ sym (shifted n (postings_of w (kept_of codes ts))) in
      ap (moved (suc p ∷ codes)) (places_first (list_any (same_text w) t) (rows_having w ts))
      ∙ elim (list_any (same_text w) t) as (λ b. moved (suc p ∷ codes) ((if b then 0 ∷ [] else []) ++ map suc (postings_of w ts)) ≡ map (λ r. n + r) ((if b then 0 ∷ [] else []) ++ map suc (postings_of w (kept_of codes ts)))) [
        | true ↦ ap (λ k. k ∷ moved (suc p ∷ codes) (map suc (postings_of w ts))) (let s = h.0 in let at : p ≡ n + 0 = omega arith in at) ∙ ap (λ (l : List ℕ). (n + 0) ∷ l) later
        | false ↦ later
      ]
      ∙ ap (map (λ r. n + r)) (sym (places_first (list_any (same_text w) t) (rows_having w (kept_of codes ts))))

-- ---- of codes, part by part

module _ {Y : Type 0} where
  numbered_both : (n : ℕ) (codes rest : List ℕ) (ts : List Y) → length codes ≡ length ts → AreNumbered n (codes ++ rest) → AreNumbered n codes × AreNumbered (n + length (kept_of codes ts)) rest
  numbered_both n [] rest [] e h = (tt, subst (λ k. AreNumbered k rest) (let s : n ≡ n + 0 = omega arith in s) h)
  numbered_both n [] rest (t ∷ ts) e h = absurd (omega arith)
  numbered_both n (c ∷ codes) rest [] e h = absurd (omega arith)
  numbered_both n (zero ∷ codes) rest (t ∷ ts) e h = numbered_both n codes rest ts (omega arith) h
  numbered_both n (suc p ∷ codes) rest (t ∷ ts) e h =
      let both = numbered_both (n + 1) codes rest ts (omega arith) h.1 in
      ((h.0, both.0), subst (λ k. AreNumbered k rest) (let s : n + 1 + length (kept_of codes ts) ≡ n + suc (length (kept_of codes ts)) = omega arith in s) both.1)

  pub numbered_part : {P : Type 0} (c : P → List ℕ) (t : P → List Y) (n : ℕ) (parts : List P) (i : ℕ) (d : P) → All (λ p. length (c p) ≡ length (t p)) parts → AreNumbered n (flat_map c parts) → i < length parts
      → AreNumbered (n + length (flat_map (λ p. kept_of (c p) (t p)) (take i parts))) (c (get_or parts i d))
  numbered_part c t n [] i d fits h lt = absurd (omega arith)
  numbered_part c t n (p ∷ parts) zero d fits h lt =
      subst (λ k. AreNumbered k (c p)) (let s : n ≡ n + 0 = omega arith in s) (numbered_both n (c p) (flat_map c parts) (t p) (fits 0 p (omega arith)) h).0
  numbered_part c t n (p ∷ parts) (suc i) d fits h lt =
      let first = kept_of (c p) (t p) in
      let later = flat_map (λ q. kept_of (c q) (t q)) (take i parts) in
      subst (λ k. AreNumbered k (c (get_or parts i d))) (let both : length (first ++ later) ≡ length first + length later = length-append first later in let s : n + length first + length later ≡ n + length (first ++ later) = omega arith in s)
      (numbered_part c t (n + length first) parts i d (λ k e l. fits (suc k) e (omega arith)) (numbered_both n (c p) (flat_map c parts) (t p) (fits 0 p (omega arith)) h).1 (omega arith))
