-- Hits that a test of each row tells, without a set of them.
use Rattle.std.proofs.Common.{◌≡◌, ℕ, ℤ, zero, suc, ◌+◌, ◌-◌, ◌<◌, ◌≤◌, ◌&&◌, List, [], ◌∷◌, ◌++◌, length, get_or, map, filter, drop, replicate, cond, count_by, take, Option, Some, None, Bool, true, false, All, IsPermutation, refl, sym, ap, subst, ◌∙◌, arith, append_assoc, append-nil}
use Rattle.std.specs.List.{range_with_len}
use Rattle.std.proofs.lemmas.List.{length-map, map-append}
use Rattle.std.proofs.lemmas.List.Elements.{All-filter, filter-append}
use Rattle.std.proofs.lemmas.List.FromFn.{length-range_with_len, get_or-range_with_len}
use Rattle.std.proofs.lemmas.List.Sorted.{All-permutation, IsPermutation-sym, length_permutation}
use Rattle.std.proofs.lemmas.List.Sums.{length-filter}
use Rattle.cat_model.specs.Item.{Content, content_of, number_in}
use Rattle.cat_model.specs.Page.{Entry}
use Rattle.cat_model.specs.Query.{Query}
use Rattle.cat_model.specs.RowSets.{both, has_row, indices, joined}
use Rattle.cat_model.specs.Text.{Text}
use Rattle.cat_model.specs.View.{Row, Leaf, item_in, row_matches, selected}
use Rattle.cat_views.specs.cat_segment.Ranges.{lies_between}
use Rattle.cat_views.proofs.Selected.{at_indices, count-selected, length-joined}
use Rattle.cat_search.specs.Hits.{hit_rows}
use Rattle.cat_search.specs.Pages.{behind, beyond}
use Rattle.cat_search.specs.Standings.{HitStanding, entry_shown}
use Rattle.cat_search.specs.declared.hits.Hits.{Hits}
use Rattle.cat_search.proofs.Arranged.{IsPermutation-filter}
use Rattle.cat_search.proofs.Gathered.{full, none, room, standings_at, standings_at-all, standings_at-append, standings_at-more}
use Rattle.cat_search.proofs.InRange.{at_mapped, filter-twice, has_row-both}

-- a live set has one truth value for each row
pub live_long : (h : Hits) (leaf : Leaf) → hit_rows h ≡ leaf.live → length (hit_rows h) ≡ length leaf.segment.rows → length leaf.live ≡ length leaf.segment.rows
live_long h leaf is long = sym (ap length is) ∙ long

-- ---- the live rows whose numbers lie in a range

module _ (low high : Option ℤ) (numbers : List (Option ℤ)) (live : List Bool) (long : length numbers ≡ length live) where
  abbrev pub live_between : List Bool
  live_between = joined both (map (lies_between low high) numbers) live

  pub between_long : length live_between ≡ length live
  between_long = length-joined both (map (lies_between low high) numbers) live (length-map numbers (lies_between low high) ∙ long)

  number_at : (row : ℕ) → has_row (map (lies_between low high) numbers) row ≡ lies_between low high (get_or numbers row None)
  number_at row = at_mapped (lies_between low high) numbers row None

  pub told : (row : ℕ) → has_row live_between row ≡ (lies_between low high (get_or numbers row None) && has_row live row)
  told row = has_row-both (map (lies_between low high) numbers) live row ∙ ap (λ b. b && has_row live row) (number_at row)

  pub told_live : (row : ℕ) (number : Option ℤ) (among : Bool) → number ≡ get_or numbers row None → among ≡ lies_between low high number → among ≡ true → has_row live row ≡ has_row live_between row
  told_live row number among at is e = sym (told row ∙ ap (λ b. b && has_row live row) (ap (lies_between low high) (sym at) ∙ sym is ∙ e))

  pub told_out : (row : ℕ) (number : Option ℤ) (among : Bool) → number ≡ get_or numbers row None → among ≡ lies_between low high number → among ≡ false → among ≡ has_row live_between row
  told_out row number among at is e = e ∙ sym (told row ∙ ap (λ b. b && has_row live row) (ap (lies_between low high) (sym at) ∙ sym is ∙ e))

  module _ (order rows : List ℕ) (all : IsPermutation (range_with_len 0 (length numbers)) order) (passed : rows ≡ filter (λ row. lies_between low high (get_or numbers row None)) order) where
    between_as_numbers : length live_between ≡ length numbers
    between_as_numbers = between_long ∙ sym long

    live_are : filter (has_row live) rows ≡ filter (has_row live_between) order
    live_are =
        ap (filter (has_row live)) passed
        ∙ filter-twice (λ row. lies_between low high (get_or numbers row None)) (has_row live) (has_row live_between) told order

    same_rows : IsPermutation (filter (has_row live_between) order) (indices live_between)
    same_rows =
        IsPermutation-filter (has_row live_between) order (range_with_len 0 (length live_between))
        (subst (λ n. IsPermutation order (range_with_len 0 n)) (sym between_as_numbers) (IsPermutation-sym (range_with_len 0 (length numbers)) order all))

    -- as many rows of the range are live
    pub live_counted : count_by (has_row live) rows ≡ count_by (λ b. b) live_between
    live_counted =
        sym (length-filter (has_row live) rows) ∙ ap length live_are
        ∙ sym (length_permutation (filter (has_row live_between) order) (indices live_between) same_rows)
        ∙ sym (length-map (indices live_between) (λ i. get_or numbers i None)) ∙ ap length (at_indices live_between numbers None between_as_numbers)
        ∙ sym (count-selected live_between numbers between_as_numbers)

    all_within : All (λ r. r < length live) (range_with_len 0 (length numbers))
    all_within k d h =
        let count = length-range_with_len 0 (length numbers) in
        let within : k < length numbers = omega (arith, h, count) in
        let at = get_or-range_with_len 0 (length numbers) k d within in
        omega (arith, within, at, long)

    pub rows_within : All (λ r. r < length live) rows
    rows_within =
        subst (All (λ r. r < length live)) (sym passed)
        (All-filter (λ row. lies_between low high (get_or numbers row None)) (λ r. r < length live) order
        (All-permutation (λ r. r < length live) (range_with_len 0 (length numbers)) order all all_within))

-- the numbers that lie between are those of the rows that the query matches
module _ (q : Query) (name : Text) (low high : Option ℤ) (says : (row : Row) → row_matches q row ≡ lies_between low high (number_in (content_of name (item_in row)))) where
  of_numbers : (xs : List (Option ℤ)) → map (lies_between low high) xs ≡ map (λ c. lies_between low high (number_in c)) (map (λ x. Some x) (map Content.number xs))
  of_numbers [] = refl
  of_numbers (x ∷ xs) = ap (λ bs. lies_between low high x ∷ bs) (of_numbers xs)

  of_rows : (rs : List Row) → map (λ c. lies_between low high (number_in c)) (map (λ r. content_of name (item_in r)) rs) ≡ map (row_matches q) rs
  of_rows [] = refl
  of_rows (r ∷ rs) =
      ap (λ b. b ∷ map (λ c. lies_between low high (number_in c)) (map (λ t. content_of name (item_in t)) rs)) (sym (says r)) ∙ ap (λ bs. row_matches q r ∷ bs) (of_rows rs)

  pub range_matches : (numbers : List (Option ℤ)) (rs : List Row) → map (λ x. Some x) (map Content.number numbers) ≡ map (λ r. content_of name (item_in r)) rs → map (lies_between low high) numbers ≡ map (row_matches q) rs
  range_matches numbers rs e = of_numbers numbers ∙ ap (map (λ c. lies_between low high (number_in c))) e ∙ of_rows rs

  pub as_many : (numbers : List (Option ℤ)) (rs : List Row) → map (λ x. Some x) (map Content.number numbers) ≡ map (λ r. content_of name (item_in r)) rs → length numbers ≡ length rs
  as_many numbers rs e = sym (length-map numbers (lies_between low high)) ∙ ap length (range_matches numbers rs e) ∙ length-map rs (row_matches q)

-- ---- rows that are looked at one after another

-- the set without its rows below this one
abbrev pub cleared : ℕ → List Bool → List Bool
cleared from hits = replicate from false ++ drop from hits

pub cleared_low : (from k : ℕ) (rest : List Bool) → k < from → get_or (replicate from false ++ rest) k false ≡ false
cleared_low zero k rest h = absurd (omega (arith, h))
cleared_low (suc from) zero rest h = refl
cleared_low (suc from) (suc k) rest h = cleared_low from k rest (omega (arith, h))

pub cleared_high : (from k : ℕ) (hits : List Bool) → from ≤ k → from ≤ length hits → get_or (cleared from hits) k false ≡ get_or hits k false
cleared_high zero k hits h long = refl
cleared_high (suc from) k [] h long = absurd (omega (arith, long))
cleared_high (suc from) zero (b ∷ bs) h long = absurd (omega (arith, h))
cleared_high (suc from) (suc k) (b ∷ bs) h long = cleared_high from k bs (omega (arith, h)) (omega (arith, long))

pub cleared_long : (from : ℕ) (hits : List Bool) → from ≤ length hits → length (cleared from hits) ≡ length hits
cleared_long zero hits h = refl
cleared_long (suc from) [] h = absurd (omega (arith, h))
cleared_long (suc from) (b ∷ bs) h = let rest = cleared_long from bs (omega (arith, h)) in omega (arith, rest)

pub none_in : (t : ℕ → Bool) (a n : ℕ) → ((k : ℕ) → a ≤ k → k < a + n → t k ≡ false) → filter t (range_with_len a n) ≡ []
none_in t a zero h = refl
none_in t a (suc n) h =
    ap (λ b. cond b (a ∷ filter t (range_with_len (a + 1) n)) (filter t (range_with_len (a + 1) n))) (h a (omega arith) (omega arith))
    ∙ none_in t (a + 1) n (λ k p r. h k (omega (arith, p)) (omega (arith, r)))

pub range_parts : (a m n : ℕ) → range_with_len a (m + n) ≡ range_with_len a m ++ range_with_len (a + m) n
range_parts a zero n = ap (range_with_len a) (let e : 0 + n ≡ n = omega arith in e) ∙ ap (λ k. range_with_len k n) (let e : a ≡ a + 0 = omega arith in e)
range_parts a (suc m) n =
    ap (range_with_len a) (let e : suc m + n ≡ suc (m + n) = omega arith in e)
    ∙ ap (λ (l : List ℕ). a ∷ l) (range_parts (a + 1) m n ∙ ap (λ k. range_with_len (a + 1) m ++ range_with_len k n) (let e : a + 1 + m ≡ a + suc m = omega arith in e))

module _ (mark : Option HitStanding) (ranks : List HitStanding) (hits : List Bool) (from : ℕ) (long : length hits ≡ length ranks) (within : from ≤ length ranks) where
  -- the standings of the hits among the rows up to this one
  abbrev pub met : ℕ → List HitStanding
  met row = standings_at mark ranks (filter (has_row (cleared from hits)) (range_with_len 0 row))

  abbrev pub to_meet : List HitStanding
  to_meet = behind mark (selected (cleared from hits) ranks)

  rows_long : length (cleared from hits) ≡ length ranks
  rows_long = cleared_long from hits (omega (arith, within, long)) ∙ long

  pub none_met : met from ≡ []
  none_met = ap (standings_at mark ranks) (none_in (has_row (cleared from hits)) 0 from (λ k p q. cleared_low from k (drop from hits) (omega (arith, q))))

  next_row : (row : ℕ) → filter (has_row (cleared from hits)) (range_with_len 0 (row + 1)) ≡ filter (has_row (cleared from hits)) (range_with_len 0 row) ++ cond (has_row (cleared from hits) row) (row ∷ []) []
  next_row row =
      ap (filter (has_row (cleared from hits))) (range_parts 0 row 1 ∙ ap (λ k. range_with_len 0 row ++ k ∷ []) (let e : 0 + row ≡ row = omega arith in e))
      ∙ filter-append (has_row (cleared from hits)) (range_with_len 0 row) (row ∷ [])

  pub hit_met : (row : ℕ) → from ≤ row → has_row hits row ≡ true → (p : HitStanding) → p ≡ get_or ranks row none → met (row + 1) ≡ met row ++ cond (beyond mark p) (p ∷ []) []
  hit_met row h e p at =
      ap (standings_at mark ranks) (next_row row ∙ ap (λ b. filter (has_row (cleared from hits)) (range_with_len 0 row) ++ cond b (row ∷ []) []) (cleared_high from row hits h (omega (arith, within, long)) ∙ e))
      ∙ standings_at-more mark ranks (filter (has_row (cleared from hits)) (range_with_len 0 row)) row p at

  pub other_met : (row : ℕ) → from ≤ row → has_row hits row ≡ false → met (row + 1) ≡ met row
  other_met row h e =
      ap (standings_at mark ranks) (
      next_row row ∙ ap (λ b. filter (has_row (cleared from hits)) (range_with_len 0 row) ++ cond b (row ∷ []) []) (cleared_high from row hits h (omega (arith, within, long)) ∙ e)
      ∙ append-nil (filter (has_row (cleared from hits)) (range_with_len 0 row))
      )

  pub all_met : (row : ℕ) → row ≡ length ranks → met row ≡ to_meet
  all_met row e =
      standings_at-all mark ranks (cleared from hits) (filter (has_row (cleared from hits)) (range_with_len 0 row)) rows_long
      (ap (λ n. filter (has_row (cleared from hits)) (range_with_len 0 n)) (e ∙ sym rows_long))

  rest_met : (row left : ℕ) → row + left ≡ length ranks → to_meet ≡ met row ++ standings_at mark ranks (filter (has_row (cleared from hits)) (range_with_len (0 + row) left))
  rest_met row left e =
      sym (all_met (row + left) e)
      ∙ ap (standings_at mark ranks) (ap (filter (has_row (cleared from hits))) (range_parts 0 row left) ∙ filter-append (has_row (cleared from hits)) (range_with_len 0 row) (range_with_len (0 + row) left))
      ∙ standings_at-append mark ranks (filter (has_row (cleared from hits)) (range_with_len 0 row)) (filter (has_row (cleared from hits)) (range_with_len (0 + row) left))

  module _ (n : ℕ) (ts : List Entry) (ps : List HitStanding) (row : ℕ) (is : ts ≡ take n (map entry_shown (ps ++ met row))) where
    -- what is full takes none of the rest
    pub full_early : row ≤ length ranks → n ≤ length ts → ts ≡ take n (map entry_shown (ps ++ to_meet))
    full_early h many =
        let left = length ranks - row in
        let more = standings_at mark ranks (filter (has_row (cleared from hits)) (range_with_len (0 + row) left)) in
        let cut : row + left ≡ length ranks = omega (arith, h) in
        full n ts (map entry_shown (ps ++ met row)) (map entry_shown more) is many
        ∙ ap (take n) (
        sym (map-append entry_shown (ps ++ met row) more)
        ∙ ap (map entry_shown) (append_assoc ps (met row) more ∙ ap (λ qs. ps ++ qs) (sym (rest_met row left cut)))
        )

    pub shown_more : from ≤ row → length ts < n → has_row hits row ≡ true → (p : HitStanding) → p ≡ get_or ranks row none → beyond mark p ≡ true → ts ++ entry_shown p ∷ [] ≡ take n (map entry_shown (ps ++ met (row + 1)))
    shown_more h fits e p at after =
        room n ts (map entry_shown (ps ++ met row)) (entry_shown p) is fits
        ∙ ap (take n) (
        sym (map-append entry_shown (ps ++ met row) (p ∷ []))
        ∙ ap (map entry_shown) (append_assoc ps (met row) (p ∷ []) ∙ ap (λ qs. ps ++ qs) (sym (hit_met row h e p at ∙ ap (λ b. met row ++ cond b (p ∷ []) []) after)))
        )

    pub passed_more : from ≤ row → has_row hits row ≡ true → (p : HitStanding) → p ≡ get_or ranks row none → beyond mark p ≡ false → ts ≡ take n (map entry_shown (ps ++ met (row + 1)))
    passed_more h e p at out =
        is ∙ ap (λ qs. take n (map entry_shown (ps ++ qs))) (sym (hit_met row h e p at ∙ ap (λ b. met row ++ cond b (p ∷ []) []) out ∙ append-nil (met row)))

    pub others_more : from ≤ row → has_row hits row ≡ false → ts ≡ take n (map entry_shown (ps ++ met (row + 1)))
    others_more h e = is ∙ ap (λ qs. take n (map entry_shown (ps ++ qs))) (sym (other_met row h e))
