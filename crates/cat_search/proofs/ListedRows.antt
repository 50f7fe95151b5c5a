-- Rows that are listed, rising, and the live ones of them.
use Rattle.std.proofs.Common.{◌≡◌, ℕ, zero, suc, ◌+◌, ◌-◌, ◌<◌, ◌≤◌, ◌&&◌, List, [], ◌∷◌, ◌++◌, length, get_or, map, filter, drop, replicate, cond, count_by, Bool, true, false, not, ltb, take, All, Option, Result, Ok, Err, inl, inr, ◌⊎◌, refl, sym, ap, subst, ◌∙◌, arith, true≢false, append-nil, append_assoc}
use Rattle.std.specs.List.{range_with_len}
use Rattle.std.specs.List.Sorted.{IsBinarySearchResult}
use Rattle.std.specs.Ordering.{nat_cmp}
use Rattle.std.specs.Result.{MatchResult, is_ok}
use Rattle.std.proofs.lemmas.Bool.Decides.{nat_tests}
use Rattle.std.proofs.lemmas.List.{length-drop, length-map, map-append, take_all, take_more, take-append-drop}
use Rattle.std.proofs.lemmas.List.Elements.{All-from_recursion, All-get_or, filter-append, filter_passes}
use Rattle.std.proofs.lemmas.List.FromFn.{length-range_with_len, get_or-range_with_len}
use Rattle.std.proofs.lemmas.List.Sorted.{searched}
use Rattle.std.proofs.lemmas.List.Kept.{IsStrictlyIncreasing-filter, AllPairs-from_increasing}
use Rattle.std.proofs.lemmas.List.Sums.{length-filter}
use Rattle.cat_model.specs.Page.{Entry}
use Rattle.cat_model.specs.RowSets.{both, has_row, indices, joined}
use Rattle.cat_views.proofs.Selected.{at_indices, count-selected, indices-within, length-joined}
use Rattle.cat_search.specs.Pages.{beyond}
use Rattle.cat_search.specs.Standings.{HitStanding, entry_shown}
use Rattle.cat_search.proofs.Gathered.{full, none, room, standings_at, standings_at-append}
use Rattle.cat_search.proofs.Stepped.{hit_taken, other_taken, taken}
use Rattle.cat_search.proofs.InRange.{filter-twice, has_row-both}
use Rattle.cat_search.proofs.Tested.{cleared, cleared_high, cleared_long, cleared_low}

-- ---- the live ones of the rows of a set

module _ (set live : List Bool) (long : length set ≡ length live) where
  joined_long : length (joined both set live) ≡ length set
  joined_long = length-joined both set live long ∙ sym long

  pub live_listed : filter (has_row live) (indices set) ≡ indices (joined both set live)
  live_listed =
      filter-twice (has_row set) (has_row live) (has_row (joined both set live)) (has_row-both set live) (range_with_len 0 (length set))
      ∙ ap (λ n. filter (has_row (joined both set live)) (range_with_len 0 n)) (sym joined_long)

  pub listed_counted : count_by (has_row live) (indices set) ≡ count_by (λ b. b) (joined both set live)
  listed_counted =
      sym (length-filter (has_row live) (indices set)) ∙ ap length live_listed
      ∙ sym (length-map (indices (joined both set live)) (λ i. get_or (joined both set live) i false))
      ∙ ap length (at_indices (joined both set live) (joined both set live) false refl)
      ∙ sym (count-selected (joined both set live) (joined both set live) refl)

pub listed_within : (set : List Bool) → All (λ row. row < length set) (indices set)
listed_within set = All-from_recursion (λ row. row < length set) (indices set) (indices-within set)

cleared_joined : (from : ℕ) (set live : List Bool) → from ≤ length set → length set ≡ length live → joined both (cleared from set) live ≡ cleared from (joined both set live)
cleared_joined zero set live h long = refl
cleared_joined (suc from) [] live h long = absurd (omega (arith, h))
cleared_joined (suc from) (a ∷ set) [] h long = absurd (omega (arith, long))
cleared_joined (suc from) (a ∷ set) (b ∷ live) h long = ap (λ l. false ∷ l) (cleared_joined from set live (omega (arith, h)) (omega (arith, long)))

-- the same of those from a row on
pub live_listed_from : (from : ℕ) (set live : List Bool) → from ≤ length set → length set ≡ length live → filter (has_row live) (indices (cleared from set)) ≡ indices (cleared from (joined both set live))
live_listed_from from set live h long =
    live_listed (cleared from set) live (cleared_long from set h ∙ long) ∙ ap indices (cleared_joined from set live h long)

pub from_within : (from : ℕ) (set : List Bool) → from ≤ length set → All (λ row. row < length set) (indices (cleared from set))
from_within from set h = subst (λ (n : ℕ). All (λ row. row < n) (indices (cleared from set))) (cleared_long from set h) (listed_within (cleared from set))

-- ---- listed rows rise

rising_range : (n k : ℕ) → k + 1 < length (range_with_len 0 n) → get_or (range_with_len 0 n) k 0 < get_or (range_with_len 0 n) (k + 1) 0
rising_range n k h =
    let count = length-range_with_len 0 n in
    let first = get_or-range_with_len 0 n k 0 (omega (arith, h, count)) in
    let second = get_or-range_with_len 0 n (k + 1) 0 (omega (arith, h, count)) in
    omega (arith, first, second)

listed_before : (set : List Bool) (i j : ℕ) → i < j → j < length (indices set) → get_or (indices set) i 0 < get_or (indices set) j 0
listed_before set i j h within =
    AllPairs-from_increasing (indices set) (IsStrictlyIncreasing-filter (has_row set) (range_with_len 0 (length set)) (rising_range (length set))) i j 0 h within

same_place : (xs : List ℕ) (i j : ℕ) → i ≡ j → get_or xs i 0 ≡ get_or xs j 0
same_place xs i j e = ap (λ k. get_or xs k 0) e

listed_rising : (set : List Bool) (i j : ℕ) → i ≤ j → j < length (indices set) → get_or (indices set) i 0 ≤ get_or (indices set) j 0
listed_rising set i j h within = elim (ltb i j) as (λ b. ltb i j ≡ b → get_or (indices set) i 0 ≤ get_or (indices set) j 0) [
  | true ↦ λ e. let less = listed_before set i j (grind (arith, nat_tests, e)) within in omega (arith, less)
  | false ↦ λ e. let same = same_place (indices set) i j (grind (arith, nat_tests, e, h)) in omega (arith, same)
] refl

-- ---- a row among them

kept_place : (p : ℕ → Bool) (xs : List ℕ) (i : ℕ) → i < length xs → p (get_or xs i 0) ≡ true → (k : ℕ) × (k < length (filter p xs)) × (get_or (filter p xs) k 0 ≡ get_or xs i 0)
kept_place p [] i h e = absurd (omega (arith, h))
kept_place p (x ∷ xs) zero h e = rw e (0, omega arith, refl)
kept_place p (x ∷ xs) (suc i) h e =
    let rest = kept_place p xs i (omega (arith, h)) e in
    elim (p x) as (λ b. (k : ℕ) × (k < length (cond b (x ∷ filter p xs) (filter p xs))) × (get_or (cond b (x ∷ filter p xs) (filter p xs)) k 0 ≡ get_or xs i 0)) [
      | true ↦ (suc rest.0, omega (arith, rest.1), rest.2)
      | false ↦ rest
    ]

has_within : (set : List Bool) (row : ℕ) → has_row set row ≡ true → row < length set
has_within [] row e = absurd (true≢false (sym e))
has_within (b ∷ set) zero e = omega arith
has_within (b ∷ set) (suc row) e = let rest = has_within set row e in omega (arith, rest)

listed_place : (set : List Bool) (row : ℕ) → has_row set row ≡ true → (k : ℕ) × (k < length (indices set)) × (get_or (indices set) k 0 ≡ row)
listed_place set row e =
    let within = has_within set row e in
    let count = length-range_with_len 0 (length set) in
    let at : get_or (range_with_len 0 (length set)) row 0 ≡ row = get_or-range_with_len 0 (length set) row 0 within ∙ (let e : 0 + row ≡ row = omega arith in e) in
    let place = kept_place (has_row set) (range_with_len 0 (length set)) row (omega (arith, within, count)) (ap (has_row set) at ∙ e) in
    (place.0, place.1, place.2 ∙ at)

place_listed : (set : List Bool) (i row : ℕ) → i < length (indices set) → get_or (indices set) i 0 ≡ row → has_row set row ≡ true
place_listed set i row h at =
    ap (has_row set) (sym at) ∙ All-get_or (λ r. has_row set r ≡ true) (indices set) i 0 h (filter_passes (has_row set) (range_with_len 0 (length set)))

-- what a binary search found, and what it didn't
abbrev Places : List Bool → ℕ → Result ℕ ℕ → Type 0
Places set row r = MatchResult r (λ i. (i < length (indices set)) × (get_or (indices set) i 0 ≡ row))
    (λ i. (i ≤ length (indices set)) × ((k : ℕ) → k < i → get_or (indices set) k 0 < row) × ((k : ℕ) → i ≤ k → k < length (indices set) → row < get_or (indices set) k 0))

placed : (set : List Bool) (row : ℕ) (r : Result ℕ ℕ) → IsBinarySearchResult (λ y. nat_cmp y row) (indices set) r → Places set row r
placed set row r position = searched (indices set) row r position (listed_rising set)

absent : (set : List Bool) (row i : ℕ) (b : Bool) → has_row set row ≡ b → Places set row (Err i) → false ≡ b
absent set row i false e found = refl
absent set row i true e found =
    let place = listed_place set row e in
    elim (ltb place.0 i) as (λ b. ltb place.0 i ≡ b → false ≡ true) [
      | true ↦ λ t. let less = found.1 place.0 (grind (arith, nat_tests, t)) in absurd (omega (arith, less, place.2))
      | false ↦ λ t. let more = found.2 place.0 (grind (arith, nat_tests, t)) place.1 in absurd (omega (arith, more, place.2))
    ] refl

module _ (xs : List ℕ) (set : List Bool) (is : xs ≡ indices set) (row : ℕ) (r : Result ℕ ℕ) (position : IsBinarySearchResult (λ y. nat_cmp y row) xs r) where
  found_in_set : Places set row r
  found_in_set = placed set row r (subst (λ (ys : List ℕ). IsBinarySearchResult (λ y. nat_cmp y row) ys r) is position)

-- whether a binary search found the row is whether it is one of them
pub lists_row : (xs : List ℕ) (row : ℕ) (r : Result ℕ ℕ) → IsBinarySearchResult (λ y. nat_cmp y row) xs r → (set : List Bool) → xs ≡ indices set → is_ok r ≡ has_row set row
lists_row xs row (Ok i) position set is = let found = found_in_set xs set is row (Ok i) position in sym (place_listed set i row found.0 found.1)
lists_row xs row (Err i) position set is = absent set row i (has_row set row) refl (found_in_set xs set is row (Err i) position)

-- ---- the rows from one on

dropped : (q : ℕ → Bool) (xs : List ℕ) (i : ℕ) → ((k : ℕ) → k < i → q (get_or xs k 0) ≡ false) → ((k : ℕ) → i ≤ k → k < length xs → q (get_or xs k 0) ≡ true) → i ≤ length xs → drop i xs ≡ filter q xs
dropped q [] zero out in_it h = refl
dropped q [] (suc i) out in_it h = refl
dropped q (x ∷ xs) zero out in_it h =
    ap (λ l. x ∷ l) (dropped q xs zero (λ k l. absurd (omega (arith, l))) (λ k l w. in_it (suc k) (omega arith) (omega (arith, w))) (omega arith))
    ∙ sym (ap (λ b. cond b (x ∷ filter q xs) (filter q xs)) (in_it 0 (omega arith) (omega arith)))
dropped q (x ∷ xs) (suc i) out in_it h =
    dropped q xs i (λ k l. out (suc k) (omega (arith, l))) (λ k l w. in_it (suc k) (omega (arith, l)) (omega (arith, w))) (omega (arith, h))
    ∙ sym (ap (λ b. cond b (x ∷ filter q xs) (filter q xs)) (out 0 (omega arith)))

below : (a b : ℕ) → a < b → not (ltb a b) ≡ false
below a b h = grind (arith, nat_tests)

from_on : (a b : ℕ) → b ≤ a → not (ltb a b) ≡ true
from_on a b h = grind (arith, nat_tests)

none_there : (b : Bool) → false ≡ (b && false)
none_there true = refl
none_there false = refl

all_there : (b : Bool) → b ≡ (b && true)
all_there true = refl
all_there false = refl

module _ (set : List Bool) (from : ℕ) (within : from ≤ length set) where
  cleared_at : (row : ℕ) → has_row (cleared from set) row ≡ (has_row set row && not (ltb row from))
  cleared_at row = elim (ltb row from) as (λ b. ltb row from ≡ b → has_row (cleared from set) row ≡ (has_row set row && not b)) [
    | true ↦ λ e. cleared_low from row (drop from set) (grind (arith, nat_tests, e)) ∙ none_there (has_row set row)
    | false ↦ λ e. cleared_high from row set (grind (arith, nat_tests, e)) within ∙ all_there (has_row set row)
  ] refl

  kept_from : filter (λ row. not (ltb row from)) (indices set) ≡ indices (cleared from set)
  kept_from =
      filter-twice (has_row set) (λ row. not (ltb row from)) (has_row (cleared from set)) cleared_at (range_with_len 0 (length set))
      ∙ ap (λ n. filter (has_row (cleared from set)) (range_with_len 0 n)) (sym (cleared_long from set within))

  from_place : (r : Result ℕ ℕ) (i : ℕ) → (r ≡ Ok i) ⊎ (r ≡ Err i) → Places set from r → drop i (indices set) ≡ indices (cleared from set)
  from_place r i (inl e) found =
      let at : Places set from (Ok i) = subst (Places set from) e found in
      dropped (λ row. not (ltb row from)) (indices set) i
      (λ k l. let less = listed_before set k i l at.0 in below (get_or (indices set) k 0) from (omega (arith, less, at.1)))
      (λ k l w. let more = listed_rising set i k l w in from_on (get_or (indices set) k 0) from (omega (arith, more, at.1)))
      (omega (arith, at.0))
      ∙ kept_from
  from_place r i (inr e) found =
      let at : Places set from (Err i) = subst (Places set from) e found in
      dropped (λ row. not (ltb row from)) (indices set) i
      (λ k l. let less = at.1 k l in below (get_or (indices set) k 0) from less)
      (λ k l w. let more = at.2 k l w in from_on (get_or (indices set) k 0) from (omega (arith, more)))
      at.0
      ∙ kept_from

-- what stands from the place on that a binary search told
pub rows_from_place : (xs : List ℕ) (from : ℕ) (r : Result ℕ ℕ) (i : ℕ) → (r ≡ Ok i) ⊎ (r ≡ Err i) → IsBinarySearchResult (λ y. nat_cmp y from) xs r → (set : List Bool) → from ≤ length set → xs ≡ indices set → take (length xs - i) (drop i xs) ≡ indices (cleared from set)
rows_from_place xs from r i which position set within is =
    let left = length-drop i xs in
    take_all (length xs - i) (drop i xs) (omega (arith, left)) ∙ ap (drop i) is ∙ from_place set from within r i which (found_in_set xs set is from r position)

-- ---- what is listed of a leaf

module _ {X : Type 0} (test : X → Bool) (rs : List X) (live : List Bool) (rows : List ℕ) (is : rows ≡ indices (map test rs)) (long : length live ≡ length rs) where
  pub matched_long : length (map test rs) ≡ length live
  matched_long = length-map rs test ∙ sym long

  pub hits_long : length (joined both (map test rs) live) ≡ length live
  hits_long = joined_long (map test rs) live matched_long ∙ matched_long

  pub hits_counted : count_by (has_row live) rows ≡ count_by (λ b. b) (joined both (map test rs) live)
  hits_counted = ap (count_by (has_row live)) is ∙ listed_counted (map test rs) live matched_long

  pub hits_within : All (λ row. row < length live) rows
  hits_within =
      subst (λ (n : ℕ). All (λ row. row < n) rows) matched_long (subst (λ (ys : List ℕ). All (λ row. row < length (map test rs)) ys) (sym is) (listed_within (map test rs)))

  pub hits_listed : filter (has_row live) rows ≡ indices (joined both (map test rs) live)
  hits_listed = ap (filter (has_row live)) is ∙ live_listed (map test rs) live matched_long

  module _ (row : ℕ) (among : Bool) (says : among ≡ has_row (map test rs) row) where
    pub told_live : among ≡ true → has_row live row ≡ has_row (joined both (map test rs) live) row
    told_live e = sym (has_row-both (map test rs) live row ∙ ap (λ b. b && has_row live row) (sym says ∙ e))

    pub told_out : among ≡ false → among ≡ has_row (joined both (map test rs) live) row
    told_out e = e ∙ sym (has_row-both (map test rs) live row ∙ ap (λ b. b && has_row live row) (sym says ∙ e))

  module _ (from : ℕ) (h : from ≤ length live) (left : List ℕ) (cut : left ≡ indices (cleared from (map test rs))) where
    pub left_within : All (λ row. row < length live) left
    left_within =
        subst (λ (n : ℕ). All (λ row. row < n) left) matched_long
        (subst (λ (ys : List ℕ). All (λ row. row < length (map test rs)) ys) (sym cut) (from_within from (map test rs) (omega (arith, h, matched_long))))

    pub left_listed : filter (has_row live) left ≡ indices (cleared from (joined both (map test rs) live))
    left_listed = ap (filter (has_row live)) cut ∙ live_listed_from from (map test rs) live (omega (arith, h, matched_long)) matched_long

-- ---- the steps of a pass over listed rows

module _ (mark : Option HitStanding) (ranks : List HitStanding) (live : List Bool) (rows : List ℕ) where
  -- the standings of the live ones of the first so many rows, as far as the mark comes before them
  abbrev pub listed_to : ℕ → List HitStanding
  listed_to i = standings_at mark ranks (filter (has_row live) (take i rows))

  abbrev pub listed_all : List HitStanding
  listed_all = standings_at mark ranks (filter (has_row live) rows)

  pub hit_listed : (i row : ℕ) → i < length rows → row ≡ get_or rows i 0 → has_row live row ≡ true → (p : HitStanding) → p ≡ get_or ranks row none → listed_to (i + 1) ≡ listed_to i ++ cond (beyond mark p) (p ∷ []) []
  hit_listed i row h at e p is =
      ap (taken mark ranks live) (take_more rows i 0 h ∙ ap (λ r. take i rows ++ r ∷ []) (sym at)) ∙ hit_taken mark ranks live (take i rows) row e p is

  pub dead_listed : (i row : ℕ) → i < length rows → row ≡ get_or rows i 0 → has_row live row ≡ false → listed_to (i + 1) ≡ listed_to i
  dead_listed i row h at e =
      ap (taken mark ranks live) (take_more rows i 0 h ∙ ap (λ r. take i rows ++ r ∷ []) (sym at)) ∙ other_taken mark ranks live (take i rows) row e

  pub listed_end : (i : ℕ) → length rows ≤ i → listed_to i ≡ listed_all
  listed_end i h = ap (taken mark ranks live) (take_all i rows h)

  -- the rest comes behind
  listed_rest : (i : ℕ) → listed_all ≡ listed_to i ++ standings_at mark ranks (filter (has_row live) (drop i rows))
  listed_rest i =
      ap (taken mark ranks live) (sym (take-append-drop i rows)) ∙ ap (standings_at mark ranks) (filter-append (has_row live) (take i rows) (drop i rows))
      ∙ standings_at-append mark ranks (filter (has_row live) (take i rows)) (filter (has_row live) (drop i rows))

  module _ (n : ℕ) (ts : List Entry) (ps : List HitStanding) (i : ℕ) (is : ts ≡ take n (map entry_shown (ps ++ listed_to i))) where
    -- what is full takes none of the rest
    pub listed_full : n ≤ length ts → ts ≡ take n (map entry_shown (ps ++ listed_all))
    listed_full many =
        let more = standings_at mark ranks (filter (has_row live) (drop i rows)) in
        full n ts (map entry_shown (ps ++ listed_to i)) (map entry_shown more) is many
        ∙ ap (take n) (
        sym (map-append entry_shown (ps ++ listed_to i) more)
        ∙ ap (map entry_shown) (append_assoc ps (listed_to i) more ∙ ap (λ qs. ps ++ qs) (sym (listed_rest i)))
        )

    module _ (row : ℕ) (h : i < length rows) (at : row ≡ get_or rows i 0) where
      pub shown_listed : length ts < n → has_row live row ≡ true → (p : HitStanding) → p ≡ get_or ranks row none → beyond mark p ≡ true → ts ++ entry_shown p ∷ [] ≡ take n (map entry_shown (ps ++ listed_to (i + 1)))
      shown_listed fits e p stands after =
          room n ts (map entry_shown (ps ++ listed_to i)) (entry_shown p) is fits
          ∙ ap (take n) (
          sym (map-append entry_shown (ps ++ listed_to i) (p ∷ []))
          ∙ ap (map entry_shown) (append_assoc ps (listed_to i) (p ∷ []) ∙ ap (λ qs. ps ++ qs) (sym (hit_listed i row h at e p stands ∙ ap (λ b. listed_to i ++ cond b (p ∷ []) []) after)))
          )

      pub passed_listed : has_row live row ≡ true → (p : HitStanding) → p ≡ get_or ranks row none → beyond mark p ≡ false → ts ≡ take n (map entry_shown (ps ++ listed_to (i + 1)))
      passed_listed e p stands out =
          is ∙ ap (λ qs. take n (map entry_shown (ps ++ qs))) (sym (hit_listed i row h at e p stands ∙ ap (λ b. listed_to i ++ cond b (p ∷ []) []) out ∙ append-nil (listed_to i)))

      pub dead_passed : has_row live row ≡ false → ts ≡ take n (map entry_shown (ps ++ listed_to (i + 1)))
      dead_passed e = is ∙ ap (λ qs. take n (map entry_shown (ps ++ qs))) (sym (dead_listed i row h at e))
