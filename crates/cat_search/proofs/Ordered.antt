-- An order of a column is a walk of the rows.
use Rattle.std.proofs.Common.{◌≡◌, ℕ, ◌+◌, ◌<◌, List, length, map, get_or, AllPairs, IsPermutation, Option, Some, None, option_map, Bool, true, false, refl, sym, ◌∙◌, ap, subst, arith}
use Rattle.std.specs.List.{All, range_with_len}
use Rattle.std.specs.declared.cmp.Ordering.{Ordering}
use Rattle.std.specs.declared.cmp.Ordering.TheVariants.{Less, Equal, Greater}
use Rattle.std.specs.Ordering.{is_lt, nat_cmp, ordering_then}
use Rattle.std.proofs.lemmas.Bool.{true≢false}
use Rattle.std.proofs.lemmas.Bool.Decides.{nat_tests}
use Rattle.std.proofs.lemmas.List.{length-map, get_or-map}
use Rattle.std.proofs.lemmas.List.FromFn.{length-range_with_len, get_or-range_with_len}
use Rattle.std.proofs.lemmas.List.Sorted.{All-permutation}
use Rattle.cat_model.specs.Page.{Key, key_cmp}
use Rattle.cat_search.specs.Bars.{HaveRanks}
use Rattle.cat_search.specs.Pages.{rank_with}
use Rattle.cat_search.specs.Standings.{Rank, HitStanding, rank_cmp, standing_before}
use Rattle.cat_views.specs.cat_segment.Orders.{IsOrderBy, missing_last, row_before, turned}
use Rattle.cat_search.specs.Walks.{IsWalk, standing_at}
use Rattle.cat_search.specs.declared.sort.Order.{Order}
use Rattle.cat_search.specs.declared.sort.OrderField.{OrderField}
use Rattle.cat_search.specs.declared.sort.Order.TheVariants as order
use Rattle.std.proofs.Common.{[], ◌∷◌}
use Rattle.std.specs.List.{AllByRecursion}
use Rattle.cat_model.specs.View.{Row}
use Rattle.cat_model.proofs.Places.{EachPair, each_pair, all_pairs}
use Rattle.cat_search.specs.Rows.{keyed_standings}
use Rattle.cat_search.proofs.Gathered.{none}

module _ {X : Type 0} (key : X → Key) where
  -- the rank of a value
  abbrev rank_in : Order → Option X → Rank
  rank_in o v = rank_with o (option_map key v)

  -- ranks compare as the values do
  abbrev Compares : Order → (X → X → Ordering) → Type 0
  Compares o cmp = (x y : Option X) → rank_cmp (rank_in o x) (rank_in o y) ≡ missing_last cmp x y

  module _ (cmp : X → X → Ordering) (same : (a b : X) → key_cmp (key a) (key b) ≡ cmp a b) (field : OrderField) where
    rising_compares : Compares (order.Rising field) cmp
    rising_compares (Some a) (Some b) = same a b
    rising_compares (Some a) None = refl
    rising_compares None (Some b) = refl
    rising_compares None None = refl

    falling_compares : Compares (order.Falling field) (turned cmp)
    falling_compares (Some a) (Some b) = same b a
    falling_compares (Some a) None = refl
    falling_compares None (Some b) = refl
    falling_compares None None = refl

below_from : (a b : ℕ) → is_lt (nat_cmp a b) ≡ true → a < b
below_from a b e = grind (arith, nat_tests, e)

below_to : (a b : ℕ) → a < b → is_lt (nat_cmp a b) ≡ true
below_to a b h = grind (arith, nat_tests)

-- where rows that tie come by their numbers, these may stand for the rows
by_number : (o : Ordering) (a b m n : ℕ) → (a < b → m < n) → is_lt (ordering_then o (nat_cmp a b)) ≡ true → is_lt (ordering_then o (nat_cmp m n)) ≡ true
by_number Less a b m n up e = refl
by_number Equal a b m n up e = below_to m n (up (below_from a b e))
by_number Greater a b m n up e = absurd (true≢false (sym e))

module _ {X : Type 0} (key : X → Key) (o : Order) (cmp : X → X → Ordering) (alike : Compares key o cmp) (values : List (Option X)) (standings : List HitStanding) (ranks : HaveRanks key o values standings) (up : AllPairs (λ p q. p.number < q.number) standings) where
  long : length values ≡ length standings
  long = sym (length-map values (λ v. rank_in key o v)) ∙ sym (ap length ranks) ∙ length-map standings (λ p. p.rank)

  rank_there : (row : ℕ) → row < length standings → (standing_at standings row).rank ≡ rank_in key o (get_or values row None)
  rank_there row h =
      sym (get_or-map (λ (p : HitStanding). p.rank) standings row none Rank.missing h)
      ∙ ap (λ l. get_or l row Rank.missing) ranks
      ∙ get_or-map (λ v. rank_in key o v) values row None Rank.missing (omega (arith, h, long))

  before_there : (a b : ℕ) → a < length standings → b < length standings → row_before cmp values a b ≡ true → standing_before (standing_at standings a) (standing_at standings b) ≡ true
  before_there a b ha hb e =
      let s = standing_at standings a in
      let t = standing_at standings b in
      let ranked : rank_cmp s.rank t.rank ≡ missing_last cmp (get_or values a None) (get_or values b None) =
      ap (λ r. rank_cmp r t.rank) (rank_there a ha) ∙ ap (λ r. rank_cmp (rank_in key o (get_or values a None)) r) (rank_there b hb) ∙ alike (get_or values a None) (get_or values b None) in
      ap (λ r. is_lt (ordering_then r (nat_cmp s.number t.number))) ranked
      ∙ by_number (missing_last cmp (get_or values a None) (get_or values b None)) a b s.number t.number (λ h. up a b none h hb) e

  walk_from : (rows : List ℕ) → IsOrderBy cmp values rows → IsWalk standings rows
  walk_from rows is =
      let same : IsPermutation (range_with_len 0 (length standings)) rows = subst (λ n. IsPermutation (range_with_len 0 n) rows) long is.rows in
      let within : All (λ r. r < length standings) rows = All-permutation (λ r. r < length standings) (range_with_len 0 (length standings)) rows same range_within in
      record {
        rows = same;
        rising = λ i j d p q. before_there (get_or rows i d) (get_or rows j d) (within i d (omega (arith, p, q))) (within j d q) (is.rising i j d p q);
      }
    where
      range_within : All (λ r. r < length standings) (range_with_len 0 (length standings))
      range_within k d h =
          let size = length-range_with_len 0 (length standings) in
          let inside : k < length standings = omega (arith, h, size) in
          let at = get_or-range_with_len 0 (length standings) k d inside in
          omega (arith, inside, at)

-- the rows in the order of their values, the least first, are a walk where that is the page's order
pub rising_walk : {X : Type 0} (key : X → Key) (cmp : X → X → Ordering) → ((a b : X) → key_cmp (key a) (key b) ≡ cmp a b)
    → (field : OrderField) (values : List (Option X)) (standings : List HitStanding) (rows : List ℕ)
    → HaveRanks key (order.Rising field) values standings → AllPairs (λ p q. p.number < q.number) standings → IsOrderBy cmp values rows → IsWalk standings rows
rising_walk key cmp same field values standings rows ranks up is = walk_from key (order.Rising field) cmp (rising_compares key cmp same field) values standings ranks up rows is

-- and those the greatest first
pub falling_walk : {X : Type 0} (key : X → Key) (cmp : X → X → Ordering) → ((a b : X) → key_cmp (key a) (key b) ≡ cmp a b)
    → (field : OrderField) (values : List (Option X)) (standings : List HitStanding) (rows : List ℕ)
    → HaveRanks key (order.Falling field) values standings → AllPairs (λ p q. p.number < q.number) standings → IsOrderBy (turned cmp) values rows → IsWalk standings rows
falling_walk key cmp same field values standings rows ranks up is = walk_from key (order.Falling field) (turned cmp) (falling_compares key cmp same field) values standings ranks up rows is

-- ---- the numbers of standings rise with those of the rows

module _ (o : Order) where
  beside_rise : (n : ℕ) (ks : List (Option Key)) (rows : List Row) → AllByRecursion (λ (r : Row). n < r.number) rows → AllByRecursion (λ (p : HitStanding). n < p.number) (keyed_standings o ks rows)
  beside_rise n [] rows a = tt
  beside_rise n (k ∷ ks) [] a = tt
  beside_rise n (k ∷ ks) (r ∷ rows) a = (a.0, beside_rise n ks rows a.1)

  each_rise : (ks : List (Option Key)) (rows : List Row) → EachPair (λ (a b : Row). a.number < b.number) rows → EachPair (λ (p q : HitStanding). p.number < q.number) (keyed_standings o ks rows)
  each_rise [] rows a = tt
  each_rise (k ∷ ks) [] a = tt
  each_rise (k ∷ ks) (r ∷ rows) a = (beside_rise r.number ks rows a.0, each_rise ks rows a.1)

  pub standings_rise : (ks : List (Option Key)) (rows : List Row) (standings : List HitStanding) → AllPairs (λ (a b : Row). a.number < b.number) rows → keyed_standings o ks rows ≡ standings → AllPairs (λ (p q : HitStanding). p.number < q.number) standings
  standings_rise ks rows standings up e =
      subst (AllPairs (λ (p q : HitStanding). p.number < q.number)) e
      (all_pairs (λ (p q : HitStanding). p.number < q.number) (keyed_standings o ks rows) (each_rise ks rows (each_pair (λ (a b : Row). a.number < b.number) rows up)))
