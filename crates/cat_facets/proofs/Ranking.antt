-- Labels rank by their ordinals as the model ranks them by their bytes.
use Rattle.std.proofs.Common.{◌≡◌, ℕ, zero, suc, ◌+◌, ◌<◌, ◌≤◌, List, [], ◌∷◌, length, take, map, true, refl, sym, ap, ◌∙◌, arith, subst, inl, inr, nat_cmp, Ordering, Less, Equal, Greater}
use Rattle.std.specs.Prelude.{◌⊎◌}
use Rattle.std.proofs.lemmas.Bool.{cases_order}
use Rattle.std.proofs.lemmas.Bool.Decides.{nat_tests}
use Rattle.std.proofs.lemmas.Cmp.{nat_list_cmp_total, nat_cmp_total, on_total, then_total, back_total}
use Rattle.std.proofs.lemmas.List.Elements.{All-from_recursion, recursion_from_All}
use Rattle.std.proofs.lemmas.List.Sorted.{ranks_by, All-permutation, IsPermutation-map}
use Rattle.std.proofs.lemmas.Map.Keys.{Less-from_sorted}
use Rattle.std.specs.Cmp.{IsTotalOrder, tied_itself}
use Rattle.std.specs.List.{AllByRecursion}
use Rattle.std.specs.Ordering.{is_lt, ordering_reverse, ordering_then}
use Rattle.cat_base.specs.Texts.{IsTextSet}
use Rattle.cat_model.specs.Facets.{Counted, more}
use Rattle.cat_model.specs.Ordinals.{text_at}
use Rattle.cat_model.specs.Page.{first_ranked}
use Rattle.cat_model.specs.RankLaws.{AreRanked}
use Rattle.cat_model.specs.Ranks.{AreApart, IsStrictOrder, sorted}
use Rattle.cat_model.specs.Text.{Text, text_cmp}
use Rattle.cat_model.proofs.Insert.{strict_from_weak}
use Rattle.cat_model.proofs.Lists.{All-weaken}
use Rattle.cat_model.proofs.Places.{EachPair, all_pairs, each_pair}
use Rattle.cat_model.proofs.Ranked.{ranks_follow_order}
use Rattle.cat_facets.specs.declared.first.Ranked.{Ranked}
use Rattle.cat_facets.specs.Met.{label_comes_first, met_from, label_told}
use Rattle.cat_facets.specs.contracts.first.RankedOrd.TheImpl as by_count

-- ---- one label beside another

below_is : (o p : ℕ) → o < p → nat_cmp o p ≡ Less
below_is o p lt = grind (arith, nat_tests)

above_is : (o p : ℕ) → p < o → nat_cmp o p ≡ Greater
above_is o p lt = grind (arith, nat_tests)

same_is : (o p : ℕ) → o ≡ p → nat_cmp o p ≡ Equal
same_is o p e = grind (arith, nat_tests)

-- the labels of a dictionary compare as their ordinals do
text_order : (labels : List Text) (o p : ℕ) → IsTextSet labels → o < length labels → p < length labels → text_cmp (text_at labels o) (text_at labels p) ≡ nat_cmp o p
text_order labels o p sorted lo lp = elim (cases_order o p) [
  | inl same ↦ ap (λ q. text_cmp (text_at labels o) (text_at labels q)) (sym same) ∙ tied_itself nat_list_cmp_total (text_at labels o) ∙ sym (same_is o p same)
  | inr other ↦ elim other [
    | inl under ↦ Less-from_sorted text_cmp labels o p [] sorted under lp ∙ sym (below_is o p under)
    | inr over ↦
        nat_list_cmp_total.antisymm (text_at labels o) (text_at labels p)
        ∙ ap ordering_reverse (Less-from_sorted text_cmp labels p o [] sorted over lo) ∙ sym (above_is o p over)
  ]
]

pub order_told : (labels : List Text) (a b : Ranked) → IsTextSet labels → a.ordinal < length labels → b.ordinal < length labels → label_comes_first a b ≡ more (label_told labels a) (label_told labels b)
order_told labels a b sorted la lb = ap (λ o. is_lt (ordering_then (nat_cmp b.count.0 a.count.0) o)) (sym (text_order labels a.ordinal b.ordinal sorted la lb))

-- ---- the two orders are strict

first_total : IsTotalOrder by_count.ghosts.cmp
first_total = then_total (on_total (λ (r : Ranked). r.count.0) (back_total nat_cmp_total)) (on_total (λ (r : Ranked). r.ordinal) nat_cmp_total)

pub first_strict : IsStrictOrder label_comes_first
first_strict = strict_from_weak label_comes_first (ranks_by first_total (λ r. r))

pub more_strict : IsStrictOrder more
more_strict =
    strict_from_weak more
    (ranks_by (then_total (on_total (λ (c : Counted). c.count) (back_total nat_cmp_total)) (on_total (λ (c : Counted). c.label) nat_list_cmp_total)) (λ c. c))

-- ---- the labels that are met

one_way : (o t x y : Ordering) → t ≡ ordering_reverse o → x ≡ Less → (is_lt (ordering_then o x) ≡ true) ⊎ (is_lt (ordering_then t y) ≡ true)
one_way Less t x y e l = inl refl
one_way Equal t x y e l = inl (ap is_lt l)
one_way Greater t x y e l = inr (ap (λ o. is_lt (ordering_then o y)) e)

apart_pair : (r s : Ranked) → r.ordinal < s.ordinal → AreApart label_comes_first r s
apart_pair r s lt =
    one_way (nat_cmp s.count.0 r.count.0) (nat_cmp r.count.0 s.count.0) (nat_cmp r.ordinal s.ordinal) (nat_cmp s.ordinal r.ordinal)
    (nat_cmp_total.antisymm r.count.0 s.count.0) (below_is r.ordinal s.ordinal lt)

from_on : (a : ℕ) (ts : List ℕ) → AllByRecursion (λ r. a ≤ r.ordinal) (met_from a ts)
from_on a [] = tt
from_on a (zero ∷ ts) = All-weaken (λ r. a + 1 ≤ r.ordinal) (λ r. a ≤ r.ordinal) (λ r h. omega arith) (met_from (a + 1) ts) (from_on (a + 1) ts)
from_on a (suc t ∷ ts) = (omega arith, All-weaken (λ r. a + 1 ≤ r.ordinal) (λ r. a ≤ r.ordinal) (λ r h. omega arith) (met_from (a + 1) ts) (from_on (a + 1) ts))

pub met_apart : (a : ℕ) (ts : List ℕ) → EachPair (AreApart label_comes_first) (met_from a ts)
met_apart a [] = tt
met_apart a (zero ∷ ts) = met_apart (a + 1) ts
met_apart a (suc t ∷ ts) =
    let r : Ranked = record { count = record { 0 = suc t }; ordinal = a } in
    (All-weaken (λ s. a + 1 ≤ s.ordinal) (AreApart label_comes_first r) (λ s h. apart_pair r s (omega arith)) (met_from (a + 1) ts) (from_on (a + 1) ts), met_apart (a + 1) ts)

met_below : (a : ℕ) (ts : List ℕ) (n : ℕ) → a + length ts ≡ n → AllByRecursion (λ r. r.ordinal < n) (met_from a ts)
met_below a [] n e = tt
met_below a (zero ∷ ts) n e = met_below (a + 1) ts n (omega arith)
met_below a (suc t ∷ ts) n e = (omega arith, met_below (a + 1) ts n (omega arith))

pub met_within : (labels : List Text) (totals : List ℕ) → length totals ≡ length labels → AllByRecursion (λ r. r.ordinal < length labels) (met_from 0 totals)
met_within labels totals e = met_below 0 totals (length labels) (omega arith)

-- ---- the first of them

each_pair_through : {X Y : Type 0} (f : X → Y) (P : X → Type 0) (R : X → X → Type 0) (Q : Y → Y → Type 0) → ((x y : X) → P x → P y → R x y → Q (f x) (f y))
    → (xs : List X) → AllByRecursion P xs → EachPair R xs → EachPair Q (map f xs)
each_pair_through f P R Q h [] a p = tt
each_pair_through {X} {Y} f P R Q h (x ∷ xs) a p = (all xs a.1 p.0, each_pair_through f P R Q h xs a.1 p.1)
  where
    all : (ys : List X) → AllByRecursion P ys → AllByRecursion (R x) ys → AllByRecursion (Q (f x)) (map f ys)
    all [] b q = tt
    all (y ∷ ys) b q = (h x y a.0 b.0 q.0, all ys b.1 q.1)

map-take : {X Y : Type 0} (f : X → Y) (n : ℕ) (xs : List X) → map f (take n xs) ≡ take n (map f xs)
map-take f zero xs = refl
map-take f (suc n) [] = refl
map-take f (suc n) (x ∷ xs) = ap (λ ys. f x ∷ ys) (map-take f n xs)

module _ (labels : List Text) (totals : List ℕ) (n : ℕ) (set : IsTextSet labels) (long : length totals ≡ length labels) where
  abbrev met : List Ranked
  met = met_from 0 totals

  abbrev inside : Ranked → Type 0
  inside r = r.ordinal < length labels

  by_first : AreRanked label_comes_first met n
  by_first = ranks_follow_order label_comes_first met n first_strict (all_pairs (AreApart label_comes_first) met (met_apart 0 totals))

  sorted_within : AllByRecursion inside (sorted label_comes_first met)
  sorted_within =
      recursion_from_All inside (sorted label_comes_first met)
      (All-permutation inside met (sorted label_comes_first met) by_first.arranged.same (All-from_recursion inside met (met_within labels totals long)))

  apart_alike : (a b : Ranked) → inside a → inside b → AreApart label_comes_first a b → AreApart more (label_told labels a) (label_told labels b)
  apart_alike a b la lb (inl e) = inl (sym (order_told labels a b set la lb) ∙ e)
  apart_alike a b la lb (inr e) = inr (sym (order_told labels b a set lb la) ∙ e)

  by_more : AreRanked more (map (label_told labels) met) n
  by_more =
      ranks_follow_order more (map (label_told labels) met) n more_strict
      (all_pairs (AreApart more) (map (label_told labels) met)
      (each_pair_through (label_told labels) inside (AreApart label_comes_first) (AreApart more) apart_alike met (met_within labels totals long) (met_apart 0 totals)))

  -- the first labels by rank are those of the first ordinals by rank
  pub first_told : map (label_told labels) (first_ranked label_comes_first met n) ≡ first_ranked more (map (label_told labels) met) n
  first_told =
      ap (map (label_told labels)) (by_first.first (sorted label_comes_first met) by_first.arranged)
      ∙ map-take (label_told labels) n (sorted label_comes_first met)
      ∙ sym (by_more.first (map (label_told labels) (sorted label_comes_first met)) (record {
        same = IsPermutation-map (label_told labels) met (sorted label_comes_first met) by_first.arranged.same;
        rising = all_pairs (λ x y. more x y ≡ true) (map (label_told labels) (sorted label_comes_first met))
            (each_pair_through (label_told labels) inside (λ a b. label_comes_first a b ≡ true) (λ x y. more x y ≡ true)
            (λ a b la lb e. sym (order_told labels a b set la lb) ∙ e) (sorted label_comes_first met) sorted_within
            (each_pair (λ a b. label_comes_first a b ≡ true) (sorted label_comes_first met) by_first.arranged.rising));
      }))

  -- each of them is a label of the dictionary
  pub first_within : (ranked : List Ranked) → ranked ≡ first_ranked label_comes_first met n → AllByRecursion inside ranked
  first_within ranked is =
      subst (AllByRecursion inside) (sym (is ∙ by_first.first (sorted label_comes_first met) by_first.arranged)) (front n (sorted label_comes_first met) sorted_within)
    where
      front : (k : ℕ) (rs : List Ranked) → AllByRecursion inside rs → AllByRecursion inside (take k rs)
      front zero rs a = tt
      front (suc k) [] a = tt
      front (suc k) (r ∷ rs) a = (a.0, front k rs a.1)
