-- Rows in groups, those of one value behind those of another: all of them, in the order of the values.
use Rattle.std.proofs.Common.{◌≡◌, ℕ, ◌<◌, List, [], ◌∷◌, ◌++◌, filter, get_or, AllPairs, IsPermutation, Option, None, Bool, true}
use Rattle.std.proofs.Common.{false, not, ◌&&◌, ◌||◌, refl, sym, ◌∙◌, ap, subst, arith, inl, inr}
use Rattle.std.specs.Prelude.{All}
use Rattle.std.specs.Cmp.{IsTotalOrder, tied_itself}
use Rattle.std.specs.List.{AllByRecursion, flat_map, list_any}
use Rattle.std.specs.declared.cmp.Ordering.{Ordering}
use Rattle.std.specs.declared.cmp.Ordering.TheVariants.{Less, Equal}
use Rattle.std.specs.Ordering.{is_lt, nat_cmp, ordering_then}
use Rattle.std.proofs.lemmas.Bool.{cases_Bool}
use Rattle.std.proofs.lemmas.Bool.Decides.{nat_tests}
use Rattle.std.proofs.lemmas.List.Elements.{filter_passes, recursion_from_All, All-from_recursion}
use Rattle.std.proofs.lemmas.List.Kept.{AllPairs-filter}
use Rattle.std.proofs.lemmas.List.Sorted.{IsPermutation-refl, IsPermutation-trans, IsPermutation-append_right, IsPermutation-filter_both}
use Rattle.cat_model.proofs.Lists.{All-both, All-each, All-weaken, filter-filter, filter_alike, filter_none, list_any_none}
use Rattle.cat_model.proofs.Places.{EachPair, each_pair, all_pairs}
use Rattle.cat_segment.specs.Orders.{missing_last, row_before}
use Rattle.cat_segment.proofs.Ranged.{all_kept}
use Rattle.cat_segment.proofs.RowOrders.{missing_total}

-- ---- tests

absorbed : (a b : Bool) → ((a || b) && a) ≡ a
absorbed true b = refl
absorbed false true = refl
absorbed false false = refl

left : (a b : Bool) → (a ≡ true → b ≡ false) → ((a || b) && not a) ≡ b
left true b h = sym (h refl)
left false true h = refl
left false false h = refl

below : (a b : ℕ) → a < b → is_lt (nat_cmp a b) ≡ true
below a b h = grind (arith, nat_tests)

pub pairs_append : {X : Type 0} (R : X → X → Type 0) (xs ys : List X) → EachPair R xs → EachPair R ys
    → AllByRecursion (λ x. AllByRecursion (R x) ys) xs → EachPair R (xs ++ ys)
pairs_append R [] ys a b c = b
pairs_append R (x ∷ xs) ys a b c = (All-both (R x) xs ys a.0 c.0, pairs_append R xs ys a.1 b c.1)

-- ---- rows by values that rise

module _ {X : Type 0} (cmp : X → X → Ordering) (total : IsTotalOrder cmp) (same : Option X → Option X → Bool)
    (same_is : (a b : Option X) → same a b ≡ true → a ≡ b) (values : List (Option X)) (rows : List ℕ) where
  abbrev value : ℕ → Option X
  value row = get_or values row None

  abbrev Under : Option X → Option X → Type 0
  Under k l = missing_last cmp k l ≡ Less

  abbrev any : List (Option X) → Option X → Bool
  any ks v = list_any (λ k. same k v) ks

  abbrev group : Option X → List ℕ
  group k = filter (λ row. same k (value row)) rows

  other : (k l v : Option X) → same k v ≡ true → Under k l → same l v ≡ false
  other k l v e less = elim (cases_Bool (same l v)) [
    | inl both ↦
        let alike : k ≡ l = same_is k v e ∙ sym (same_is l v both) in
        let tie : missing_last cmp k l ≡ Equal = ap (λ x. missing_last cmp k x) (sym alike) ∙ tied_itself (missing_total cmp total) k in
        let no : Equal ≡ Less = sym tie ∙ less in
        absurd (cc)
    | inr differ ↦ differ
  ]

  none_later : (k v : Option X) (ks : List (Option X)) → AllByRecursion (Under k) ks → same k v ≡ true → any ks v ≡ false
  none_later k v ks a e = list_any_none (λ l. same l v) ks
      (All-weaken (Under k) (λ l. same l v ≡ false) (λ l less. other k l v e less) ks a)

  -- the rows of these values are those of each of them, one behind another
  arranged : (ks : List (Option X)) → EachPair Under ks → IsPermutation (filter (λ r. any ks (value r)) rows) (flat_map group ks)
  arranged [] a = subst (λ l. IsPermutation l [])
      (sym (filter_none (λ r. any [] (value r)) rows (All-each (λ r. any [] (value r) ≡ false) (λ r. refl) rows))) (IsPermutation-refl [])
  arranged (k ∷ ks) a =
      let p : ℕ → Bool = λ r. same k (value r) in
      let q : ℕ → Bool = λ r. any ks (value r) in
      let either : ℕ → Bool = λ r. p r || q r in
      let zs : List ℕ = filter either rows in
      let firsts : filter p zs ≡ filter p rows = filter-filter p either rows
      ∙ filter_alike (λ r. either r && p r) p rows (All-each (λ r. (either r && p r) ≡ p r) (λ r. absorbed (p r) (q r)) rows) in
      let others : filter (λ r. not (p r)) zs ≡ filter q rows =
      filter-filter (λ r. not (p r)) either rows
      ∙ filter_alike (λ r. either r && not (p r)) q rows
      (All-each (λ r. (either r && not (p r)) ≡ q r) (λ r. left (p r) (q r) (λ e. none_later k (value r) ks a.0 e)) rows) in
      let halves : IsPermutation zs (filter p zs ++ filter (λ r. not (p r)) zs) = IsPermutation-filter_both p (λ r. not (p r))
      (λ r. refl) zs in
      let alike : IsPermutation zs (filter p rows ++ filter q rows) = subst (λ l. IsPermutation zs l) (λ i. firsts i ++ others i) halves in
      IsPermutation-trans zs (filter p rows ++ filter q rows) (filter p rows ++ flat_map group ks) alike
      (IsPermutation-append_right (filter p rows) (filter q rows) (flat_map group ks) (arranged ks a.1))

  -- where each row has one of these values, the groups are all rows
  pub groups_are_all : (ks : List (Option X)) → EachPair Under ks → All (λ r. any ks (value r) ≡ true) rows
      → IsPermutation rows (flat_map group ks)
  groups_are_all ks rises each =
      let kept : filter (λ r. any ks (value r)) rows ≡ rows = all_kept (λ r. any ks (value r)) rows
      (recursion_from_All (λ r. any ks (value r) ≡ true) rows each) in
      subst (λ l. IsPermutation l (flat_map group ks)) kept (arranged ks rises)

  -- ---- in order, where of rows that tie the lower one stands first

  abbrev Follows : ℕ → ℕ → Type 0
  Follows a b = row_before cmp values a b ≡ true

  of_others : (k l : Option X) (a b : ℕ) → Under k l → k ≡ value a → l ≡ value b → Follows a b
  of_others k l a b less e f =
      let is : missing_last cmp (value a) (value b) ≡ Less = ap (λ x. missing_last cmp x (value b)) (sym e)
      ∙ ap (λ x. missing_last cmp k x) (sym f) ∙ less in
      ap (λ o. is_lt (ordering_then o (nat_cmp a b))) is

  of_one : (k : Option X) (a b : ℕ) → a < b → k ≡ value a → k ≡ value b → Follows a b
  of_one k a b h e f =
      let is : missing_last cmp (value a) (value b) ≡ Equal = ap (λ x. missing_last cmp x (value b)) (sym e)
      ∙ ap (λ x. missing_last cmp k x) (sym f) ∙ tied_itself (missing_total cmp total) k in
      ap (λ o. is_lt (ordering_then o (nat_cmp a b))) is ∙ below a b h

  group_has : (k : Option X) → AllByRecursion (λ r. k ≡ value r) (group k)
  group_has k =
      All-weaken (λ r. same k (value r) ≡ true) (λ r. k ≡ value r) (λ r e. same_is k (value r) e) (group k)
      (recursion_from_All (λ r. same k (value r) ≡ true) (group k) (filter_passes (λ r. same k (value r)) rows))

  before_all : (k : Option X) (ks : List (Option X)) → AllByRecursion (Under k) ks → (a : ℕ) → k ≡ value a
      → AllByRecursion (Follows a) (flat_map group ks)
  before_all k [] less a e = tt
  before_all k (l ∷ ls) less a e =
      All-both (Follows a) (group l) (flat_map group ls)
      (All-weaken (λ b. l ≡ value b) (Follows a) (λ b f. of_others k l a b less.0 e f) (group l) (group_has l))
      (before_all k ls less.1 a e)

  module _ (ties : AllPairs (λ a b. value a ≡ value b → a < b) rows) where
    group_rises : (k : Option X) → EachPair Follows (group k)
    group_rises k =
        let has = All-from_recursion (λ r. k ≡ value r) (group k) (group_has k) in
        let up = AllPairs-filter (λ a b. value a ≡ value b → a < b) (λ r. same k (value r)) rows ties in
        each_pair Follows (group k) (λ i j d p q.
        let e : k ≡ value (get_or (group k) i d) = has i d (omega (arith, p, q)) in
        let f : k ≡ value (get_or (group k) j d) = has j d q in
        of_one k (get_or (group k) i d) (get_or (group k) j d) (up i j d p q (sym e ∙ f)) e f)

    each_rises : (ks : List (Option X)) → EachPair Under ks → EachPair Follows (flat_map group ks)
    each_rises [] a = tt
    each_rises (k ∷ ks) a =
        pairs_append Follows (group k) (flat_map group ks) (group_rises k) (each_rises ks a.1)
        (All-weaken (λ r. k ≡ value r) (λ r. AllByRecursion (Follows r) (flat_map group ks)) (λ r e. before_all k ks a.0 r e) (group k)
        (group_has k))

    pub groups_rise : (ks : List (Option X)) → EachPair Under ks → AllPairs Follows (flat_map group ks)
    groups_rise ks a = all_pairs Follows (flat_map group ks) (each_rises ks a)
