-- Labels with their counts, the first of them by rank.
use Rattle.std.proofs.Common.{◌≡◌, ℕ, ◌+◌, ◌<◌, ◌⊎◌, List, [], ◌∷◌, ◌++◌, length, get_or, take, map, min, Bool, true, AllPairs, refl, sym, ap, ◌∙◌, subst, arith, inl, inr, nat_cmp, Ordering, Less, Equal, Greater}
use Rattle.std.specs.Prelude.{cond, count_by, find, option_map, Option, None, Some, ◌==◌}
use Rattle.std.specs.List.{filter_map, cons_option, range_with_len}
use Rattle.std.specs.Ordering.{is_lt, ordering_reverse, ordering_then}
use Rattle.std.proofs.lemmas.Cmp.{nat_cmp_total}
use Rattle.std.proofs.lemmas.List.{get_or-map, length-map, map-append, take_more}
use Rattle.std.proofs.lemmas.List.Sums.{sum_by-cons}
use Rattle.std.proofs.lemmas.Map.Keys.{Less-from_sorted}
use Rattle.cat_base.specs.Texts.{IsTextSet}
use Rattle.cat_model.specs.Facets.{counted, more}
use Rattle.cat_model.specs.Item.{Record}
use Rattle.cat_model.specs.Page.{first_ranked, ranked}
use Rattle.cat_model.specs.Ranks.{AreApart}
use Rattle.cat_model.specs.Text.{Text, text_cmp}
use Rattle.cat_search.proofs.Marks.{find-map}
use Rattle.cat_service_tests.specs.plain.Counts.{count_comes_first, count_from, counted_of}
use Rattle.cat_service_tests.specs.declared.plain.counts.LabelCount.{LabelCount}

-- ---- ranks go through what keeps the order

module _ {X Y : Type 0} (f : X → Y) (lt : X → X → Bool) (gt : Y → Y → Bool) (same : (a b : X) → gt (f a) (f b) ≡ lt a b) where
  count_map : (x : X) (xs : List X) → count_by (λ y. gt y (f x)) (map f xs) ≡ count_by (λ y. lt y x) xs
  count_map x [] = refl
  count_map x (y ∷ ys) =
      sum_by-cons (λ z. cond (gt z (f x)) 1 0) (f y) (map f ys)
      ∙ (λ i. cond (same y x i) 1 0 + count_map x ys i)
      ∙ sym (sum_by-cons (λ z. cond (lt z x) 1 0) y ys)

  ranked_map : (xs : List X) (k : ℕ) → ranked gt (map f xs) k ≡ option_map f (ranked lt xs k)
  ranked_map xs k = find-map (λ y. count_by (λ z. gt z y) (map f xs) == k) f xs ∙ (λ i. option_map f (find (λ x. count_map x xs i == k) xs))

  through : (h : ℕ → Option X) (ks : List ℕ) → filter_map (λ k. option_map f (h k)) ks ≡ map f (filter_map h ks)
  through h [] = refl
  through h (k ∷ ks) = by (through h ks) (h k)
    where
      by : filter_map (λ k. option_map f (h k)) ks ≡ map f (filter_map h ks) → (o : Option X) → cons_option (option_map f o) (filter_map (λ k. option_map f (h k)) ks) ≡ map f (cons_option o (filter_map h ks))
      by rest None = rest
      by rest (Some x) = ap (λ ys. f x ∷ ys) rest

  pub first_map : (xs : List X) (n : ℕ) → first_ranked gt (map f xs) n ≡ map f (first_ranked lt xs n)
  first_map xs n =
      ap (λ m. filter_map (ranked gt (map f xs)) (range_with_len 0 (min n m))) (length-map xs f)
      ∙ (λ i. filter_map (λ k. ranked_map xs k i) (range_with_len 0 (min n (length xs))))
      ∙ through (ranked lt xs) (range_with_len 0 (min n (length xs)))

-- ---- labels of a set are apart

one_way : (o t x y : Ordering) → t ≡ ordering_reverse o → x ≡ Less → (is_lt (ordering_then o x) ≡ true) ⊎ (is_lt (ordering_then t y) ≡ true)
one_way Less t x y e l = inl refl
one_way Equal t x y e l = inl (ap is_lt l)
one_way Greater t x y e l = inr (ap (λ o. is_lt (ordering_then o y)) e)

apart : (a b : LabelCount) → text_cmp a.label b.label ≡ Less → AreApart count_comes_first a b
apart a b l =
    one_way (nat_cmp b.count.0 a.count.0) (nat_cmp a.count.0 b.count.0) (text_cmp a.label b.label) (text_cmp b.label a.label)
    (nat_cmp_total.antisymm a.count.0 b.count.0) l

module _ (dim : Text) (hs : List Record) where
  -- the label with its count
  abbrev pub ranked_label : Text → LabelCount
  ranked_label l = count_from (counted dim hs l)

  pub labels_apart : (ls : List Text) → IsTextSet ls → AllPairs (AreApart count_comes_first) (map ranked_label ls)
  labels_apart ls set i j d before within =
      let lj : j < length ls = omega (arith, within, length-map ls ranked_label) in
      let a : get_or (map ranked_label ls) i d ≡ ranked_label (get_or ls i []) = get_or-map ranked_label ls i [] d (omega (arith, before, lj)) in
      let b : get_or (map ranked_label ls) j d ≡ ranked_label (get_or ls j []) = get_or-map ranked_label ls j [] d lj in
      let l : text_cmp (get_or ls i []) (get_or ls j []) ≡ Less = Less-from_sorted text_cmp ls i j [] set before lj in
      subst (λ x. AreApart count_comes_first x (get_or (map ranked_label ls) j d)) (sym a)
      (subst (λ y. AreApart count_comes_first (ranked_label (get_or ls i [])) y) (sym b) (apart (ranked_label (get_or ls i [])) (ranked_label (get_or ls j [])) l))

  -- one label more
  pub labels_more : (ls : List Text) (i : ℕ) (d : Text) → i < length ls → map ranked_label (take (i + 1) ls) ≡ map ranked_label (take i ls) ++ ranked_label (get_or ls i d) ∷ []
  labels_more ls i d h = ap (map ranked_label) (take_more ls i d h) ∙ map-append ranked_label (take i ls) (get_or ls i d ∷ [])

  map_told : (ls : List Text) → map counted_of (map ranked_label ls) ≡ map (counted dim hs) ls
  map_told [] = refl
  map_told (l ∷ ls) = ap (λ cs. counted dim hs l ∷ cs) (map_told ls)

  -- the first by the order that is derived are the first by the model's
  pub first_told : (ls : List Text) (n : ℕ) → map counted_of (first_ranked count_comes_first (map ranked_label ls) n) ≡ first_ranked more (map (counted dim hs) ls) n
  first_told ls n =
      sym (first_map counted_of count_comes_first more (λ a b. refl) (map ranked_label ls) n) ∙ ap (λ cs. first_ranked more cs n) (map_told ls)
