-- The rows of each text, those of one text behind those of another, are all rows in order.
use Rattle.std.proofs.Common.{◌≡◌, ℕ, zero, suc, ◌+◌, ◌-◌, ◌<◌, List, [], ◌∷◌, ◌++◌, length, map, filter, get_or, cond, AllPairs, Option}
use Rattle.std.proofs.Common.{Some, None, Bool, true, false, ◌||◌, refl, sym, ◌∙◌, ap, subst, arith}
use Rattle.std.specs.Prelude.{reverse, Contains, All}
use Rattle.std.specs.Cmp.{IsTotalOrder}
use Rattle.std.specs.List.{AllByRecursion, flat_map, list_any, range_with_len}
use Rattle.std.specs.declared.cmp.Ordering.{Ordering}
use Rattle.std.specs.declared.cmp.Ordering.TheVariants.{Less}
use Rattle.std.proofs.lemmas.Bool.{true≢false}
use Rattle.std.proofs.lemmas.List.{map-id, length-append, length-map, length-reverse, get_or-map, get_or-reverse, get_or_append_left}
use Rattle.std.proofs.lemmas.List.Folds.{flat_map-map}
use Rattle.std.proofs.Math.Seq.{get_or-append_seam}
use Rattle.cat_base.proofs.TextSets.{IsTextSet-sorted_set}
use Rattle.std.proofs.lemmas.Cmp.{nat_list_cmp_total}
use Rattle.cat_model.specs.RowSets.{has_row}
use Rattle.cat_model.specs.Ordinals.{postings_of, rows_having, text_at}
use Rattle.cat_segment.specs.RowParts.{rising_values, falling_values}
use Rattle.std.proofs.lemmas.List.Elements.{filter-append, recursion_from_All}
use Rattle.std.proofs.lemmas.List.FromFn.{length-range_with_len, get_or-range_with_len, map-range_with_len_more}
use Rattle.std.proofs.lemmas.Map.Keys.{Less-from_sorted}
use Rattle.std.proofs.lemmas.Slice.Eq.{bytes_eq-Decides}
use Rattle.cat_base.specs.Texts.{IsTextSet}
use Rattle.cat_model.specs.Ordinals.{dictionary_of, texts_of}
use Rattle.cat_model.specs.Text.{Text, same_text, text_cmp}
use Rattle.cat_model.proofs.Lists.{filter_alike}
use Rattle.cat_model.proofs.Places.{EachPair, each_pair}
use Rattle.cat_columns.proofs.Laid.{rows_there}
use Rattle.cat_segment.specs.Orders.{IsOrderBy, missing_last, turned}
use Rattle.cat_segment.specs.Valued.{same_value, rows_with}
use Rattle.cat_segment.proofs.Groups.{groups_are_all, groups_rise}
use Rattle.cat_segment.proofs.RowOrders.{turned_total}

-- ---- values

pub same_is : (a b : Option Text) → same_value a b ≡ true → a ≡ b
same_is (Some a) (Some b) e = ap Some ((bytes_eq-Decides a b).0 e)
same_is (Some a) None e = absurd (true≢false (sym e))
same_is None (Some b) e = absurd (true≢false (sym e))
same_is None None e = refl

-- ---- tests

or_true : (a : Bool) → (a || true) ≡ true
or_true true = refl
or_true false = refl

or_false : (a : Bool) → (a || false) ≡ a
or_false true = refl
or_false false = refl

-- the rows up to one more
pub rows_more : (p : ℕ → Bool) (n : ℕ) → filter p (range_with_len 0 (n + 1)) ≡ filter p (range_with_len 0 n) ++ cond (p n) (n ∷ []) []
rows_more p n =
    let more = sym (map-id (range_with_len 0 (n + 1))) ∙ map-range_with_len_more (λ k. k) 0 n n (omega arith)
    ∙ ap (λ l. l ++ n ∷ []) (map-id (range_with_len 0 n)) in
    ap (filter p) more ∙ filter-append p (range_with_len 0 n) (n ∷ [])

-- ---- rows by values that rise

module _ (cmp : Text → Text → Ordering) (total : IsTotalOrder cmp) (values : List (Option Text)) where
  abbrev rows : List ℕ
  rows = range_with_len 0 (length values)

  rows_rise : AllPairs (λ a b. a < b) rows
  rows_rise i j d p q =
      let long = length-range_with_len 0 (length values) in
      let at_i = get_or-range_with_len 0 (length values) i d (omega (arith, p, q, long)) in
      let at_j = get_or-range_with_len 0 (length values) j d (omega (arith, q, long)) in
      omega (arith, p, at_i, at_j)

  module _ (ks : List (Option Text)) (rises : EachPair (λ k l. missing_last cmp k l ≡ Less) ks)
      (each : (row : ℕ) → row < length values → list_any (λ k. same_value k (get_or values row None)) ks ≡ true) where
    met : All (λ row. list_any (λ k. same_value k (get_or values row None)) ks ≡ true) rows
    met i d h =
        let long = length-range_with_len 0 (length values) in
        let at = get_or-range_with_len 0 (length values) i d (omega (arith, h, long)) in
        each (get_or rows i d) (omega (arith, h, long, at))

    in_groups : IsOrderBy cmp values (flat_map (rows_with values) ks)
    in_groups = record {
      rows = groups_are_all cmp total same_value same_is values rows ks rises met;
      rising = groups_rise cmp total same_value same_is values rows (λ i j d p q e. rows_rise i j d p q) ks rises;
    }

-- ---- the values of a column

abbrev last : List Text → List (Option Text)
last texts = map Some texts ++ None ∷ []

module _ (cmp : Text → Text → Ordering) where
  beside_last : (t : Text) (texts : List Text) → AllByRecursion (λ u. cmp t u ≡ Less) texts → AllByRecursion (λ k. missing_last cmp (Some t) k ≡ Less) (last texts)
  beside_last t [] a = (refl, tt)
  beside_last t (u ∷ texts) a = (a.0, beside_last t texts a.1)

  -- where the texts rise, so they do with none behind them
  last_rises : (texts : List Text) → EachPair (λ a b. cmp a b ≡ Less) texts → EachPair (λ k l. missing_last cmp k l ≡ Less) (last texts)
  last_rises [] a = (tt, tt)
  last_rises (t ∷ texts) a = (beside_last t texts a.0, last_rises texts a.1)

any_last : (texts : List Text) → list_any (λ k. same_value k None) (last texts) ≡ true
any_last [] = refl
any_last (t ∷ texts) = any_last texts

any_text : (texts : List Text) (t : Text) (i : ℕ) → i < length texts → get_or texts i t ≡ t → list_any (λ k. same_value k (Some t)) (last texts) ≡ true
any_text [] t i h e = absurd (omega (arith, h))
any_text (u ∷ texts) t zero h e = ap (λ b. b || list_any (λ k. same_value k (Some t)) (last texts)) ((bytes_eq-Decides u t).1 e)
any_text (u ∷ texts) t (suc i) h e = ap (λ b. same_text u t || b) (any_text texts t i (omega (arith, h)) e) ∙ or_true (same_text u t)

module _ (values : List (Option Text)) where
  abbrev texts : List Text
  texts = dictionary_of (map texts_of values)

  -- each row's text is in the dictionary
  there : (row : ℕ) (t : Text) → row < length values → get_or values row None ≡ Some t → Contains texts t
  there row t h e =
      let is : get_or (map texts_of values) row [] ≡ t ∷ [] = get_or-map texts_of values row None [] h ∙ ap texts_of e in
      let all : All (Contains texts) (t ∷ []) = subst (All (Contains texts)) is (rows_there (map texts_of values) row [] (omega (arith, h, length-map values texts_of))) in
      all 0 t (omega arith)

  each_of : (list : List Text) → ((t : Text) → Contains texts t → Contains list t) → (row : ℕ) → row < length values → list_any (λ k. same_value k (get_or values row None)) (last list) ≡ true
  each_of list has row h = by (get_or values row None) refl
    where
      by : (v : Option Text) → get_or values row None ≡ v → list_any (λ k. same_value k v) (last list) ≡ true
      by None e = any_last list
      by (Some t) e = let found = has t (there row t h e) in any_text list t found.0 found.1 found.2

  in_reverse : (list : List Text) (t : Text) → Contains list t → Contains (reverse list) t
  in_reverse list t found =
      let place = length list - 1 - found.0 in
      let within : place < length list = omega (arith, found.1) in
      let back : length list - 1 - place ≡ found.0 = omega (arith, found.1) in
      (place, omega (arith, within, length-reverse list), get_or-reverse list place t within ∙ ap (λ k. get_or list k t) back ∙ found.2)

  module _ (sorted : IsTextSet texts) where
    rise : EachPair (λ a b. text_cmp a b ≡ Less) texts
    rise = each_pair (λ a b. text_cmp a b ≡ Less) texts (λ i j d p q. Less-from_sorted text_cmp texts i j d sorted p q)

    fall : EachPair (λ a b. turned text_cmp a b ≡ Less) (reverse texts)
    fall = each_pair (λ a b. turned text_cmp a b ≡ Less) (reverse texts) (λ i j d p q.
        let long = length-reverse texts in
        let at_i = get_or-reverse texts i d (omega (arith, p, q, long)) in
        let at_j = get_or-reverse texts j d (omega (arith, q, long)) in
        ap (λ x. text_cmp x (get_or (reverse texts) i d)) at_j ∙ ap (λ x. text_cmp (get_or texts (length texts - 1 - j) d) x) at_i
        ∙ Less-from_sorted text_cmp texts (length texts - 1 - j) (length texts - 1 - i) d sorted (omega (arith, p, q, long)) (omega (arith, p, q, long)))

  sorted_texts : IsTextSet texts
  sorted_texts = IsTextSet-sorted_set (flat_map (λ ts. ts) (map texts_of values))

  -- the rows of each value, the least value first, are in order
  pub rising_in_order : IsOrderBy text_cmp values (flat_map (λ part. part) (map (rows_with values) (rising_values values)))
  rising_in_order =
      subst (IsOrderBy text_cmp values) (sym (flat_map-map (λ part. part) (rows_with values) (rising_values values)))
      (in_groups text_cmp nat_list_cmp_total values (rising_values values) (last_rises text_cmp texts (rise sorted_texts)) (each_of texts (λ t found. found)))

  -- and so are they the greatest value first
  pub falling_in_order : IsOrderBy (turned text_cmp) values (flat_map (λ part. part) (map (rows_with values) (falling_values values)))
  falling_in_order =
      subst (IsOrderBy (turned text_cmp) values) (sym (flat_map-map (λ part. part) (rows_with values) (falling_values values)))
      (in_groups (turned text_cmp) (turned_total text_cmp nat_list_cmp_total) values (falling_values values) (last_rises (turned text_cmp) (reverse texts) (fall sorted_texts)) (each_of (reverse texts) (in_reverse texts)))

  -- ---- postings

  has_text : (t : Text) (row : ℕ) → row < length values → has_row (rows_having t (map texts_of values)) row ≡ same_value (Some t) (get_or values row None)
  has_text t row h =
      get_or-map (list_any (same_text t)) (map texts_of values) row [] false (omega (arith, h, length-map values texts_of))
      ∙ ap (list_any (same_text t)) (get_or-map texts_of values row None [] h) ∙ by (get_or values row None)
    where
      by : (v : Option Text) → list_any (same_text t) (texts_of v) ≡ same_value (Some t) v
      by None = refl
      by (Some u) = or_false (same_text t u)

  -- the postings of a text are the rows that have it
  pub postings_are : (t : Text) → postings_of t (map texts_of values) ≡ rows_with values (Some t)
  postings_are t =
      let set = rows_having t (map texts_of values) in
      let long : length set ≡ length values = length-map (map texts_of values) (list_any (same_text t)) ∙ length-map values texts_of in
      ap (λ n. filter (has_row set) (range_with_len 0 n)) long
      ∙ filter_alike (has_row set) (λ r. same_value (Some t) (get_or values r None)) (range_with_len 0 (length values))
      (recursion_from_All (λ r. has_row set r ≡ same_value (Some t) (get_or values r None)) (range_with_len 0 (length values)) (λ i d h.
      let size = length-range_with_len 0 (length values) in
      let at = get_or-range_with_len 0 (length values) i d (omega (arith, h, size)) in
      has_text t (get_or (range_with_len 0 (length values)) i d) (omega (arith, h, size, at))))

-- ---- one part

module _ (values : List (Option Text)) (list : List Text) where
  pub length-last : length (last list) ≡ length list + 1
  length-last = length-append (map Some list) (None ∷ []) ∙ ap (λ n. n + 1) (length-map list Some)

  -- the part of a text
  pub part_of_text : (i : ℕ) → i < length list → get_or (map (rows_with values) (last list)) i [] ≡ postings_of (text_at list i) (map texts_of values)
  part_of_text i h =
      get_or-map (rows_with values) (last list) i None [] (omega (arith, h, length-last))
      ∙ ap (rows_with values) (get_or_append_left (map Some list) (None ∷ []) None i (omega (arith, h, length-map list Some)) ∙ get_or-map Some list i [] None h)
      ∙ sym (postings_are values (text_at list i))

  -- the last part
  pub part_of_none : (i : ℕ) → i ≡ length list → get_or (map (rows_with values) (last list)) i [] ≡ rows_with values None
  part_of_none i e =
      get_or-map (rows_with values) (last list) i None [] (omega (arith, e, length-last))
      ∙ ap (rows_with values) (ap (λ n. get_or (last list) n None) (e ∙ sym (length-map list Some)) ∙ get_or-append_seam (map Some list) None [] None)
