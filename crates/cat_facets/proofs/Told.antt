-- The counts by ordinals are the counts of the model.
use Rattle.std.proofs.Common.{◌≡◌, ℕ, zero, suc, ◌+◌, ◌<◌, ltb, List, [], ◌∷◌, ◌++◌, length, get_or, map, filter, Bool, true, false, cond, not, ◌&&◌, ◌||◌, refl, sym, ap, ◌∙◌, arith, inl, inr, append_assoc, length-append, Less}
use Rattle.std.proofs.lemmas.Bool.{cases_Bool}
use Rattle.std.proofs.lemmas.Bool.Decides.{nat_tests}
use Rattle.std.proofs.lemmas.List.{get_or-map, length-map}
use Rattle.std.proofs.lemmas.Grind.{same_number_lists}
use Rattle.std.proofs.lemmas.Slice.Eq.{bytes_eq-Decides}
use Rattle.std.specs.List.{list_any, flat_map}
use Rattle.std.specs.List.Sorted.{IsStrictlySortedBy}
use Rattle.std.specs.Prelude.{count_by}
use Rattle.cat_base.specs.Texts.{IsTextSet}
use Rattle.cat_base.proofs.TextSets.{has, sorted_set_is}
use Rattle.cat_model.specs.Facets.{Counted, Facets, counted, facets_of, is_empty, labels_met, labels_of, more}
use Rattle.cat_model.specs.Item.{Record}
use Rattle.cat_model.specs.Ordinals.{text_at}
use Rattle.cat_model.specs.Page.{first_ranked}
use Rattle.cat_model.specs.Text.{Text, same_text, text_cmp}
use Rattle.cat_model.proofs.Lists.{All-kept}
use Rattle.cat_facets.specs.declared.first.Ranked.{Ranked}
use Rattle.cat_facets.specs.Met.{label_comes_first, met_from, one_met, label_told}
use Rattle.cat_facets.specs.Tallies.{has_label, label_count, labelled_count, one_if, AreCounts}
use Rattle.cat_facets.proofs.Counted.{count, count-is, count-map}
use Rattle.cat_facets.proofs.Globals.{any_flat, same_has}
use Rattle.cat_facets.proofs.Ranking.{first_told}

-- ---- the labels whose counts aren't 0

abbrev is_more : ℕ → Bool
is_more zero = false
is_more (suc n) = true

abbrev counted_as : (Text → ℕ) → Text → Counted
counted_as h t = record { count = h t; label = t }

at_length : (before after : List Text) (t : Text) → get_or (before ++ t ∷ after) (length before) [] ≡ t
at_length [] after t = refl
at_length (b ∷ before) after t = at_length before after t

one_told : (labels : List Text) (h : Text → ℕ) (a n : ℕ) (t : Text) (ranked : List Ranked) (texts : List Text) → h t ≡ n → text_at labels a ≡ t
    → map (label_told labels) ranked ≡ map (counted_as h) texts → map (label_told labels) (one_met a n ++ ranked) ≡ map (counted_as h) (cond (is_more n) (t ∷ texts) texts)
one_told labels h a zero t ranked texts e l r = r
one_told labels h a (suc n) t ranked texts e l r = λ i. record { count = (sym e) i; label = l i } ∷ r i

met_told_from : (labels before after : List Text) (a : ℕ) (h : Text → ℕ) → labels ≡ before ++ after → a ≡ length before
    → map (label_told labels) (met_from a (map h after)) ≡ map (counted_as h) (filter (λ t. is_more (h t)) after)
met_told_from labels before [] a h e at = refl
met_told_from labels before (t ∷ after) a h e at =
    let rest : map (label_told labels) (met_from (a + 1) (map h after)) ≡ map (counted_as h) (filter (λ s. is_more (h s)) after) =
    met_told_from labels (before ++ t ∷ []) after (a + 1) h (e ∙ sym (append_assoc before (t ∷ []) after)) (ap (λ n. n + 1) at ∙ sym (length-append before (t ∷ []))) in
    one_told labels h a (h t) t (met_from (a + 1) (map h after)) (filter (λ s. is_more (h s)) after) refl (ap (λ ls. get_or ls a []) e ∙ ap (λ k. get_or (before ++ t ∷ after) k []) at ∙ at_length before after t) rest

-- ---- the labels of hits are among those of the dictionary

any_kept : (q : Text) (p : Text → Bool) (xs : List Text) → has_label q (filter p xs) ≡ (has_label q xs && p q)
any_kept q p [] = refl
any_kept q p (x ∷ xs) = elim (cases_Bool (same_text q x)) [
  | inl e ↦
      let same : q ≡ x = (bytes_eq-Decides q x).0 e in
      here (p x) refl e (ap p same) (any_kept q p xs)
  | inr e ↦ away (p x) refl e (any_kept q p xs)
]
  where
    and_false : (b : Bool) → (b && false) ≡ false
    and_false true = refl
    and_false false = refl

    here : (b : Bool) → p x ≡ b → same_text q x ≡ true → p q ≡ p x → has_label q (filter p xs) ≡ (has_label q xs && p q) → has_label q (cond b (x ∷ filter p xs) (filter p xs)) ≡ ((same_text q x || has_label q xs) && p q)
    here true kept e same rest = rw (e, same, kept) refl
    here false kept e same rest =
        let fails : p q ≡ false = same ∙ kept in
        rest ∙ ap (λ b. has_label q xs && b) fails ∙ and_false (has_label q xs) ∙ sym (ap (λ b. (same_text q x || has_label q xs) && b) fails ∙ and_false (same_text q x || has_label q xs))

    away : (b : Bool) → p x ≡ b → same_text q x ≡ false → has_label q (filter p xs) ≡ (has_label q xs && p q) → has_label q (cond b (x ∷ filter p xs) (filter p xs)) ≡ ((same_text q x || has_label q xs) && p q)
    away true kept e rest = rw e rest
    away false kept e rest = rw e rest

-- a count is more than 0 where some element passes
some_count : {X : Type 0} (p : X → Bool) (xs : List X) → is_more (count p xs) ≡ list_any p xs
some_count p [] = refl
some_count {X} p (x ∷ xs) = by (p x) (some_count p xs)
  where
    by : (b : Bool) → is_more (count p xs) ≡ list_any p xs → is_more (count p xs + one_if b) ≡ (b || list_any p xs)
    by true rest = let e : count p xs + 1 ≡ suc (count p xs) = omega arith in ap is_more e
    by false rest = let e : count p xs + 0 ≡ count p xs = omega arith in ap is_more e ∙ rest

set_kept : (p : Text → Bool) (xs : List Text) → IsTextSet xs → IsTextSet (filter p xs)
unfolding IsStrictlySortedBy
set_kept p [] sorted = tt
set_kept p (x ∷ xs) sorted =
    elim (p x) as (λ b. IsTextSet (cond b (x ∷ filter p xs) (filter p xs))) [
      | true ↦ (All-kept (λ y. text_cmp x y ≡ Less) p xs sorted.0, set_kept p xs sorted.1)
      | false ↦ set_kept p xs sorted.1
    ]

flat_alike : (dimension : Text) (hs : List Record) → flat_map (labels_of dimension) hs ≡ flat_map (λ ls. ls) (map (labels_of dimension) hs)
flat_alike dimension [] = refl
flat_alike dimension (h ∷ hs) = ap (λ ls. labels_of dimension h ++ ls) (flat_alike dimension hs)

pub counts_are : (labels : List Text) (rows : List (List Text)) (counts : List ℕ) → AreCounts labels rows counts → counts ≡ map (λ t. label_count t rows) labels
counts_are labels rows counts are =
    let long : length counts ≡ length (map (λ t. label_count t rows) labels) = are.long ∙ sym (length-map labels (λ t. label_count t rows)) in
    same_number_lists counts (map (λ t. label_count t rows) labels) long
    (λ k lt. let low : k < length labels = omega (arith, are.long) in are.each k low ∙ sym (get_or-map (λ t. label_count t rows) labels k [] 0 low))

-- a hit has a label where it has one at least
labels_some : (ls : List Text) → not (is_empty ls) ≡ ltb 0 (length ls)
labels_some [] = refl
labels_some (l ∷ ls) = grind (arith, nat_tests)

module _ (labels : List Text) (rows : List (List Text)) (dimension : Text) (hs : List Record) (set : IsTextSet labels) (is : rows ≡ map (labels_of dimension) hs)
    (heard : (t : Text) → list_any (has_label t) rows ≡ true → has_label t labels ≡ true) where
  abbrev with_hits : List Text
  with_hits = filter (λ t. is_more (label_count t rows)) labels

  there : (q : Text) (b : Bool) → list_any (has_label q) rows ≡ b → b ≡ (has_label q labels && b)
  there q true e = let h = heard q e in rw h refl
  there q false e = by (has_label q labels)
    where
      by : (b : Bool) → false ≡ (b && false)
      by true = refl
      by false = refl

  members : (q : Text) → has q (flat_map (labels_of dimension) hs) ≡ has q with_hits
  members q =
      same_has q (flat_map (labels_of dimension) hs) ∙ ap (has_label q) (flat_alike dimension hs ∙ ap (flat_map (λ ls. ls)) (sym is)) ∙ any_flat q rows
      ∙ there q (list_any (has_label q) rows) refl
      ∙ ap (λ b. has_label q labels && b) (sym (ap is_more (sym (count-is (has_label q) rows)) ∙ some_count (has_label q) rows))
      ∙ sym (any_kept q (λ t. is_more (label_count t rows)) labels) ∙ sym (same_has q with_hits)

  met_are : labels_met dimension hs ≡ with_hits
  met_are = sym (sorted_set_is (flat_map (labels_of dimension) hs) with_hits (set_kept (λ t. is_more (label_count t rows)) labels set) members)

  count_alike : (t : Text) → label_count t rows ≡ count_by (λ h. list_any (same_text t) (labels_of dimension h)) hs
  count_alike t = ap (label_count t) is ∙ count-map (has_label t) (labels_of dimension) hs

  told_are : (totals : List ℕ) → AreCounts labels rows totals → map (label_told labels) (met_from 0 totals) ≡ map (counted dimension hs) (labels_met dimension hs)
  told_are totals are =
      ap (λ ts. map (label_told labels) (met_from 0 ts)) (counts_are labels rows totals are)
      ∙ met_told_from labels [] labels 0 (λ t. label_count t rows) refl refl
      ∙ ap (λ (f : Text → Counted). map f with_hits) (λ i t. record { count = count_alike t i; label = t })
      ∙ ap (map (counted dimension hs)) (sym met_are)

  pub facets_are : (totals : List ℕ) (n labelled met : ℕ) (ranked : List Ranked) (counts : List Counted) → AreCounts labels rows totals → labelled ≡ labelled_count rows
      → met ≡ length (met_from 0 totals) → ranked ≡ first_ranked label_comes_first (met_from 0 totals) n → counts ≡ map (label_told labels) ranked
      → ◌≡◌ {A = Facets} (record { matching = labelled; met = met; counts = counts }) (facets_of hs dimension n)
  facets_are totals n labelled met ranked counts are l m r c =
      let matching : labelled ≡ count_by (λ h. ltb 0 (length (labels_of dimension h))) hs =
      l ∙ ap labelled_count is ∙ count-map (λ ls. not (is_empty ls)) (labels_of dimension) hs
      ∙ ap (λ (f : Record → Bool). count_by f hs) (λ i h. labels_some (labels_of dimension h) i) in
      let many : met ≡ length (labels_met dimension hs) =
      m ∙ sym (length-map (met_from 0 totals) (label_told labels)) ∙ ap length (told_are totals are) ∙ length-map (labels_met dimension hs) (counted dimension hs) in
      let shown : counts ≡ first_ranked more (map (counted dimension hs) (labels_met dimension hs)) n =
      c ∙ ap (map (label_told labels)) r ∙ first_told labels totals n set are.long ∙ ap (λ xs. first_ranked more xs n) (told_are totals are) in
      λ i. record { matching = matching i; met = many i; counts = shown i }
