-- Words in byte order that pass a test of a range stand one behind another.
use Rattle.std.proofs.Common.{◌≡◌, ℕ, zero, suc, ◌+◌, ◌-◌, ◌<◌, Bool, true, false, not, ◌&&◌, ◌||◌, cond, List, [], ◌∷◌, length, get_or, drop, Option, Some, None, inl, inr, refl, sym, ap, ◌∙◌, arith, ltb, eqb, lt-ltb, eqb-true, eq-eqb, length-drop, get_or-drop}
use Rattle.std.proofs.lemmas.Bool.{cases_lt, cases_order, cond-true, cond-false, ne_eqb, cases_Bool, le-ltb, or_cases, true≢false}
use Rattle.std.proofs.lemmas.Cmp.{nat_cmp_total}
use Rattle.std.proofs.lemmas.Map.Keys.{Less-from_sorted}
use Rattle.std.specs.Cmp.{tied_itself}
use Rattle.std.specs.Cmp.Lexicographic.{slice_cmp, nat_list_cmp_total}
use Rattle.std.specs.List.Sorted.{IsStrictlySortedBy, IsPartitionPoint, IsPartitionedBy}
use Rattle.std.specs.Ordering.{nat_cmp, is_lt, is_le, ordering_reverse, ordering_then}
use Rattle.std.specs.Prelude.{All}
use Rattle.std.specs.declared.cmp.Ordering.{Ordering}
use Rattle.std.specs.declared.cmp.Ordering.TheVariants.{Less, Equal, Greater}
use Rattle.cat_base.specs.Texts.{IsTextSet}
use Rattle.cat_model.specs.Text.{Text, text_cmp, text_le, has_prefix}
use Rattle.cat_model.specs.Query.{open_or}
use Rattle.cat_columns.specs.inverted.Intervals.{IsInterval}

-- ---- the order of texts

abbrev pub text_lt : Text → Text → Bool
text_lt x y = is_lt (text_cmp x y)

turned : (o : Ordering) → is_le (ordering_reverse o) ≡ not (is_lt o)
turned Less = refl
turned Equal = refl
turned Greater = refl

-- a word is not before a text that is at most the word
pub le_not_lt : (a w : Text) → text_le a w ≡ not (text_lt w a)
le_not_lt a w = ap is_le (nat_list_cmp_total.antisymm a w) ∙ turned (text_cmp w a)

lt_of : (o : Ordering) → is_lt o ≡ true → o ≡ Less
lt_of Less h = refl
lt_of Equal h = absurd (cc)
lt_of Greater h = absurd (cc)

lt_trans : (x y z : Text) → text_cmp x y ≡ Less → text_lt y z ≡ true → text_lt x z ≡ true
lt_trans x y z a b = ap is_lt (nat_list_cmp_total.trans x y z a (lt_of (text_cmp y z) b))

pub not_true : (b : Bool) → not b ≡ true → b ≡ false
not_true true h = absurd (cc)
not_true false h = refl

-- a word is before a text that isn't at most the word
pub lt_not_le : (a w : Text) → text_lt w a ≡ not (text_le a w)
lt_not_le a w = sym (twice (text_lt w a)) ∙ ap not (sym (le_not_lt a w))
  where
    twice : (b : Bool) → not (not b) ≡ b
    twice true = refl
    twice false = refl

pub not_false : (b : Bool) → not b ≡ false → b ≡ true
not_false true h = refl
not_false false h = absurd (cc)

-- what is at most a word is at most each later one, and what is at least a word at least each earlier one
le_rises : (a x y : Text) → text_cmp x y ≡ Less → text_le a x ≡ true → text_le a y ≡ true
le_rises a x y lt h =
    elim (cases_Bool (text_lt y a)) [
      | inl under ↦ absurd (true≢false (sym (lt_trans x y a lt under) ∙ not_true (text_lt x a) (sym (le_not_lt a x) ∙ h)))
      | inr over ↦ le_not_lt a y ∙ ap not over
    ]

le_falls : (a x y : Text) → text_cmp x y ≡ Less → text_le y a ≡ true → text_le x a ≡ true
le_falls a x y lt h =
    elim (cases_Bool (text_lt a x)) [
      | inl under ↦ absurd (true≢false (sym (ap is_lt (nat_list_cmp_total.trans a x y (lt_of (text_cmp a x) under) lt)) ∙ not_true (text_lt a y) (sym (le_not_lt y a) ∙ h)))
      | inr over ↦ le_not_lt x a ∙ ap not over
    ]

-- ---- prefixes

or_right : (b : Bool) → (b || true) ≡ true
or_right true = refl
or_right false = refl

and_left : (a b : Bool) → (a && b) ≡ true → a ≡ true
and_left true b h = refl
and_left false b h = h

and_right : (a b : Bool) → (a && b) ≡ true → b ≡ true
and_right true b h = h
and_right false b h = absurd (cc)

cmp_same : (x y : ℕ) → x ≡ y → nat_cmp x y ≡ Equal
cmp_same x y e = ap (nat_cmp x) (sym e) ∙ tied_itself nat_cmp_total x

cmp_less : (x y : ℕ) → x < y → nat_cmp x y ≡ Less
cmp_less x y lt = cond-true (ltb x y) Less (cond (eqb x y) Equal Greater) (lt-ltb x y lt)

cmp_greater : (x y : ℕ) → y < x → nat_cmp x y ≡ Greater
cmp_greater x y lt = cond-false (ltb x y) Less (cond (eqb x y) Equal Greater) (le-ltb x y (omega arith)) ∙ cond-false (eqb x y) Equal Greater (ne_eqb x y (λ e. absurd (omega arith)))

-- a word that begins with the prefix is not before it
prefix_not_below : (p w : Text) → has_prefix p w ≡ true → text_lt w p ≡ false
prefix_not_below [] [] h = refl
prefix_not_below [] (x ∷ xs) h = refl
prefix_not_below (y ∷ ys) [] h = absurd (cc)
prefix_not_below (y ∷ ys) (x ∷ xs) h =
    ap (λ o. is_lt (ordering_then o (text_cmp xs ys))) (cmp_same x y (sym (eqb-true y x (and_left (eqb y x) (has_prefix ys xs) h))))
    ∙ prefix_not_below ys xs (and_right (eqb y x) (has_prefix ys xs) h)

pub prefix_le : (p w : Text) → has_prefix p w ≡ true → text_le p w ≡ true
prefix_le p w h = le_not_lt p w ∙ ap not (prefix_not_below p w h)

-- before a word that begins with the prefix there are words before the prefix and words that begin with it
prefix_below : (p x y : Text) → text_cmp x y ≡ Less → has_prefix p y ≡ true → (text_lt x p || has_prefix p x) ≡ true
prefix_below [] x y lt h = or_right (text_lt x [])
prefix_below (c ∷ p) x [] lt h = absurd (cc)
prefix_below (c ∷ p) [] (y ∷ ys) lt h = refl
prefix_below (c ∷ p) (x ∷ xs) (y ∷ ys) lt h =
    let at : c ≡ y = eqb-true c y (and_left (eqb c y) (has_prefix p ys) h) in
    elim (cases_order x y) [
      | inl same ↦
          ap (λ o. is_lt (ordering_then o (text_cmp xs p)) || (eqb c x && has_prefix p xs)) (cmp_same x c (same ∙ sym at))
          ∙ ap (λ b. text_lt xs p || (b && has_prefix p xs)) (eq-eqb c x (at ∙ sym same))
          ∙ prefix_below p xs ys (sym (ap (λ o. ordering_then o (text_cmp xs ys)) (cmp_same x y same)) ∙ lt) (and_right (eqb c y) (has_prefix p ys) h)
      | inr apart ↦ elim apart [
        | inl under ↦ ap (λ o. is_lt (ordering_then o (text_cmp xs p)) || (eqb c x && has_prefix p xs)) (cmp_less x c (omega arith))
        | inr over ↦ absurd (let e : Greater ≡ Less = sym (ap (λ o. ordering_then o (text_cmp xs ys)) (cmp_greater x y over)) ∙ lt in cc)
      ]
    ]

prefix_falls : (p x y : Text) → text_le p x ≡ true → text_cmp x y ≡ Less → has_prefix p y ≡ true → has_prefix p x ≡ true
prefix_falls p x y from lt h =
    elim (or_cases (text_lt x p) (has_prefix p x) (prefix_below p x y lt h)) [
      | inl under ↦ absurd (true≢false (sym under ∙ not_true (text_lt x p) (sym (le_not_lt p x) ∙ from)))
      | inr begun ↦ begun
    ]

-- ---- words in order

module _ (words : List Text) (sorted : IsTextSet words) where
  rises_at : (i j : ℕ) (d : Text) → i < j → j < length words → text_cmp (get_or words i d) (get_or words j d) ≡ Less
  rises_at i j d before lt = Less-from_sorted (slice_cmp nat_cmp) words i j d sorted before lt

  -- a test that each earlier word passes too parts the words
  parted : (p : Text → Bool) → ((i j : ℕ) (d : Text) → i < j → j < length words → p (get_or words j d) ≡ true → p (get_or words i d) ≡ true) → IsPartitionedBy p words
  parted p falls i j d le lt h =
      elim (cases_lt i j) [
        | inl before ↦ falls i j d before lt h
        | inr at ↦ let same : i ≡ j = omega arith in ap (λ k. p (get_or words k d)) same ∙ h
      ]

  pub parted_low : (low : Option Text) → IsPartitionedBy (λ w. not (open_or (λ a. text_le a w) low)) words
  parted_low None = λ i j d le lt h. h
  parted_low (Some a) = parted (λ w. not (text_le a w)) (λ i j d before lt h. elim (cases_Bool (text_le a (get_or words i d))) [
    | inl yes' ↦ absurd (true≢false (sym (le_rises a (get_or words i d) (get_or words j d) (rises_at i j d before lt) yes') ∙ not_true (text_le a (get_or words j d)) h))
    | inr no' ↦ ap not no'
  ])

  pub parted_high : (high : Option Text) → IsPartitionedBy (λ w. open_or (text_le w) high) words
  parted_high None = λ i j d le lt h. h
  parted_high (Some a) = parted (λ w. text_le w a) (λ i j d before lt h. le_falls a (get_or words i d) (get_or words j d) (rises_at i j d before lt) h)

  pub parted_prefix : (p : Text) → All (λ w. text_le p w ≡ true) words → IsPartitionedBy (has_prefix p) words
  parted_prefix p from = parted (has_prefix p) (λ i j d before lt h. prefix_falls p (get_or words i d) (get_or words j d) (from i d (omega arith)) (rises_at i j d before lt) h)

-- what stands behind a place is in order too
pub set_behind : (n : ℕ) (words : List Text) → IsTextSet words → IsTextSet (drop n words)
unfolding IsStrictlySortedBy
set_behind zero words sorted = sorted
set_behind (suc n) [] sorted = sorted
set_behind (suc n) (w ∷ words) sorted = set_behind n words sorted.1

-- the words behind a place pass what holds of each from there on
pub all_behind : (a : Text → Bool) (words : List Text) (first : ℕ) → IsPartitionPoint (λ w. a w ≡ false) (λ w. a w ≡ true) words first → All (λ w. a w ≡ true) (drop first words)
all_behind a words first point k d lt =
    let inside : first + k < length words = omega (arith, length-drop first words) in
    ap a (get_or-drop first words k d) ∙ point.1 (first + k) d (omega arith) inside

-- the words from the first that passes a on, as far as they pass b
pub interval_of : (p a b : Text → Bool) → ((w : Text) → p w ≡ (a w && b w)) → (words : List Text) (first count : ℕ)
    → IsPartitionPoint (λ w. a w ≡ false) (λ w. a w ≡ true) words first → IsPartitionPoint (λ w. b w ≡ true) (λ w. b w ≡ false) (drop first words) count → IsInterval p words first count
interval_of p a b is words first count low high = record {
  before = λ o under lt. let w : Text = get_or words o [] in is w ∙ ap (λ t. t && b w) (low.0 o [] (omega arith) under);
  inside = λ o from to lt.
      let w : Text = get_or words o [] in
      let there : first + (o - first) ≡ o = omega arith in
      let passes : b w ≡ true = ap b (ap (λ k. get_or words k []) (sym there) ∙ sym (get_or-drop first words (o - first) [])) ∙ high.0 (o - first) [] (omega arith) (omega arith) in
      is w ∙ ap (λ t. t && b w) (low.1 o [] from lt) ∙ passes;
  after = λ o from lt.
      let w : Text = get_or words o [] in
      let there : first + (o - first) ≡ o = omega arith in
      let inside : o - first < length (drop first words) = omega (arith, length-drop first words) in
      let fails : b w ≡ false = ap b (ap (λ k. get_or words k []) (sym there) ∙ sym (get_or-drop first words (o - first) [])) ∙ high.1 (o - first) [] (omega arith) inside in
      is w ∙ ap (λ t. a w && t) fails ∙ never (a w);
}
  where
    never : (t : Bool) → (t && false) ≡ false
    never true = refl
    never false = refl

-- what begins with a prefix is at least the prefix
pub prefix_is : (p w : Text) → has_prefix p w ≡ (text_le p w && has_prefix p w)
prefix_is p w =
    elim (cases_Bool (has_prefix p w)) [
      | inl yes' ↦ yes' ∙ sym (ap (λ t. t && has_prefix p w) (prefix_le p w yes') ∙ yes')
      | inr no' ↦ no' ∙ sym (ap (λ t. text_le p w && t) no' ∙ never (text_le p w))
    ]
  where
    never : (t : Bool) → (t && false) ≡ false
    never true = refl
    never false = refl
