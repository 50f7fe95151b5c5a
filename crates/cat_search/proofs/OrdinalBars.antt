-- What a bar keeps out by ordinals lies outside the ends.
use Rattle.std.proofs.Common.{◌≡◌, ℕ, ◌<◌, ◌≤◌, nat_le, nat_lt, Bool, true, false, not, ◌&&◌, List, [], length, get_or, Option, Some, None, option_map, IfSome, inl, inr, refl, sym, ap, ◌∙◌, subst, arith}
use Rattle.std.proofs.lemmas.Bool.{cases_lt, cases_Bool, true≢false}
use Rattle.std.proofs.lemmas.Bool.Decides.{nat_tests}
use Rattle.std.proofs.lemmas.Map.Keys.{Less-from_sorted}
use Rattle.std.specs.Cmp.Lexicographic.{slice_cmp, nat_list_cmp_total}
use Rattle.std.specs.List.Sorted.{IsPartitionPoint, IsPartitionedBy}
use Rattle.std.specs.Ordering.{nat_cmp, is_lt, is_le, ordering_reverse}
use Rattle.std.specs.declared.cmp.Ordering.{Ordering}
use Rattle.std.specs.declared.cmp.Ordering.TheVariants.{Less, Equal, Greater}
use Rattle.cat_base.specs.Texts.{IsTextSet}
use Rattle.cat_model.specs.Ordinals.{text_at}
use Rattle.cat_model.specs.Page.{Key}
use Rattle.cat_model.specs.Query.{open_or}
use Rattle.cat_model.specs.Text.{Text, text_cmp, text_le}
use Rattle.cat_search.specs.declared.ends.Ends.{Ends}
use Rattle.cat_search.specs.declared.ordinal_bar.OrdinalBar.{OrdinalBar}
use Rattle.cat_search.specs.Bars.{key_le, keyword_of, lies_within}
use Rattle.cat_search.specs.Keys.{key_ref_of}
use Rattle.cat_search.specs.OrdinalBars.{is_below_end, is_above_end, AreTextsBelow, AreAbove, AreOrdinalsOf, keyword_key, lets_ordinal_in}
use Rattle.cat_search.proofs.Bars.{either_refuses}

-- ---- the order of texts

less : (o : Ordering) → is_lt o ≡ true → o ≡ Less
less Less h = refl
less Equal h = absurd (cc)
less Greater h = absurd (cc)

turned : (o : Ordering) → is_lt o ≡ true → is_le (ordering_reverse o) ≡ false
turned Less h = refl
turned Equal h = absurd (cc)
turned Greater h = absurd (cc)

-- what comes after a text is not at most the text
not_le : (a b : Text) → is_lt (text_cmp b a) ≡ true → text_le a b ≡ false
not_le a b h = ap is_le (nat_list_cmp_total.antisymm a b) ∙ turned (text_cmp b a) h

-- ---- texts in order

module _ (texts : List Text) (sorted : IsTextSet texts) where
  rises_at : (i j : ℕ) (d : Text) → i < j → j < length texts → text_cmp (get_or texts i d) (get_or texts j d) ≡ Less
  rises_at i j d before lt = Less-from_sorted (slice_cmp nat_cmp) texts i j d sorted before lt

  -- a test that each earlier text passes too parts the texts
  parted : (p : Text → Bool) → ((x y : Text) → text_cmp x y ≡ Less → p y ≡ true → p x ≡ true) → IsPartitionedBy p texts
  parted p falls i j d le lt h =
      elim (cases_lt i j) [
        | inl before ↦ falls (get_or texts i d) (get_or texts j d) (rises_at i j d before lt) h
        | inr at ↦ let same : i ≡ j = omega arith in ap (λ k. p (get_or texts k d)) same ∙ h
      ]

  pub parted_low : (low : Option Text) → IsPartitionedBy (λ t. is_below_end t low) texts
  parted_low None = λ i j d le lt h. h
  parted_low (Some a) = parted (λ t. is_lt (text_cmp t a)) (λ x y lt h. ap is_lt (nat_list_cmp_total.trans x y a lt (less (text_cmp y a) h)))

  pub parted_high : (high : Option Text) → IsPartitionedBy (λ t. not (is_above_end t high)) texts
  parted_high None = λ i j d le lt h. h
  parted_high (Some a) = parted (λ t. not (is_lt (text_cmp a t))) (λ x y lt h. elim (cases_Bool (is_lt (text_cmp a x))) [
    | inl under ↦ absurd (true≢false (sym (ap is_lt (nat_list_cmp_total.trans a x y (less (text_cmp a x) under) lt)) ∙ not_true (is_lt (text_cmp a y)) h))
    | inr over ↦ ap not over
  ])
    where
      not_true : (b : Bool) → not b ≡ true → b ≡ false
      not_true true h = absurd (cc)
      not_true false h = refl

pub below_before : (low : Option Text) (texts dictionary : List Text) (ordinal : ℕ) → texts ≡ dictionary → IsPartitionPoint (λ t. is_below_end t low ≡ true) (λ t. is_below_end t low ≡ false) texts ordinal → AreTextsBelow low dictionary ordinal
below_before low texts dictionary ordinal e point = subst (λ ts. AreTextsBelow low ts ordinal) e (λ i under lt. point.0 i [] (omega arith) under)

pub above_from : (high : Option Text) (texts dictionary : List Text) (ordinal : ℕ) → texts ≡ dictionary
    → IsPartitionPoint (λ t. not (is_above_end t high) ≡ true) (λ t. not (is_above_end t high) ≡ false) texts ordinal → AreAbove high dictionary ordinal
above_from high texts dictionary ordinal e point = subst (λ ts. AreAbove high ts ordinal) e (λ i from lt. not_false (is_above_end (text_at texts i) high) (point.1 i [] from lt))
  where
    not_false : (b : Bool) → not b ≡ false → b ≡ true
    not_false true h = refl
    not_false false h = absurd (cc)

-- ---- the bar of ordinals

low_over : (low : Option Key) (t : Text) → is_below_end t (keyword_of low) ≡ true → open_or (λ a. key_le a (Key.keyword t)) low ≡ false
low_over None t e = absurd (cc)
low_over (Some (Key.number n)) t e = absurd (cc)
low_over (Some (Key.keyword a)) t e = not_le a t e

high_under : (high : Option Key) (t : Text) → is_above_end t (keyword_of high) ≡ true → open_or (key_le (Key.keyword t)) high ≡ false
high_under None t e = absurd (cc)
high_under (Some (Key.number n)) t e = absurd (cc)
high_under (Some (Key.keyword a)) t e = not_le t a e

not_from : (from i : ℕ) → nat_le from i ≡ false → i < from
not_from from i e = grind (arith, nat_tests)

not_before : (i before : ℕ) → nat_lt i before ≡ false → before ≤ i
not_before i before e = grind (arith, nat_tests)

pub open_ordinals : (texts : List Text) (ordinal n : ℕ) → ordinal ≡ length texts → AreOrdinalsOf texts (record { from = 0; before = ordinal; missing = true; low = None; high = None; lookups = n })
open_ordinals texts ordinal n e = record { below = λ i under lt. absurd (omega arith); above = λ i from lt. absurd (omega (arith, e)) }

pub open_lets_in : (texts : List Text) (ordinal n : ℕ) → ordinal ≡ length texts → (i : Option ℕ) → IfSome i (λ k. k < length texts)
    → lets_ordinal_in (record { from = 0; before = ordinal; missing = true; low = None; high = None; lookups = n }) i ≡ true
open_lets_in texts ordinal n e None within = refl
open_lets_in texts ordinal n e (Some i) within = both i ordinal (omega (arith, within, e))
  where
    both : (k m : ℕ) → k < m → (nat_le 0 k && nat_lt k m) ≡ true
    both k m h = grind (arith, nat_tests)

pub outside : (ends : Ends) (texts : List Text) (bar : OrdinalBar) → bar.missing ≡ ends.missing
    → option_map (λ t. t.now) bar.low ≡ keyword_of (option_map key_ref_of ends.low) → option_map (λ t. t.now) bar.high ≡ keyword_of (option_map key_ref_of ends.high) → AreOrdinalsOf texts bar
    → (i : Option ℕ) → IfSome i (λ k. k < length texts) → lets_ordinal_in bar i ≡ false → lies_within ends (keyword_key texts i) ≡ false
outside ends texts bar m a b are None within e = sym m ∙ e
outside ends texts bar m a b are (Some i) within e =
    let t : Text = text_at texts i in
    let first : Option Key = option_map key_ref_of ends.low in
    let last : Option Key = option_map key_ref_of ends.high in
    either_refuses (nat_le bar.from i) (nat_lt i bar.before) (open_or (λ x. key_le x (Key.keyword t)) first) (open_or (key_le (Key.keyword t)) last)
    (λ x. low_over first t (sym (ap (is_below_end t) a) ∙ are.below i (not_from bar.from i x) within)) (λ x. high_under last t (sym (ap (is_above_end t) b) ∙ are.above i (not_before i bar.before x) within)) e
