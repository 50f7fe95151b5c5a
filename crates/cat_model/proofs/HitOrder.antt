-- Every sort is a strict order of records.
use Rattle.std.proofs.Common.{◌≡◌, ◌≢◌, ℕ, ◌<◌, Bool, true, ltb, Option, Some, None, refl, sym, ◌∙◌, ap, subst, arith, inl, inr}
use Rattle.std.specs.Prelude.{◌⊎◌}
use Rattle.std.proofs.lemmas.Bool.Decides.{nat_tests}
use Rattle.std.proofs.lemmas.Cmp.{nat_list_cmp_total, int_cmp_total, nat_cmp_total, on_total, then_total, back_total}
use Rattle.std.proofs.lemmas.List.Sorted.{ranks_by}
use Rattle.std.specs.Cmp.{IsTotalOrder, IsStrictWeakOrder}
use Rattle.std.specs.declared.cmp.Ordering.{Ordering}
use Rattle.std.specs.declared.cmp.Ordering.TheVariants.{Less, Equal, Greater}
use Rattle.std.specs.Ordering.{is_lt, nat_cmp, ordering_then, ordering_reverse, on, then_cmp}
use Rattle.cat_model.specs.Item.{Record}
use Rattle.cat_model.specs.Page.{Sort, Key, key, key_cmp, decided, comes_before, before}
use Rattle.cat_model.specs.Ranks.{IsStrictOrder, AreApart}
use Rattle.cat_model.specs.RankLaws.{SortsOrderRecords, AddedStandFirst}
use Rattle.cat_model.proofs.Insert.{strict_from_weak}
use Rattle.cat_model.proofs.Places.{each_pair}
use Rattle.cat_model.proofs.Ranked.{first_risen}

-- ---- keys

pub key_antisymm : (x y : Key) → key_cmp x y ≡ ordering_reverse (key_cmp y x)
key_antisymm (Key.number a) (Key.number b) = int_cmp_total.antisymm a b
key_antisymm (Key.number a) (Key.keyword b) = refl
key_antisymm (Key.keyword a) (Key.number b) = refl
key_antisymm (Key.keyword a) (Key.keyword b) = nat_list_cmp_total.antisymm a b

key_trans : (x y z : Key) → key_cmp x y ≡ Less → key_cmp y z ≡ Less → key_cmp x z ≡ Less
key_trans (Key.number a) y (Key.keyword c) p q = refl
key_trans (Key.number a) (Key.number b) (Key.number c) p q = int_cmp_total.trans a b c p q
key_trans (Key.number a) (Key.keyword b) (Key.number c) p q = absurd (cc)
key_trans (Key.keyword a) (Key.number b) z p q = absurd (cc)
key_trans (Key.keyword a) (Key.keyword b) (Key.number c) p q = absurd (cc)
key_trans (Key.keyword a) (Key.keyword b) (Key.keyword c) p q = nat_list_cmp_total.trans a b c p q

key_congr : (x y z : Key) → key_cmp x y ≡ Equal → key_cmp x z ≡ key_cmp y z
key_congr (Key.number a) (Key.number b) (Key.number c) p = int_cmp_total.congr a b c p
key_congr (Key.number a) (Key.number b) (Key.keyword c) p = refl
key_congr (Key.number a) (Key.keyword b) z p = absurd (cc)
key_congr (Key.keyword a) (Key.number b) z p = absurd (cc)
key_congr (Key.keyword a) (Key.keyword b) (Key.number c) p = refl
key_congr (Key.keyword a) (Key.keyword b) (Key.keyword c) p = nat_list_cmp_total.congr a b c p

key_total : IsTotalOrder key_cmp
key_total = record { antisymm = key_antisymm; trans = key_trans; congr = key_congr }

fallen_total : IsTotalOrder (λ x y. ordering_reverse (key_cmp x y))
fallen_total = subst IsTotalOrder (λ i x y. key_antisymm y x i) (back_total key_total)

-- ---- the place of a key, where a missing one is last

abbrev missing_last : (Key → Key → Ordering) → Option Key → Option Key → Ordering
missing_last cmp (Some a) (Some b) = cmp a b
missing_last cmp (Some a) None = Less
missing_last cmp None (Some b) = Greater
missing_last cmp None None = Equal

pub is_lt-nat_cmp : (m n : ℕ) → is_lt (nat_cmp m n) ≡ ltb m n
is_lt-nat_cmp m n = grind (arith, nat_tests)

pub is_lt-then : (o : Ordering) (m n : ℕ) → is_lt (ordering_then o (nat_cmp m n)) ≡ decided o (ltb m n)
is_lt-then Less m n = refl
is_lt-then Equal m n = is_lt-nat_cmp m n
is_lt-then Greater m n = refl

then_equal : (o t : Ordering) → ordering_then o t ≡ Equal → t ≡ Equal
then_equal Less t e = absurd (cc)
then_equal Equal t e = e
then_equal Greater t e = absurd (cc)

same_number : (m n : ℕ) → nat_cmp m n ≡ Equal → m ≡ n
same_number m n e = grind (arith, nat_tests)

one_is_less : (o t : Ordering) → t ≡ ordering_reverse o → (o ≡ Equal → ⊥) → (is_lt o ≡ true) ⊎ (is_lt t ≡ true)
one_is_less Less t e n = inl refl
one_is_less Equal t e n = absurd (n refl)
one_is_less Greater t e n = inr (ap is_lt e)

module _ (cmp : Key → Key → Ordering) (total : IsTotalOrder cmp) where
  last_antisymm : (x y : Option Key) → missing_last cmp x y ≡ ordering_reverse (missing_last cmp y x)
  last_antisymm (Some a) (Some b) = total.antisymm a b
  last_antisymm (Some a) None = refl
  last_antisymm None (Some b) = refl
  last_antisymm None None = refl

  last_trans : (x y z : Option Key) → missing_last cmp x y ≡ Less → missing_last cmp y z ≡ Less → missing_last cmp x z ≡ Less
  last_trans (Some a) y None p q = refl
  last_trans (Some a) (Some b) (Some c) p q = total.trans a b c p q
  last_trans (Some a) None (Some c) p q = absurd (cc)
  last_trans None (Some b) z p q = absurd (cc)
  last_trans None None z p q = absurd (cc)

  last_congr : (x y z : Option Key) → missing_last cmp x y ≡ Equal → missing_last cmp x z ≡ missing_last cmp y z
  last_congr (Some a) (Some b) (Some c) p = total.congr a b c p
  last_congr (Some a) (Some b) None p = refl
  last_congr (Some a) None z p = absurd (cc)
  last_congr None (Some b) z p = absurd (cc)
  last_congr None None z p = refl

  module _ (key_of : Record → Option Key) where
    abbrev place_cmp : Record → Record → Ordering
    place_cmp = then_cmp (on key_of (missing_last cmp)) (on (λ r. r.number) nat_cmp)

    abbrev comes : Record → Record → Bool
    comes a b = comes_before cmp (key_of a) (key_of b) (ltb a.number b.number)

    place_total : IsTotalOrder place_cmp
    place_total = then_total (on_total key_of (record { antisymm = last_antisymm; trans = last_trans; congr = last_congr })) (on_total (λ r. r.number) nat_cmp_total)

    by_place : (k l : Option Key) (m n : ℕ) → is_lt (ordering_then (missing_last cmp k l) (nat_cmp m n)) ≡ comes_before cmp k l (ltb m n)
    by_place (Some a) (Some b) m n = is_lt-then (cmp a b) m n
    by_place (Some a) None m n = refl
    by_place None (Some b) m n = refl
    by_place None None m n = is_lt-nat_cmp m n

    is_before : (a b : Record) → is_lt (place_cmp a b) ≡ comes a b
    is_before a b = by_place (key_of a) (key_of b) a.number b.number

    strict : IsStrictOrder comes
    strict = strict_from_weak comes (subst IsStrictWeakOrder (λ i a b. is_before a b i) (ranks_by place_total (λ r. r)))

    apart : (a b : Record) → a.number ≢ b.number → AreApart comes a b
    apart a b differ = elim (one_is_less (place_cmp a b) (place_cmp b a) (place_total.antisymm b a) (λ e. differ (same_number a.number b.number (then_equal (missing_last cmp (key_of a) (key_of b)) (nat_cmp a.number b.number) e)))) [
      | inl e ↦ inl (sym (is_before a b) ∙ e)
      | inr e ↦ inr (sym (is_before b a) ∙ e)
    ]

-- ---- the laws

pub sorts_order_records : SortsOrderRecords
sorts_order_records Sort.added = record { strict = strict key_cmp key_total (λ r. None); apart = apart key_cmp key_total (λ r. None) }
sorts_order_records (Sort.rising f) = record { strict = strict key_cmp key_total (key (Sort.rising f)); apart = apart key_cmp key_total (key (Sort.rising f)) }
sorts_order_records (Sort.falling f) = record {
  strict = strict (λ x y. ordering_reverse (key_cmp x y)) fallen_total (key (Sort.falling f));
  apart = apart (λ x y. ordering_reverse (key_cmp x y)) fallen_total (key (Sort.falling f));
}

below : (m n : ℕ) → m < n → ltb m n ≡ true
below m n h = grind (arith, nat_tests)

pub added_stand_first : AddedStandFirst
added_stand_first rs n rising =
    first_risen (before Sort.added) (sorts_order_records Sort.added).strict rs n
    (each_pair (λ a b. before Sort.added a b ≡ true) rs (λ i j d p q. below _ _ (rising i j d p q)))
