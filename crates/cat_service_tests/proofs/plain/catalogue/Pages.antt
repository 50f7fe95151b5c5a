-- The hits in order, and what a page shows of them.
use Rattle.std.proofs.Common.{◌≡◌, ℕ, ◌+◌, ◌<◌, Bool, true, ltb, List, [], ◌∷◌, take, Option, Some, None, ◌==◌, ◌&&◌, refl, sym, ap, ◌∙◌, subst, arith}
use Rattle.std.specs.Cmp.{IsStrictWeakOrder, IsTotalOrder}
use Rattle.std.specs.List.{AllByRecursion, list_any}
use Rattle.std.specs.List.Sorted.{IsSortedBy, IsStableBy}
use Rattle.std.specs.Ordering.{is_lt, nat_cmp, ordering_reverse, ordering_then}
use Rattle.std.specs.declared.cmp.Ordering.{Ordering}
use Rattle.std.specs.declared.cmp.Ordering.TheVariants.{Less, Equal, Greater}
use Rattle.std.proofs.lemmas.Cmp.{nat_list_cmp_total, int_cmp_total, nat_cmp_total, on_total, then_total, back_total}
use Rattle.std.proofs.lemmas.List.Sorted.{ranks_by}
use Rattle.cat_model.specs.Item.{Record}
use Rattle.cat_model.specs.Page.{Sort, Key, key, key_cmp, comes_before, decided, before, first_ranked, rest}
use Rattle.cat_model.specs.Ranks.{AreApart, sorted}
use Rattle.cat_model.proofs.HitOrder.{key_antisymm, is_lt-nat_cmp, is_lt-then, sorts_order_records}
use Rattle.cat_model.proofs.Lists.{All-weaken}
use Rattle.cat_model.proofs.Places.{AllApart}
use Rattle.cat_model.proofs.Ranked.{first_sorted}
use Rattle.cat_search.proofs.Stable.{stable_sort}
use Rattle.cat_service_tests.specs.plain.Pages.{key_order}
use Rattle.cat_service_tests.specs.plain.Tables.{NumbersRise}
use Rattle.cat_service_tests.proofs.plain.catalogue.Rising.{rise-filter}

-- ---- any two records compare

key_trans : (x y z : Key) → key_cmp x y ≡ Less → key_cmp y z ≡ Less → key_cmp x z ≡ Less
key_trans (Key.number a) y (Key.keyword c) p q = refl
key_trans (Key.number a) (Key.number b) (Key.number c) p q = int_cmp_total.trans a b c p q
key_trans (Key.number a) (Key.keyword b) (Key.number c) p q = absurd (cc)
key_trans (Key.keyword a) (Key.number b) z p q = absurd (cc)
key_trans (Key.keyword a) (Key.keyword b) (Key.number c) p q = absurd (cc)
key_trans (Key.keyword a) (Key.keyword b) (Key.keyword c) p q = nat_list_cmp_total.trans a b c p q

key_congr : (x y z : Key) → key_cmp x y ≡ Equal → key_cmp x z ≡ key_cmp y z
key_congr (Key.number a) (Key.number b) (Key.number c) p = int_cmp_total.congr a b c p
key_congr (Key.number a) (Key.number b) (Key.keyword c) p = refl
key_congr (Key.number a) (Key.keyword b) z p = absurd (cc)
key_congr (Key.keyword a) (Key.number b) z p = absurd (cc)
key_congr (Key.keyword a) (Key.keyword b) (Key.number c) p = refl
key_congr (Key.keyword a) (Key.keyword b) (Key.keyword c) p = nat_list_cmp_total.congr a b c p

key_total : IsTotalOrder key_cmp
key_total = record { antisymm = key_antisymm; trans = key_trans; congr = key_congr }

order_total : (s : Sort) → IsTotalOrder (key_order s)
order_total Sort.added = key_total
order_total (Sort.rising f) = key_total
order_total (Sort.falling f) = subst IsTotalOrder (λ i x y. key_antisymm y x i) (back_total key_total)

-- missing keys last
abbrev last_cmp : (Key → Key → Ordering) → Option Key → Option Key → Ordering
last_cmp cmp (Some a) (Some b) = cmp a b
last_cmp cmp (Some a) None = Less
last_cmp cmp None (Some b) = Greater
last_cmp cmp None None = Equal

module _ (cmp : Key → Key → Ordering) (total : IsTotalOrder cmp) where
  last_antisymm : (x y : Option Key) → last_cmp cmp x y ≡ ordering_reverse (last_cmp cmp y x)
  last_antisymm (Some a) (Some b) = total.antisymm a b
  last_antisymm (Some a) None = refl
  last_antisymm None (Some b) = refl
  last_antisymm None None = refl

  last_trans : (x y z : Option Key) → last_cmp cmp x y ≡ Less → last_cmp cmp y z ≡ Less → last_cmp cmp x z ≡ Less
  last_trans (Some a) y None p q = refl
  last_trans (Some a) (Some b) (Some c) p q = total.trans a b c p q
  last_trans (Some a) None (Some c) p q = absurd (cc)
  last_trans None (Some b) z p q = absurd (cc)
  last_trans None None z p q = absurd (cc)

  last_congr : (x y z : Option Key) → last_cmp cmp x y ≡ Equal → last_cmp cmp x z ≡ last_cmp cmp y z
  last_congr (Some a) (Some b) (Some c) p = total.congr a b c p
  last_congr (Some a) (Some b) None p = refl
  last_congr (Some a) None z p = absurd (cc)
  last_congr None (Some b) z p = absurd (cc)
  last_congr None None z p = refl

  last_total : IsTotalOrder (last_cmp cmp)
  last_total = record { antisymm = last_antisymm; trans = last_trans; congr = last_congr }

by_place : (cmp : Key → Key → Ordering) (k l : Option Key) (m n : ℕ) → is_lt (ordering_then (last_cmp cmp k l) (nat_cmp m n)) ≡ comes_before cmp k l (ltb m n)
by_place cmp (Some a) (Some b) m n = is_lt-then (cmp a b) m n
by_place cmp (Some a) None m n = refl
by_place cmp None (Some b) m n = refl
by_place cmp None None m n = is_lt-nat_cmp m n

-- by their keys, and by their numbers where these tie
pub before_by : (s : Sort) (a b : Record) → comes_before (key_order s) (key s a) (key s b) (ltb a.number b.number) ≡ before s a b
before_by Sort.added a b = refl
before_by (Sort.rising f) a b = refl
before_by (Sort.falling f) a b = refl

pub placed : (s : Sort) (a b : Record) (by : Ordering) → ((tie : Bool) → decided by tie ≡ comes_before (key_order s) (key s a) (key s b) tie) → is_lt (ordering_then by (nat_cmp a.number b.number)) ≡ before s a b
placed s a b by is = is_lt-then by a.number b.number ∙ is (ltb a.number b.number) ∙ before_by s a b

pub weak : (s : Sort) → IsStrictWeakOrder (before s)
weak s =
    subst IsStrictWeakOrder (λ i a b. (by_place (key_order s) (key s a) (key s b) a.number b.number ∙ before_by s a b) i)
    (ranks_by (then_total (on_total (key s) (last_total (key_order s) (order_total s))) (on_total (λ (r : Record). r.number) nat_cmp_total)) (λ r. r))

-- ---- the first of the hits

pub rises_behind : (s : Sort) (rs hs : List Record) (m : Option ℕ) → NumbersRise hs → NumbersRise (rest s rs m hs)
rises_behind s rs hs None a = a
rises_behind s rs hs (Some mark) a = rise-filter (λ h. list_any (λ m. (m.number == mark) && before s m h) rs) hs a

differ : (m n : ℕ) → m < n → m ≡ n → ⊥
differ m n h e = omega (arith, h, e)

all_apart : (s : Sort) (rs : List Record) → NumbersRise rs → AllApart (before s) rs
all_apart s [] a = tt
all_apart s (r ∷ rs) a =
    (All-weaken (λ t. r.number < t.number) (AreApart (before s) r) (λ t h. (sorts_order_records s).apart r t (differ r.number t.number h)) rs a.0, all_apart s rs a.1)

pub first_in_order : (s : Sort) (rs ys : List Record) (n : ℕ) → NumbersRise rs → IsSortedBy (before s) ys → IsStableBy (before s) rs ys → take n ys ≡ first_ranked (before s) rs n
first_in_order s rs ys n rise up stable =
    ap (take n) (stable_sort (before s) (weak s) rs ys up stable) ∙ sym (first_sorted (before s) (sorts_order_records s).strict rs n (all_apart s rs rise))
