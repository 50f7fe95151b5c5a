-- The k-th by rank is the k-th of an arrangement that rises.
use Rattle.std.proofs.Common.{◌≡◌, ℕ, zero, suc, ◌+◌, ◌≤◌, ◌<◌, min, List, [], ◌∷◌, length, take, IsPermutation, Bool, true, false, cond, Option, Some, None, refl, sym, ◌∙◌, ap, subst, arith, inl, inr}
use Rattle.std.specs.Prelude.{find, filter_map, ◌==◌}
use Rattle.std.specs.List.{AllByRecursion, range_with_len, count_by}
use Rattle.std.proofs.lemmas.Bool.Decides.{nat_tests}
use Rattle.std.proofs.lemmas.List.{length-take}
use Rattle.std.proofs.lemmas.List.Elements.{All-from_recursion, recursion_from_All}
use Rattle.std.proofs.lemmas.List.Recursion.{is_count_by}
use Rattle.std.proofs.lemmas.List.Sorted.{All-permutation, IsPermutation-sym, IsPermutation-refl, sum_by-IsPermutation, length_permutation}
use Rattle.cat_model.specs.Page.{ranked, first_ranked}
use Rattle.cat_model.specs.Ranks.{IsStrictOrder, AreApart, sorted}
use Rattle.cat_model.specs.RankLaws.{RanksFollowOrder}
use Rattle.cat_model.proofs.Insert.{which, one_way, permutes-sorted, rises-sorted}
use Rattle.cat_model.proofs.Lists.{All-weaken}
use Rattle.cat_model.proofs.Places.{AllApart, Rises, each_pair, all_pairs}

one_more : (b : Bool) (n : ℕ) → cond b 1 0 + n ≡ cond b (1 + n) n
one_more true n = refl
one_more false n = omega arith

-- a count by recursion on the list, where `count_by` keeps a running sum
abbrev count : {X : Type 0} → (X → Bool) → List X → ℕ
count p [] = 0
count p (x ∷ xs) = cond (p x) 1 0 + count p xs

count_by-is : {X : Type 0} (p : X → Bool) (xs : List X) → count_by p xs ≡ count p xs
count_by-is {X} p xs = sym (is_count_by (count p) p refl (λ x xs. one_more (p x) (count p xs)) xs)

nth : {X : Type 0} → ℕ → List X → Option X
nth k [] = None
nth zero (x ∷ xs) = Some x
nth (suc k) (x ∷ xs) = nth k xs

-- the elements have the ranks a, a + 1, ..
abbrev RankFrom : {X : Type 0} → (X → ℕ) → ℕ → List X → Type 0
RankFrom rank a [] = Unit {0}
RankFrom rank a (z ∷ zs) = (rank z ≡ a) × RankFrom rank (a + 1) zs

none_before : {X : Type 0} (lt : X → X → Bool) (z : X) (zs : List X) → AllByRecursion (λ y. lt y z ≡ false) zs → count (λ y. lt y z) zs ≡ 0
none_before lt z [] a = refl
none_before lt z (y ∷ ys) a = let e : lt y z ≡ false = a.0 in let h : count (λ y. lt y z) ys ≡ 0 = none_before lt z ys a.1 in rw e (omega (arith, h))

module _ {X : Type 0} (lt : X → X → Bool) (o : IsStrictOrder lt) where
  later : (rank : X → ℕ) (a : ℕ) (z : X) (zs ws : List X) → AllByRecursion (λ y. lt z y ≡ true) ws → AllByRecursion (λ w. rank w ≡ a + count (λ y. lt y w) (z ∷ zs)) ws → AllByRecursion (λ w. rank w ≡ a + 1 + count (λ y. lt y w) zs) ws
  later rank a z zs [] r h = tt
  later rank a z zs (w ∷ ws) r h =
      let e : lt z w ≡ true = r.0 in
      let f : rank w ≡ a + (cond (lt z w) 1 0 + count (λ y. lt y w) zs) = h.0 in
      let g : rank w ≡ a + (cond true 1 0 + count (λ y. lt y w) zs) = rw e at f in
      (omega (arith, g), later rank a z zs ws r.1 h.1)

  -- in a list that rises each element's rank is its place
  rank_from : (rank : X → ℕ) (a : ℕ) (zs : List X) → Rises lt zs → AllByRecursion (λ z. rank z ≡ a + count (λ y. lt y z) zs) zs → RankFrom rank a zs
  rank_from rank a [] r h = tt
  rank_from rank a (z ∷ zs) r h =
      let i : lt z z ≡ false = o.irreflexive z in
      let n : count (λ y. lt y z) zs ≡ 0 = none_before lt z zs (All-weaken (λ y. lt z y ≡ true) (λ y. lt y z ≡ false) (λ y e. one_way lt o z y e) zs r.0) in
      let first : rank z ≡ a + (cond (lt z z) 1 0 + count (λ y. lt y z) zs) = h.0 in
      let first' : rank z ≡ a + (cond false 1 0 + 0) = rw (i, n) at first in
      (omega (arith, first'), rank_from rank (a + 1) zs r.1 (later rank a z zs zs r.0 h.1))

each_own : {X : Type 0} (rank : X → ℕ) (xs : List X) → AllByRecursion (λ z. rank z ≡ 0 + rank z) xs
each_own rank [] = tt
each_own rank (x ∷ xs) = (omega arith, each_own rank xs)

wrong : (m a b : ℕ) → m ≡ b → a < b → (m == a) ≡ true → ⊥
wrong m a b e h t = grind (arith, nat_tests)

-- those from a on have no lower rank
above : {X : Type 0} (rank : X → ℕ) (a b : ℕ) (zs : List X) (z : X) → a < b → RankFrom rank b zs → AllByRecursion (λ x. (rank x == a) ≡ true → x ≡ z) zs
above rank a b [] z h r = tt
above rank a b (w ∷ ws) z h r = (λ e. absurd (wrong (rank w) a b r.0 h e), above rank a (b + 1) ws z (omega arith) r.1)

other : (m t a k : ℕ) → m ≡ a → a + suc k ≡ t → (m == t) ≡ true → ⊥
other m t a k e s i = grind (arith, nat_tests)

only : {X : Type 0} (rank : X → ℕ) (a k t : ℕ) (zs : List X) (z : X) → a + k ≡ t → RankFrom rank a zs → nth k zs ≡ Some z → AllByRecursion (λ x. (rank x == t) ≡ true → x ≡ z) zs
unfolding nth
only rank a k t [] z s r e = tt
only rank a zero t (w ∷ ws) z s r e = (λ _. cc, above rank t (a + 1) ws z (omega arith) r.1)
only rank a (suc k) t (w ∷ ws) z s r e = (λ i. absurd (other (rank w) t a k r.0 s i), only rank (a + 1) k t ws z (omega arith) r.1 e)

same_rank : (m t a : ℕ) → m ≡ a → a + 0 ≡ t → (m == t) ≡ true
same_rank m t a e s = grind (arith, nat_tests)

met : {X : Type 0} (rank : X → ℕ) (a k t : ℕ) (zs : List X) (z : X) → a + k ≡ t → RankFrom rank a zs → nth k zs ≡ Some z → 1 ≤ count (λ x. rank x == t) zs
unfolding nth
met rank a k t [] z s r e = absurd (cc)
met rank a zero t (w ∷ ws) z s r e = let h : (rank w == t) ≡ true = same_rank (rank w) t a r.0 s in rw h (omega arith)
met rank a (suc k) t (w ∷ ws) z s r e = let h : 1 ≤ count (λ x. rank x == t) ws = met rank (a + 1) k t ws z (omega arith) r.1 e in omega (arith, h)

find_is : {X : Type 0} (p : X → Bool) (z : X) (xs : List X) → 1 ≤ count p xs → AllByRecursion (λ x. p x ≡ true → x ≡ z) xs → find p xs ≡ Some z
find_is p z [] h a = absurd (omega arith)
find_is p z (x ∷ xs) h a = elim (which (p x)) [
  | inl e ↦ rw e (ap Some (a.0 e))
  | inr e ↦ let g : 1 ≤ cond false 1 0 + count p xs = rw e at h in let g' : 1 ≤ count p xs = omega (arith, g) in rw e (find_is p z xs g' a.1)
]

takes : {X : Type 0} (f : ℕ → Option X) (a n : ℕ) (zs : List X) → ((k : ℕ) (z : X) → nth k zs ≡ Some z → f (a + k) ≡ Some z) → filter_map f (range_with_len a (min n (length zs))) ≡ take n zs
unfolding nth
takes f a zero zs h = let e : min 0 (length zs) ≡ 0 = omega arith in rw e refl
takes f a (suc n) [] h = let e : min (suc n) 0 ≡ 0 = omega arith in rw e refl
takes {X} f a (suc n) (z ∷ zs) h =
    let e : min (suc n) (suc (length zs)) ≡ suc (min n (length zs)) = omega arith in
    let i : f (a + 0) ≡ Some z = h zero z refl in
    let s : a + 0 ≡ a = omega arith in
    let j : f a ≡ Some z = rw s at i in
    let step = λ (k : ℕ) (y : X) (q : nth k zs ≡ Some y). let u : a + 1 + k ≡ a + suc k = omega arith in ap f u ∙ h (suc k) y q in
    rw e (rw j (ap (λ ys. z ∷ ys) (takes f (a + 1) n zs step)))

module _ {X : Type 0} (lt : X → X → Bool) (o : IsStrictOrder lt) where
  first_of_rising : (xs ys : List X) (n : ℕ) → IsPermutation xs ys → Rises lt ys → first_ranked lt xs n ≡ take n ys
  first_of_rising xs ys n same r =
      let rank : X → ℕ = λ x. count_by (λ y. lt y x) xs in
      let own : X → ℕ = λ x. count (λ y. lt y x) ys in
      let long : length ys ≡ length xs = length_permutation xs ys same in
      let counts = λ (p : X → Bool). sym (count_by-is p ys) ∙ sum_by-IsPermutation (λ x. cond (p x) 1 0) xs ys same in
      let each = λ (P : X → Type 0) (h : AllByRecursion P ys). recursion_from_All P xs (All-permutation P ys xs (IsPermutation-sym xs ys same) (All-from_recursion P ys h)) in
      let ranks : RankFrom own 0 ys = rank_from lt o own 0 ys r (each_own own ys) in
      let alike : own ≡ rank = λ i x. counts (λ y. lt y x) i in
      let R : RankFrom rank 0 ys = subst (λ f. RankFrom f 0 ys) alike ranks in
      let met_in = λ (k : ℕ) (z : X) (e : nth k ys ≡ Some z). subst (λ m. 1 ≤ m) (counts (λ x. rank x == 0 + k) ∙ count_by-is (λ x. rank x == 0 + k) xs) (met rank 0 k (0 + k) ys z refl R e) in
      let at = λ (k : ℕ) (z : X) (e : nth k ys ≡ Some z). find_is (λ x. rank x == 0 + k) z xs (met_in k z e) (each (λ x. (rank x == 0 + k) ≡ true → x ≡ z) (only rank 0 k (0 + k) ys z refl R e)) in
      ap (λ m. filter_map (ranked lt xs) (range_with_len 0 (min n m))) (sym long) ∙ takes (ranked lt xs) 0 n ys at

  -- the first n by rank are the first n of the list in order
  pub first_sorted : (xs : List X) (n : ℕ) → AllApart lt xs → first_ranked lt xs n ≡ take n (sorted lt xs)
  first_sorted xs n a = first_of_rising xs (sorted lt xs) n (permutes-sorted lt xs) (rises-sorted lt o xs a)

  -- a list that rises is in order
  pub first_risen : (xs : List X) (n : ℕ) → Rises lt xs → first_ranked lt xs n ≡ take n xs
  first_risen xs n r = first_of_rising xs xs n (IsPermutation-refl xs) r

  many : (xs : List X) (n : ℕ) → AllApart lt xs → length (first_ranked lt xs n) ≡ min n (length xs)
  many xs n a = ap length (first_sorted xs n a) ∙ length-take n (sorted lt xs) ∙ ap (min n) (length_permutation xs (sorted lt xs) (permutes-sorted lt xs))

pub ranks_follow_order : {X : Type 0} → RanksFollowOrder X
ranks_follow_order lt xs n o apart =
    let a : AllApart lt xs = each_pair (AreApart lt) xs apart in
    record {
      arranged = record { same = permutes-sorted lt xs; rising = all_pairs (λ y z. lt y z ≡ true) (sorted lt xs) (rises-sorted lt o xs a) };
      first = λ ys h. first_of_rising lt o xs ys n h.same (each_pair (λ y z. lt y z ≡ true) ys h.rising);
      many = many lt o xs n a;
    }
