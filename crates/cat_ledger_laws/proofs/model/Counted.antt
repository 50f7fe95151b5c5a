-- Each user has a name at most once.
use Rattle.std.proofs.Common.{◌≡◌, ◌≢◌, ℕ, ◌+◌, ◌<◌, ◌≤◌, List, [], ◌∷◌, ◌++◌, map, Bool, true, false, cond, ◌&&◌, ◌||◌, Option, Some, None, refl, sym, ◌∙◌, ap, ap₂, subst, arith, inl, inr}
use Rattle.std.specs.Prelude.{◌==◌}
use Rattle.std.specs.List.{flat_map, count_by, AllByRecursion}
use Rattle.std.proofs.lemmas.Bool.Decides.{eqb_tells}
use Rattle.std.proofs.lemmas.List.Sums.{sum_by-append}
use Rattle.cat_model.specs.Files.{Name}
use Rattle.cat_model.proofs.Lists.{All-weaken, All-both}
use Rattle.cat_ledger_laws.specs.model.Portions.{Portion, Apart, ArePortions, Merging}
use Rattle.cat_ledger_laws.specs.model.Users.{same_file_name, has_name, times}
use Rattle.cat_model.specs.CommitFile.{live_names}
use Rattle.cat_ledger_laws.specs.model.Ledger.{Listed, LedgerCommit, IsWholeView, IsWholeCommit, portions_in, names_of_portion, names_of_view, names_of_listed, names_of_commit, names_of_merging, IsOther}
use Rattle.cat_ledger_laws.specs.model.Laws.{UsersAreCounted}
use Rattle.cat_ledger_laws.proofs.model.Users.{times-append, times-four, Apart-join}

Distinct : List Name → Type 0
Distinct names = Apart (λ a b. a ≢ b) names

kind : Name → ℕ
kind (Name.segment n) = 0
kind (Name.source n) = 1
kind (Name.live n d) = 2
kind (Name.commit g) = 3

same_number : (a b : ℕ) → (a == b) ≡ true → a ≡ b
same_number a b e = elim (eqb_tells a b) [ inl h ↦ h.1 | inr h ↦ absurd (let no : false ≡ true = sym h.0 ∙ e in cc) ]

and_both : (a b : Bool) → (a && b) ≡ true → (a ≡ true) × (b ≡ true)
and_both true b e = (refl, e)
and_both false b e = absurd (let no : false ≡ true = e in cc)

pub same_name_is : (a b : Name) → same_file_name a b ≡ true → a ≡ b
same_name_is (Name.segment m) (Name.segment n) e = ap (λ k. Name.segment k) (same_number m n e)
same_name_is (Name.source m) (Name.source n) e = ap (λ k. Name.source k) (same_number m n e)
same_name_is (Name.live m d) (Name.live n g) e = let k = and_both (m == n) (d == g) e in ap₂ (λ (x y : ℕ). Name.live x y) (same_number m n k.0) (same_number d g k.1)
same_name_is (Name.commit m) (Name.commit n) e = ap (λ k. Name.commit k) (same_number m n e)
same_name_is _ _ e = absurd (let no : false ≡ true = e in cc)

other_name : (q y : Name) → (q ≡ y → ⊥) → same_file_name q y ≡ false
other_name q y n = by (same_file_name q y) refl
  where
    by : (b : Bool) → same_file_name q y ≡ b → b ≡ false
    by true e = absurd (n (same_name_is q y e))
    by false e = refl

count_by-cons : {X : Type 0} (p : X → Bool) (x : X) (xs : List X) → count_by p (x ∷ xs) ≡ cond (p x) 1 0 + count_by p xs
count_by-cons p x xs = sum_by-append (λ y. cond (p y) 1 0) (x ∷ []) xs ∙ ap (λ n. n + count_by p xs) (let z : (b : Bool) → 0 + cond b 1 0 ≡ cond b 1 0 = λ b. omega arith in z (p x))

none_there : (q : Name) (xs : List Name) → AllByRecursion (λ y. q ≢ y) xs → times q xs ≡ 0
none_there q [] a = refl
none_there q (y ∷ xs) a = count_by-cons (same_file_name q) y xs ∙ (let e : same_file_name q y ≡ false = other_name q y a.0 in rw e (let r : times q xs ≡ 0 = none_there q xs a.1 in omega (arith, r)))

once : (q : Name) (xs : List Name) → Distinct xs → times q xs ≡ cond (has_name q xs) 1 0
unfolding Distinct
once q [] d = refl
once q (x ∷ xs) d = count_by-cons (same_file_name q) x xs ∙ by (same_file_name q x) refl (once q xs d.1)
  where
    by : (b : Bool) → same_file_name q x ≡ b → times q xs ≡ cond (has_name q xs) 1 0 → cond b 1 0 + times q xs ≡ cond (b || has_name q xs) 1 0
    by true e r = let none : times q xs ≡ 0 = none_there q xs (subst (λ n. AllByRecursion (λ y. n ≢ y) xs) (sym (same_name_is q x e)) d.0) in omega (arith, none)
    by false e r = omega (arith, r)

-- ---- the names of portions and of commits

other_differs : (n : ℕ) (x : Name) → (IsOther n x → ⊥) → (names : List Name) → AllByRecursion (IsOther n) names → AllByRecursion (λ y. x ≢ y) names
other_differs n x own names a = All-weaken (IsOther n) (λ y. x ≢ y) (λ y h e. own (subst (IsOther n) (sym e) h)) names a

kinds_differ : (x y : Name) → (kind x ≡ kind y → ⊥) → x ≢ y
kinds_differ x y n e = n (ap kind e)

portions_other : (n : ℕ) (ps : List Portion) → AllByRecursion (λ p. n ≢ p.number) ps → AllByRecursion (IsOther n) (flat_map names_of_portion ps)
portions_other n [] a = tt
portions_other n (p ∷ ps) a = ((λ e. a.0 (sym e)), ((λ e. a.0 (sym e)), portions_other n ps a.1))

portions_distinct : (ps : List Portion) → Apart (λ p q. p.number ≢ q.number) ps → Distinct (flat_map names_of_portion ps)
unfolding Distinct kind
portions_distinct [] a = tt
portions_distinct (p ∷ ps) a =
    let n : ℕ = p.number in
    let others : AllByRecursion (IsOther n) (flat_map names_of_portion ps) = portions_other n ps a.0 in (
      (kinds_differ (Name.segment n) (Name.source n) (λ e. absurd (omega (arith, e))), other_differs n (Name.segment n) (λ h. h refl) _ others),
      (other_differs n (Name.source n) (λ h. h refl) _ others, portions_distinct ps a.1),
    )

live_other : (n m d : ℕ) → n ≢ m → (b : Bool) → AllByRecursion (IsOther n) (cond b [] (Name.live m d ∷ []))
live_other n m d h true = tt
live_other n m d h false = ((λ e. h (sym e)), tt)

listed_other : (n : ℕ) (xs : List Listed) → AllByRecursion (λ x. n ≢ x.portion.number) xs → AllByRecursion (IsOther n) (flat_map names_of_listed xs)
listed_other n [] a = tt
listed_other n (x ∷ xs) a = ((λ e. a.0 (sym e)), ((λ e. a.0 (sym e)), All-both (IsOther n) (live_names x.portion.number x.file) _ (live_other n x.portion.number x.file a.0 (x.file == 0)) (listed_other n xs a.1)))

listed_kinds : (xs : List Listed) → AllByRecursion (λ q. kind q < 3) (flat_map names_of_listed xs)
unfolding kind
listed_kinds [] = tt
listed_kinds (x ∷ xs) = (omega arith, (omega arith, All-both (λ q. kind q < 3) (live_names x.portion.number x.file) _ (own (x.file == 0)) (listed_kinds xs)))
  where
    own : (b : Bool) → AllByRecursion (λ q. kind q < 3) (cond b [] (Name.live x.portion.number x.file ∷ []))
    own true = tt
    own false = (omega arith, tt)

listed_distinct : (xs : List Listed) → Apart (λ p q. p.number ≢ q.number) (map (λ (x : Listed). x.portion) xs) → Distinct (flat_map names_of_listed xs)
unfolding Distinct kind
listed_distinct [] a = tt
listed_distinct (x ∷ xs) a =
    let n : ℕ = x.portion.number in
    let others : AllByRecursion (IsOther n) (flat_map names_of_listed xs) = listed_other n xs (unmapped xs a.0) in
    let live : List Name = live_names n x.file in (
      (kinds_differ (Name.segment n) (Name.source n) (λ e. absurd (omega (arith, e))), All-both (λ y. Name.segment n ≢ y) live _ (own (Name.segment n) (λ e. absurd (omega (arith, e))) (x.file == 0)) (other_differs n (Name.segment n) (λ h. h refl) _ others)),
      (
        All-both (λ y. Name.source n ≢ y) live _ (own (Name.source n) (λ e. absurd (omega (arith, e))) (x.file == 0)) (other_differs n (Name.source n) (λ h. h refl) _ others),
        Apart-join (λ a b. a ≢ b) live (flat_map names_of_listed xs) (alone (x.file == 0)) (listed_distinct xs a.1) (cross (x.file == 0) others),
      ),
    )
  where
    unmapped : (ys : List Listed) → AllByRecursion (λ q. x.portion.number ≢ q.number) (map (λ (y : Listed). y.portion) ys) → AllByRecursion (λ y. x.portion.number ≢ y.portion.number) ys
    unmapped [] a = tt
    unmapped (y ∷ ys) a = (a.0, unmapped ys a.1)

    own : (y : Name) → (kind y ≡ 2 → ⊥) → (b : Bool) → AllByRecursion (λ z. y ≢ z) (cond b [] (Name.live x.portion.number x.file ∷ []))
    own y h true = tt
    own y h false = (kinds_differ y (Name.live x.portion.number x.file) h, tt)

    alone : (b : Bool) → Apart (λ a b. a ≢ b) (cond b [] (Name.live x.portion.number x.file ∷ []))
    alone true = tt
    alone false = (tt, tt)

    cross : (b : Bool) → AllByRecursion (IsOther x.portion.number) (flat_map names_of_listed xs) → AllByRecursion (λ y. AllByRecursion (λ z. y ≢ z) (flat_map names_of_listed xs)) (cond b [] (Name.live x.portion.number x.file ∷ []))
    cross true o = tt
    cross false o = (other_differs x.portion.number (Name.live x.portion.number x.file) (λ h. h refl) _ o, tt)

commit_distinct : (c : LedgerCommit) → ArePortions (portions_in c) → Distinct (names_of_commit c)
unfolding Distinct kind
commit_distinct c ok = (
  All-weaken (λ q. kind q < 3) (λ q. Name.commit c.generation ≢ q) (λ q h e. let k : 3 ≡ kind q = ap kind e in absurd (omega (arith, k, h))) (flat_map names_of_listed c.listed) (listed_kinds c.listed),
  listed_distinct c.listed ok.numbers,
)

-- each of them comes once
once_at_most : (q : Name) (xs : List Name) → Distinct xs → times q xs ≤ 1
once_at_most q xs d = by (has_name q xs) (once q xs d)
  where
    by : (b : Bool) → times q xs ≡ cond b 1 0 → times q xs ≤ 1
    by true e = omega (arith, e)
    by false e = omega (arith, e)

pub portions_once : (q : Name) (ps : List Portion) → ArePortions ps → times q (flat_map names_of_portion ps) ≤ 1
portions_once q ps ok = once_at_most q (flat_map names_of_portion ps) (portions_distinct ps ok.numbers)

pub commit_once : (q : Name) (c : LedgerCommit) → ArePortions (portions_in c) → times q (names_of_commit c) ≤ 1
commit_once q c ok = once_at_most q (names_of_commit c) (commit_distinct c ok)

-- ---- the users

counted : {X : Type 0} (q : Name) (f : X → List Name) (xs : List X) → AllByRecursion (λ x. Distinct (f x)) xs → times q (flat_map f xs) ≡ count_by (has_name q) (map f xs)
counted q f [] a = refl
counted q f (x ∷ xs) a = omega (arith, count_by-cons (has_name q) (f x) (map f xs), times-append q (f x) (flat_map f xs), once q (f x) a.0, counted q f xs a.1)

merging_distinct : (o : Option Merging) → Distinct (names_of_merging o)
unfolding Distinct
merging_distinct None = tt
merging_distinct (Some m) = (tt, tt)

pub users_are_counted : UsersAreCounted
users_are_counted l ok q =
    let H : List Name → ℕ = λ names. cond (has_name q names) 1 0 in
    let vs : List (List Name) = map names_of_view l.views in
    let cs : List (List Name) = map names_of_commit l.commits in
    let ms : List Name = names_of_merging l.merging in
    omega (
      arith,
      ok.users q,
      times-four q (flat_map names_of_portion l.portions) (flat_map names_of_view l.views) (flat_map names_of_commit l.commits) ms,
      once q (flat_map names_of_portion l.portions) (portions_distinct l.portions ok.portions.numbers),
      counted q names_of_view l.views (All-weaken (IsWholeView l.schema l.count) (λ v. Distinct (names_of_view v)) (λ v h. portions_distinct v.portions h.1.portions.numbers) l.views ok.views),
      counted q names_of_commit l.commits (All-weaken (IsWholeCommit l.schema l.count) (λ c. Distinct (names_of_commit c)) (λ c h. commit_distinct c h.1.portions) l.commits ok.commits),
      once q ms (merging_distinct l.merging),
      count_by-cons (has_name q) (flat_map names_of_portion l.portions) (vs ++ (cs ++ ms ∷ [])),
      count_by-cons (has_name q) ms [],
      sum_by-append H vs (cs ++ ms ∷ []),
      sum_by-append H cs (ms ∷ []),
    )
