-- How many names there are below the numbers that come next: so few can be known.
use Rattle.std.proofs.Common.{◌≡◌, ◌≢◌, ℕ, zero, suc, ◌+◌, ◌*◌, ◌<◌, ◌≤◌, List, [], ◌∷◌, ◌++◌, length, map, get_or, Bool, true, false, ◌||◌, refl, sym, ◌∙◌, ap, subst, inl, inr, arith}
use Rattle.std.specs.Prelude.{◌⊎◌, ◌==◌, count_by, AllPairs, Decides}
use Rattle.std.specs.Cmp.{IsEquivalence}
use Rattle.std.specs.List.{IsDistinct}
use Rattle.std.proofs.lemmas.Bool.{true≢false}
use Rattle.std.proofs.lemmas.Bool.Decides.{eqb_tells}
use Rattle.std.proofs.lemmas.List.{length-append, length-map, get_or-map}
use Rattle.std.proofs.lemmas.List.Folds.{list_any-append}
use Rattle.std.proofs.lemmas.List.Sums.{count_by-le-length}
use Rattle.std.proofs.lemmas.Map.Made.{length-le_from_is_member, IsDistinct-from_AllPairs}
use Rattle.cat_model.specs.Files.{Name}
use Rattle.cat_ledger_laws.specs.model.Ledger.{IsPast}
use Rattle.cat_ledger_laws.specs.model.Users.{Used, is_known, has_name, same_file_name}
use Rattle.cat_ledger_laws.proofs.model.Counted.{same_name_is}
use Rattle.cat_ledger_laws.proofs.shape.Told.{same_again}
use Rattle.cat_ledger_state.specs.Cores.{KnownArePast}

-- ---- names, compared

name_decides : (a b : Name) → Decides (same_file_name a b) (a ≡ b)
name_decides a b = (λ e. same_name_is a b e, λ e. subst (λ x. same_file_name a x ≡ true) e (same_again a))

both_ways : (a b : Bool) → (a ≡ true → b ≡ true) → (b ≡ true → a ≡ true) → a ≡ b
both_ways true b f g = sym (f refl)
both_ways false true f g = g refl
both_ways false false f g = refl

name_equivalence : IsEquivalence same_file_name
name_equivalence = record {
  refl = same_again;
  symm = turned;
  congr = λ a b c e. ap (λ x. same_file_name x c) (same_name_is a b e);
}
  where
    turned : (a b : Name) → same_file_name a b ≡ same_file_name b a
    turned a b = both_ways (same_file_name a b) (same_file_name b a) (λ e. subst (λ x. same_file_name x a ≡ true) (same_name_is a b e) (same_again a))
        (λ e. subst (λ x. same_file_name x b ≡ true) (same_name_is b a e) (same_again b))

-- ---- all names below the next numbers

abbrev lives : ℕ → ℕ → List Name
lives m zero = []
lives m (suc h) = Name.live m (suc h) ∷ lives m h

abbrev segments : ℕ → ℕ → List Name
segments zero h = []
segments (suc k) h = Name.segment (suc k) ∷ Name.source (suc k) ∷ (lives (suc k) h ++ segments k h)

abbrev commits : ℕ → List Name
commits zero = []
commits (suc h) = Name.commit (suc h) ∷ commits h

abbrev all_names : ℕ → ℕ → List Name
all_names k h = segments k h ++ commits h

lives_long : (m h : ℕ) → length (lives m h) ≡ h
lives_long m zero = refl
lives_long m (suc h) = ap suc (lives_long m h)

segments_long : (k h : ℕ) → length (segments k h) ≡ k * (h + 2)
segments_long zero h = omega arith
segments_long (suc k) h =
    let whole : length (lives (suc k) h ++ segments k h) ≡ length (lives (suc k) h) + length (segments k h) = length-append (lives (suc k) h) (segments k h) in
    grind (arith, whole, lives_long (suc k) h, segments_long k h)

commits_long : (h : ℕ) → length (commits h) ≡ h
commits_long zero = refl
commits_long (suc h) = ap suc (commits_long h)

-- ---- each of them is there

or_first : (a b : Bool) → a ≡ true → (a || b) ≡ true
or_first true b e = refl
or_first false b e = absurd (true≢false (sym e))

or_second : (a b : Bool) → b ≡ true → (a || b) ≡ true
or_second true b e = refl
or_second false b e = e

-- the greatest number, or a lower one
last_or_less : (d h : ℕ) → d < suc (suc h) → (d ≡ suc h) ⊎ (d < suc h)
last_or_less d h less = elim (eqb_tells d (suc h)) [
  | inl e ↦ inl e.1
  | inr e ↦ inr (omega (arith, less, e.1))
]

in_lives : (m h d : ℕ) → 0 < d → d < suc h → has_name (Name.live m d) (lives m h) ≡ true
in_lives m zero d some less = absurd (omega (arith, some, less))
in_lives m (suc h) d some less = elim (last_or_less d h less) [
  | inl is ↦ or_first _ (has_name (Name.live m d) (lives m h)) (subst (λ k. same_file_name (Name.live m d) (Name.live m k) ≡ true) is (same_again (Name.live m d)))
  | inr lower ↦ or_second (same_file_name (Name.live m d) (Name.live m (suc h))) _ (in_lives m h d some lower)
]

in_commits : (h d : ℕ) → 0 < d → d < suc h → has_name (Name.commit d) (commits h) ≡ true
in_commits zero d some less = absurd (omega (arith, some, less))
in_commits (suc h) d some less = elim (last_or_less d h less) [
  | inl is ↦ or_first _ (has_name (Name.commit d) (commits h)) (subst (λ k. same_file_name (Name.commit d) (Name.commit k) ≡ true) is (same_again (Name.commit d)))
  | inr lower ↦ or_second (same_file_name (Name.commit d) (Name.commit (suc h))) _ (in_commits h d some lower)
]

in_both : (q : Name) (xs ys : List Name) → (has_name q xs ≡ true) ⊎ (has_name q ys ≡ true) → has_name q (xs ++ ys) ≡ true
in_both q xs ys (inl a) = list_any-append (same_file_name q) xs ys ∙ or_first (has_name q xs) (has_name q ys) a
in_both q xs ys (inr b) = list_any-append (same_file_name q) xs ys ∙ or_second (has_name q xs) (has_name q ys) b

-- the names of the files of one segment
abbrev of_one : ℕ → ℕ → List Name
of_one m h = Name.segment m ∷ Name.source m ∷ lives m h

in_segments : (k h m : ℕ) (q : Name) → 0 < m → m < suc k → has_name q (of_one m h) ≡ true → has_name q (segments k h) ≡ true
in_segments zero h m q some less there = absurd (omega (arith, some, less))
in_segments (suc k) h m q some less there = elim (last_or_less m k less) [
  | inl is ↦ in_both q (of_one (suc k) h) (segments k h) (inl (subst (λ x. has_name q (of_one x h) ≡ true) is there))
  | inr lower ↦ in_both q (of_one (suc k) h) (segments k h) (inr (in_segments k h m q some lower there))
]

in_all : (k h : ℕ) (q : Name) → IsPast (suc k) (suc h) q → has_name q (all_names k h) ≡ true
in_all k h (Name.segment m) past = in_both (Name.segment m) (segments k h) (commits h) (inl (in_segments k h m (Name.segment m) past.0 past.1
    (or_first (same_file_name (Name.segment m) (Name.segment m)) _ (same_again (Name.segment m)))))
in_all k h (Name.source m) past = in_both (Name.source m) (segments k h) (commits h) (inl (in_segments k h m (Name.source m) past.0 past.1
    (or_first (same_file_name (Name.source m) (Name.source m)) _ (same_again (Name.source m)))))
in_all k h (Name.live m d) past = in_both (Name.live m d) (segments k h) (commits h) (inl (in_segments k h m (Name.live m d) past.0.0 past.0.1 (in_lives m h d past.1.0 past.1.1)))
in_all k h (Name.commit d) past = in_both (Name.commit d) (segments k h) (commits h) (inr (in_commits h d past.0 past.1))

-- ---- so few are known

distinct_names : (us : List Used) → AllPairs (λ u v. u.name ≢ v.name) us → IsDistinct same_file_name (map (λ u. u.name) us)
distinct_names us once = IsDistinct-from_AllPairs name_decides (map (λ u. u.name) us) apart
  where
    at : (i : ℕ) (d : Name) → i < length us → get_or (map (λ (u : Used). u.name) us) i d ≡ (get_or us i (record { name = d; users = 0 })).name
    at i d within = get_or-map (λ (u : Used). u.name) us i (record { name = d; users = 0 }) d within

    apart : AllPairs (λ a b. a ≢ b) (map (λ (u : Used). u.name) us)
    apart i j d less within same =
        let long : j < length us = omega (arith, within, length-map us (λ (u : Used). u.name)) in
        once i j (record { name = d; users = 0 }) less long (sym (at i d (omega arith)) ∙ same ∙ at j d long)

known_member : (us : List Used) (q : Name) → has_name q (map (λ u. u.name) us) ≡ is_known us q
known_member [] q = refl
known_member (u ∷ us) q = ap (λ b. same_file_name q u.name || b) (known_member us q)

few_by : (k h : ℕ) (us : List Used) → AllPairs (λ u v. u.name ≢ v.name) us → KnownArePast us (suc k) (suc h) → length us + 2 ≤ suc k * (suc h + 1)
few_by k h us once past =
    let names : List Name = map (λ (u : Used). u.name) us in
    let within : length names ≤ length (all_names k h) = length-le_from_is_member name_equivalence names (all_names k h) (distinct_names us once)
    (λ q there. in_all k h q (past q (sym (known_member us q) ∙ there))) in
    let long : length names ≡ length us = length-map us (λ (u : Used). u.name) in
    let whole : length (all_names k h) ≡ length (segments k h) + length (commits h) = length-append (segments k h) (commits h) in
    grind (arith, within, long, whole, segments_long k h, commits_long h)

-- no more files can be pending than names have numbers that were given out
pub few_pending : (us : List Used) (n g : ℕ) → AllPairs (λ u v. u.name ≢ v.name) us → KnownArePast us n g → 0 < n → 0 < g
    → count_by (λ u. u.users == 0) us + 2 ≤ n * (g + 1)
few_pending us zero g once past some more = absurd (omega (arith, some))
few_pending us (suc k) zero once past some more = absurd (omega (arith, more))
few_pending us (suc k) (suc h) once past some more = omega (arith, count_by-le-length (λ (u : Used). u.users == 0) us, few_by k h us once past)
