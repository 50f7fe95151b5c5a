-- What is found, used and noted in plain lists of sets and of queries.
use Rattle.std.proofs.Common.{◌≡◌, ℕ, ◌-◌, ◌<◌, zero, suc, List, [], ◌∷◌, ◌++◌, length, map, drop, get_or, Bool, true, false, true≢false, cond, ◌||◌, refl, sym, ◌∙◌, ap, subst, arith, inl, inr, Contains, Decides}
use Rattle.std.specs.Prelude.{◌⊎◌, Option, None, Some, is_some}
use Rattle.std.specs.List.{find, flat_map, list_any}
use Rattle.std.specs.Map.{lookup, lookup_entry, remove_entry}
use Rattle.std.specs.Option.{option_map_or}
use Rattle.std.proofs.lemmas.List.{length_push, map-append}
use Rattle.std.proofs.lemmas.List.Elements.{Contains-append_cases, Contains-append_left, Contains-append_right}
use Rattle.cat_model.specs.Limits.{noted_limit}
use Rattle.cat_model.specs.Query.{Query}
use Rattle.cat_model.specs.Standings.{NotesQuery, UsesSetsOf}

-- ---- elements

module _ {X : Type 0} where
  pub head_there : (x : X) (xs : List X) → Contains (x ∷ xs) x
  head_there x xs = (0, omega arith, refl)

  pub tail_there : (y : X) (xs : List X) (x : X) → Contains xs x → Contains (y ∷ xs) x
  tail_there y xs x c = let within = c.1 in (suc c.0, omega arith, c.2)

  cons_cases : (y : X) (xs : List X) (x : X) (k : ℕ) → k < length (y ∷ xs) → get_or (y ∷ xs) k x ≡ x → (y ≡ x) ⊎ Contains xs x
  cons_cases y xs x zero within e = inl e
  cons_cases y xs x (suc k) within e = inr (k, omega arith, e)

  pub cons_there : (y : X) (xs : List X) (x : X) → Contains (y ∷ xs) x → (y ≡ x) ⊎ Contains xs x
  cons_there y xs x c = cons_cases y xs x c.0 c.1 c.2

  pub none_there : (x : X) → Contains [] x → ⊥
  none_there x c = let within = c.1 in omega arith

  -- an element that comes first is one that stood elsewhere, or another
  pub moved_there : (xs : List X) (y : X) (ys : List X) (x : X) → Contains (y ∷ (xs ++ ys)) x → Contains (xs ++ y ∷ ys) x
  moved_there xs y ys x c = elim (cons_there y (xs ++ ys) x c) [
    | inl e ↦ subst (Contains (xs ++ y ∷ ys)) e (Contains-append_right xs (y ∷ ys) y (head_there y ys))
    | inr d ↦ elim (Contains-append_cases xs ys x d) [
      | inl l ↦ Contains-append_left xs (y ∷ ys) x l
      | inr r ↦ Contains-append_right xs (y ∷ ys) x (tail_there y ys x r)
    ]
  ]

  -- ---- tests

  module _ (test : X → Bool) where
    pub any_there : (xs : List X) (x : X) → Contains xs x → test x ≡ true → list_any test xs ≡ true
    any_there [] x c is = absurd (none_there x c)
    any_there (y ∷ xs) x c is = by (test y) refl (λ d. any_there xs x d is) (cons_there y xs x c)
      where
        by : (b : Bool) → test y ≡ b → (Contains xs x → list_any test xs ≡ true) → (y ≡ x) ⊎ Contains xs x → (b || list_any test xs) ≡ true
        by true here rest c = refl
        by false here rest (inl e) = absurd (true≢false (sym (ap test e ∙ is) ∙ here))
        by false here rest (inr d) = rest d

    pub there_any : (xs : List X) → list_any test xs ≡ true → (x : X) × Contains xs x × (test x ≡ true)
    there_any [] some = absurd (true≢false (sym some))
    there_any (y ∷ xs) some = by (test y) refl (there_any xs) some
      where
        by : (b : Bool) → test y ≡ b → (list_any test xs ≡ true → (x : X) × Contains xs x × (test x ≡ true)) → (b || list_any test xs) ≡ true
            → (x : X) × Contains (y ∷ xs) x × (test x ≡ true)
        by true here rest some = (y, head_there y xs, here)
        by false here rest some = let on = rest some in (on.0, tail_there y xs on.0 on.1, on.2)

    pub found_there : (xs : List X) (x : X) → find test xs ≡ Some x → Contains xs x × (test x ≡ true)
    found_there [] x found = absurd (cc found)
    found_there (y ∷ xs) x found = by (test y) refl (found_there xs x) found
      where
        by : (b : Bool) → test y ≡ b → (find test xs ≡ Some x → Contains xs x × (test x ≡ true)) → cond b (Some y) (find test xs) ≡ Some x
            → Contains (y ∷ xs) x × (test x ≡ true)
        by true here rest found =
            let same : y ≡ x = cc in (subst (Contains (y ∷ xs)) same (head_there y xs), subst (λ z. test z ≡ true) same here)
        by false here rest found = let on = rest found in (tail_there y xs x on.0, on.1)

    pub none_found : (xs : List X) (x : X) → find test xs ≡ None → Contains xs x → test x ≡ false
    none_found [] x none c = absurd (none_there x c)
    none_found (y ∷ xs) x none c = by (test y) refl (none_found xs x) none (cons_there y xs x c)
      where
        by : (b : Bool) → test y ≡ b → (find test xs ≡ None → Contains xs x → test x ≡ false) → cond b (Some y) (find test xs) ≡ None
            → (y ≡ x) ⊎ Contains xs x → test x ≡ false
        by true here rest none c = absurd (let no : Some y ≡ None = none in cc)
        by false here rest none (inl e) = sym (ap test e) ∙ here
        by false here rest none (inr d) = rest none d

module _ {X Y : Type 0} (f : X → Y) where
  pub map_there : (xs : List X) (x : X) → Contains xs x → Contains (map f xs) (f x)
  map_there [] x c = absurd (none_there x c)
  map_there (y ∷ xs) x c = elim (cons_there y xs x c) [
    | inl e ↦ subst (λ z. Contains (f y ∷ map f xs) (f z)) e (head_there (f y) (map f xs))
    | inr d ↦ tail_there (f y) (map f xs) (f x) (map_there xs x d)
  ]

  pub map_from : (xs : List X) (z : Y) → Contains (map f xs) z → (x : X) × Contains xs x × (f x ≡ z)
  map_from [] z c = absurd (none_there z c)
  map_from (y ∷ xs) z c = elim (cons_there (f y) (map f xs) z c) [
    | inl e ↦ (y, head_there y xs, e)
    | inr d ↦ let on = map_from xs z d in (on.0, tail_there y xs on.0 on.1, on.2)
  ]

-- each of the one with each of the other
module _ {Q S : Type 0} (ss : List S) where
  abbrev pub paired : List Q → List (Q × S)
  paired qs = flat_map (λ q. map (λ s. (q, s)) ss) qs

  pub pair_there : (qs : List Q) (q : Q) (s : S) → Contains qs q → Contains ss s → Contains (paired qs) (q, s)
  pair_there [] q s a b = absurd (none_there q a)
  pair_there (p ∷ qs) q s a b = elim (cons_there p qs q a) [
    | inl e ↦
        Contains-append_left (map (λ s. (p, s)) ss) (paired qs) (q, s)
        (subst (λ (r : Q). Contains {X = Q × S} (map (λ s. (p, s)) ss) (r, s)) e (map_there (λ (s : S). (p, s)) ss s b))
    | inr d ↦ Contains-append_right (map (λ s. (p, s)) ss) (paired qs) (q, s) (pair_there qs q s d b)
  ]

  pub pair_from : (qs : List Q) (p : Q × S) → Contains (paired qs) p → Contains qs p.0 × Contains ss p.1
  pair_from [] p c = absurd (none_there p c)
  pair_from (q ∷ qs) p c = elim (Contains-append_cases (map (λ s. (q, s)) ss) (paired qs) p c) [
    | inl l ↦
        let on = map_from (λ (s : S). (q, s)) ss p l in
        (subst (λ (r : Q × S). Contains (q ∷ qs) r.0) on.2 (head_there q qs), subst (λ (r : Q × S). Contains ss r.1) on.2 on.1)
    | inr r ↦ let on = pair_from qs p r in (tail_there q qs p.0 on.0, on.1)
  ]

-- ---- entries under keys

module _ {K X : Type 0} (test : K → Bool) where
  -- the first entry that passes stands between these
  abbrev SplitsAt : List (K × X) → Type 0
  SplitsAt es =
      (e : K × X) × (front : List (K × X)) × (back : List (K × X)) × (test e.0 ≡ true) × (es ≡ front ++ e ∷ back) × (lookup_entry test es ≡ Some e)
      × (remove_entry test es ≡ front ++ back)

  -- no entry passes, or the first that does stands between others
  splits : (es : List (K × X)) → (lookup_entry test es ≡ None) ⊎ SplitsAt es
  splits [] = inl refl
  splits (e ∷ es) = by (test e.0) refl (splits es)
    where
      by : (b : Bool) → test e.0 ≡ b → (lookup_entry test es ≡ None) ⊎ SplitsAt es → (lookup_entry test (e ∷ es) ≡ None) ⊎ SplitsAt (e ∷ es)
      by true is rest =
          inr (e, [], es, is, refl, ap (λ b. cond b (Some e) (lookup_entry test es)) is, ap (λ b. cond b es (e ∷ remove_entry test es)) is)
      by false is (inl none) = inl (ap (λ b. cond b (Some e) (lookup_entry test es)) is ∙ none)
      by false is (inr s) = inr (
        s.0,
        e ∷ s.1,
        s.2,
        s.3,
        ap (λ l. e ∷ l) s.4,
        ap (λ b. cond b (Some e) (lookup_entry test es)) is ∙ s.5,
        ap (λ b. cond b es (e ∷ remove_entry test es)) is ∙ ap (λ l. e ∷ l) s.6,
      )

-- The test passes the keys of one pair.
module _ {K X : Type 0} (pair : K → Query × ℕ) (q : Query) (n : ℕ) (test : K → Bool) (decides : (k : K) → Decides (test k) (pair k ≡ (q, n))) where
  abbrev pairs_in : List (K × X) → List (Query × ℕ)
  pairs_in es = map (λ e. pair e.0) es

  pub present : (es : List (K × X)) → is_some (lookup test es) ≡ true → Contains (pairs_in es) (q, n)
  present [] some = absurd (true≢false (sym some))
  present (e ∷ es) some = by (test e.0) refl (present es) some
    where
      by : (b : Bool) → test e.0 ≡ b → (is_some (lookup test es) ≡ true → Contains (pairs_in es) (q, n)) → is_some (cond b (Some e.1) (lookup test es)) ≡ true
          → Contains (pairs_in (e ∷ es)) (q, n)
      by true is rest some = subst (Contains (pairs_in (e ∷ es))) ((decides e.0).0 is) (head_there (pair e.0) (pairs_in es))
      by false is rest some = tail_there (pair e.0) (pairs_in es) (q, n) (rest some)

  pub missing : (es : List (K × X)) → is_some (lookup test es) ≡ false → Contains (pairs_in es) (q, n) → ⊥
  missing [] none c = none_there (q, n) c
  missing (e ∷ es) none c = by (test e.0) refl (missing es) none (cons_there (pair e.0) (pairs_in es) (q, n) c)
    where
      by : (b : Bool) → test e.0 ≡ b → (is_some (lookup test es) ≡ false → Contains (pairs_in es) (q, n) → ⊥) → is_some (cond b (Some e.1) (lookup test es)) ≡ false
          → (pair e.0 ≡ (q, n)) ⊎ Contains (pairs_in es) (q, n) → ⊥
      by true is rest none c = true≢false none
      by false is rest none (inl e') = true≢false (sym ((decides e.0).1 e') ∙ is)
      by false is rest none (inr d) = rest none d

  -- none is taken out where none is there
  pub none_removed : (es : List (K × X)) → (Contains (pairs_in es) (q, n) → ⊥) → remove_entry test es ≡ es
  none_removed [] none = refl
  none_removed (e ∷ es) none = by (test e.0) refl (none_removed es (λ c. none (tail_there (pair e.0) (pairs_in es) (q, n) c)))
    where
      by : (b : Bool) → test e.0 ≡ b → remove_entry test es ≡ es → cond b es (e ∷ remove_entry test es) ≡ e ∷ es
      by true is rest = absurd (none (subst (Contains (pairs_in (e ∷ es))) ((decides e.0).0 is) (head_there (pair e.0) (pairs_in es))))
      by false is rest = ap (λ l. e ∷ l) rest

  -- the entry comes first, if it is there: it is used
  abbrev first_put : List (K × X) → Option (K × X) → List (K × X)
  first_put es o = option_map_or (λ e. e ∷ remove_entry test es) o es

  pub uses_one : (es : List (K × X)) (new : List (Query × ℕ)) → UsesSetsOf q (pairs_in (first_put es (lookup_entry test es))) new → UsesSetsOf q (pairs_in es) new
  uses_one es new uses = elim (splits test es) [
    | inl none ↦ subst (λ (o : Option (K × X)). UsesSetsOf q (pairs_in (first_put es o)) new) none uses
    | inr s ↦
        let found : UsesSetsOf q (pairs_in (s.0 ∷ remove_entry test es)) new =
        subst (λ (o : Option (K × X)). UsesSetsOf q (pairs_in (first_put es o)) new) s.5 uses in
        let parted : UsesSetsOf q (pair s.0.0 ∷ pairs_in (s.1 ++ s.2)) new = subst (λ (l : List (K × X)). UsesSetsOf q (pairs_in (s.0 ∷ l)) new) s.6 found in
        let apart : UsesSetsOf q (pair s.0.0 ∷ (pairs_in s.1 ++ pairs_in s.2)) new =
        subst (λ l. UsesSetsOf q (pair s.0.0 ∷ l) new) (map-append (λ (e : K × X). pair e.0) s.1 s.2) parted in
        let named : UsesSetsOf q ((q, n) ∷ (pairs_in s.1 ++ pairs_in s.2)) new =
        subst (λ p. UsesSetsOf q (p ∷ (pairs_in s.1 ++ pairs_in s.2)) new) ((decides s.0.0).0 s.3) apart in
        let there : UsesSetsOf q (pairs_in s.1 ++ (q, n) ∷ pairs_in s.2) new = UsesSetsOf.one n (pairs_in s.1) (pairs_in s.2) new named in
        let is : pairs_in es ≡ pairs_in s.1 ++ (q, n) ∷ pairs_in s.2 =
        ap pairs_in s.4 ∙ map-append (λ (e : K × X). pair e.0) s.1 (s.0 ∷ s.2) ∙ ap (λ p. pairs_in s.1 ++ p ∷ pairs_in s.2) ((decides s.0.0).0 s.3) in
        subst (λ l. UsesSetsOf q l new) (sym is) there
  ]

-- use leaves no set that wasn't there
pub uses_keep : (q : Query) (old new : List (Query × ℕ)) (p : Query × ℕ) → UsesSetsOf q old new → Contains new p → Contains old p
uses_keep q _ _ p (UsesSetsOf.none sets) c = c
uses_keep q _ _ p (UsesSetsOf.one n front back new uses) c =
    moved_there front (q, n) back p (uses_keep q ((q, n) ∷ (front ++ back)) new p uses c)

-- ---- noted queries

-- the query keeps its place, or comes last
pub notes : (same : Query → Query → Bool) → ((a b : Query) → Decides (same a b) (a ≡ b)) → (q : Query) (noted : List Query)
    → NotesQuery q noted (cond (list_any (λ p. same p q) noted) noted (drop (length (noted ++ q ∷ []) - noted_limit) (noted ++ q ∷ [])))
notes same decides q noted = by (list_any (λ p. same p q) noted) refl
  where
    by : (b : Bool) → list_any (λ p. same p q) noted ≡ b → NotesQuery q noted (cond b noted (drop (length (noted ++ q ∷ []) - noted_limit) (noted ++ q ∷ [])))
    by true is = let on = there_any (λ p. same p q) noted is in inl (subst (Contains noted) ((decides on.0 q).0 on.2) on.1, refl)
    by false is = inr (
      λ c. true≢false (sym (any_there (λ p. same p q) noted q c ((decides q q).1 refl)) ∙ is),
      ap (λ k. drop (k - noted_limit) (noted ++ q ∷ [])) (length_push noted q),
    )
