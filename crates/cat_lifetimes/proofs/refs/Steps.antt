-- One name more taken, or given.
use Rattle.std.proofs.Common.{◌≡◌, ℕ, ◌+◌, ◌<◌, ◌≤◌, ◌^◌, length, take, get_or, List, [], ◌∷◌, ◌++◌, map, Bool, true, false, cond, ◌||◌, Some, refl, sym, ◌∙◌, ap, arith}
use Rattle.std.specs.Prelude.{is_some, unwrap_or, count_by}
use Rattle.std.specs.List.{list_any}
use Rattle.std.specs.Map.{lookup}
use Rattle.std.proofs.lemmas.List.Sums.{sum_by-append, sum_by-take-le, count_by_more_yes}
use Rattle.std.proofs.lemmas.List.Folds.{list_any-append}
use Rattle.cat_model.specs.Files.{Name}
use Rattle.cat_ledger_laws.specs.model.Users.{Used, times, has_name, users_of, is_known, Changes}
use Rattle.cat_directory.specs.declared.name.FileName.{FileName}
use Rattle.cat_directory.specs.Names.{name_of, same_name}
use Rattle.cat_directory.specs.NameOrder.{same_name_is, same_name_equivalence}
use Rattle.cat_lifetimes.specs.refs.Counts.{PutsUsers, names_in, used_in, users_under}
use Rattle.cat_lifetimes.proofs.refs.Named.{of_files, times_in, has_in, users_in, known_in}

one_more : (q k : FileName) (names : List FileName) → count_by (same_name q) (names ++ k ∷ []) ≡ count_by (same_name q) names + cond (same_name k q) 1 0
one_more q k names =
    sum_by-append (λ x. cond (same_name q x) 1 0) names (k ∷ [])
    ∙ ap (λ n. count_by (same_name q) names + n) ((let z : (b : Bool) → 0 + cond b 1 0 ≡ cond b 1 0 = λ b. omega arith in z (same_name q k)) ∙ ap (λ b. cond b 1 0) (same_name_equivalence.symm q k))

or_false : (b : Bool) → (b || false) ≡ b
or_false true = refl
or_false false = refl

one_more_there : (q k : FileName) (names : List FileName) → list_any (same_name q) (names ++ k ∷ []) ≡ (list_any (same_name q) names || same_name k q)
one_more_there q k names =
    list_any-append (same_name q) names (k ∷ []) ∙ ap (λ b. list_any (same_name q) names || b) (or_false (same_name q k) ∙ same_name_equivalence.symm q k)

users_more : (es fs : List (FileName × ℕ)) (k : FileName) → PutsUsers es fs k (users_under es k + 1) → (q : FileName) → users_under fs q ≡ users_under es q + cond (same_name k q) 1 0
users_more es fs k puts q = rw (puts q) (by (same_name k q) refl)
  where
    by : (b : Bool) → same_name k q ≡ b → unwrap_or (cond b (Some (users_under es k + 1)) (lookup (same_name q) es)) 0 ≡ users_under es q + cond b 1 0
    by true e = ap (λ n. users_under es n + 1) (same_name_is k q e)
    by false e = omega arith

users_less : (es fs : List (FileName × ℕ)) (k : FileName) (v : ℕ) → v + 1 ≡ users_under es k → PutsUsers es fs k v → (q : FileName) → users_under fs q + cond (same_name k q) 1 0 ≡ users_under es q
users_less es fs k v less puts q = rw (puts q) (by (same_name k q) refl)
  where
    by : (b : Bool) → same_name k q ≡ b → unwrap_or (cond b (Some v) (lookup (same_name q) es)) 0 + cond b 1 0 ≡ users_under es q
    by true e = less ∙ ap (users_under es) (same_name_is k q e)
    by false e = omega arith

known_more : (es fs : List (FileName × ℕ)) (k : FileName) (v : ℕ) → PutsUsers es fs k v → (q : FileName) → is_some (lookup (same_name q) fs) ≡ (is_some (lookup (same_name q) es) || same_name k q)
known_more es fs k v puts q = rw (puts q) (by (same_name k q) (is_some (lookup (same_name q) es)) refl)
  where
    by : (b c : Bool) → is_some (lookup (same_name q) es) ≡ c → is_some (cond b (Some v) (lookup (same_name q) es)) ≡ (c || b)
    by true true e = refl
    by true false e = refl
    by false true e = e
    by false false e = e

or_both : (a b c : Bool) → ((a || b) || c) ≡ (a || (b || c))
or_both true b c = refl
or_both false b c = refl

pub one_taken : (old : List Used) (taken : List FileName) (es fs : List (FileName × ℕ)) (k : FileName) → PutsUsers es fs k (users_under es k + 1)
    → Changes (names_in taken) [] old (map used_in es) → Changes (names_in (taken ++ k ∷ [])) [] old (map used_in fs)
one_taken old taken es fs k puts c = record {
  users = of_files (λ n. users_of (map used_in fs) n + times n [] ≡ users_of old n + times n (names_in (taken ++ k ∷ [])))
      (λ q. omega (arith, users_in q fs, users_in q es, times_in q taken, times_in q (taken ++ k ∷ []), one_more q k taken, users_more es fs k puts q, c.users (name_of q)));
  known = of_files (λ n. is_known (map used_in fs) n ≡ (is_known old n || has_name n (names_in (taken ++ k ∷ []))))
      (λ q. known_in q fs ∙ known_more es fs k (users_under es k + 1) puts q ∙ ap (λ b. b || same_name k q) (sym (known_in q es) ∙ c.known (name_of q) ∙ ap (λ b. is_known old (name_of q) || b) (has_in q taken))
      ∙ or_both (is_known old (name_of q)) (list_any (same_name q) taken) (same_name k q)
      ∙ ap (λ b. is_known old (name_of q) || b) (sym (one_more_there q k taken) ∙ sym (has_in q (taken ++ k ∷ []))));
}

known_same : (es fs : List (FileName × ℕ)) (k : FileName) (v w : ℕ) → lookup (same_name k) es ≡ Some w → PutsUsers es fs k v → (q : FileName) → is_some (lookup (same_name q) fs) ≡ is_some (lookup (same_name q) es)
known_same es fs k v w there puts q = rw (puts q) (by (same_name k q) refl)
  where
    by : (b : Bool) → same_name k q ≡ b → is_some (cond b (Some v) (lookup (same_name q) es)) ≡ is_some (lookup (same_name q) es)
    by true e = sym (ap is_some (ap (λ n. lookup (same_name n) es) (sym (same_name_is k q e)) ∙ there))
    by false e = refl

pub one_given : (old : List Used) (given : List FileName) (es fs : List (FileName × ℕ)) (k : FileName) (v : ℕ) → lookup (same_name k) es ≡ Some (v + 1) → PutsUsers es fs k v
    → Changes [] (names_in given) old (map used_in es) → Changes [] (names_in (given ++ k ∷ [])) old (map used_in fs)
one_given old given es fs k v there puts c = record {
  users = of_files (λ n. users_of (map used_in fs) n + times n (names_in (given ++ k ∷ [])) ≡ users_of old n + times n [])
      (λ q. let less : v + 1 ≡ users_under es k = sym (ap (λ o. unwrap_or o 0) there) in
      omega (arith, users_in q fs, users_in q es, times_in q given, times_in q (given ++ k ∷ []), one_more q k given, users_less es fs k v less puts q, c.users (name_of q)));
  known = of_files (λ n. is_known (map used_in fs) n ≡ (is_known old n || has_name n []))
      (λ q. known_in q fs ∙ known_same es fs k v (v + 1) there puts q ∙ sym (known_in q es) ∙ c.known (name_of q));
}

-- the same entries in another order
pub reordered : (es fs : List (FileName × ℕ)) → ((q : FileName) → lookup (same_name q) fs ≡ lookup (same_name q) es) → Changes [] [] (map used_in es) (map used_in fs)
reordered es fs same = record {
  users = of_files (λ n. users_of (map used_in fs) n + times n [] ≡ users_of (map used_in es) n + times n [])
      (λ q. ap (λ n. n + 0) (users_in q fs ∙ ap (λ o. unwrap_or o 0) (same q) ∙ sym (users_in q es)));
  known = of_files (λ n. is_known (map used_in fs) n ≡ (is_known (map used_in es) n || has_name n []))
      (λ q. known_in q fs ∙ ap is_some (same q) ∙ sym (known_in q es) ∙ sym (or_false (is_known (map used_in es) (name_of q))));
}

-- the first i names have the next one less often than all of them
pub one_is_left : (names : List FileName) (i : ℕ) (d : FileName) → i < length names
    → times (name_of (get_or names i d)) (names_in (take i names)) + 1 ≤ times (name_of (get_or names i d)) (names_in names)
one_is_left names i d within =
    let k : FileName = get_or names i d in
    let more : count_by (same_name k) (take (i + 1) names) ≡ count_by (same_name k) (take i names) + 1 = count_by_more_yes (same_name k) names i d within (same_name_equivalence.refl k) in
    let all : count_by (same_name k) (take (i + 1) names) ≤ count_by (same_name k) names = sum_by-take-le (λ x. cond (same_name k x) 1 0) names (i + 1) in
    omega (arith, times_in k (take i names), times_in k names, more, all)

-- so there is room for one user more, where there is for all
pub fits_one : (old : List Used) (es : List (FileName × ℕ)) (names : List FileName) (i : ℕ) (d : FileName) → i < length names
    → ((q : Name) → users_of old q + times q (names_in names) < 2 ^ 64) → Changes (names_in (take i names)) [] old (map used_in es) → users_under es (get_or names i d) + 1 < 2 ^ 64
fits_one old es names i d within room c =
    let q : Name = name_of (get_or names i d) in omega (arith, one_is_left names i d within, room q, c.users q, users_in (get_or names i d) es)

-- and one user to give, where all can be given
pub has_one : (old : List Used) (es : List (FileName × ℕ)) (names : List FileName) (i : ℕ) (d : FileName) → i < length names
    → ((q : Name) → times q (names_in names) ≤ users_of old q) → Changes [] (names_in (take i names)) old (map used_in es) → 1 ≤ users_under es (get_or names i d)
has_one old es names i d within enough c =
    let q : Name = name_of (get_or names i d) in omega (arith, one_is_left names i d within, enough q, c.users q, users_in (get_or names i d) es)
