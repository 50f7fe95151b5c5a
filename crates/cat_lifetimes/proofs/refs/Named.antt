-- Names in code and names of the model, and the entries of a map as users of names.
use Rattle.std.proofs.Common.{◌≡◌, ℕ, ◌+◌, List, [], ◌∷◌, map, Bool, true, false, cond, ◌&&◌, ◌||◌, Some, refl, sym, ◌∙◌, ap, subst, arith, eqb}
use Rattle.std.specs.Prelude.{◌==◌, is_some, unwrap_or, count_by}
use Rattle.std.specs.List.{list_any}
use Rattle.std.specs.Map.{lookup, values_of}
use Rattle.std.proofs.lemmas.List.Sums.{sum_by-append}
use Rattle.cat_model.specs.Files.{Name}
use Rattle.cat_ledger_laws.specs.model.Users.{same_file_name, times, has_name, users_of, is_known}
use Rattle.cat_directory.specs.declared.name.FileName.{FileName}
use Rattle.cat_directory.specs.declared.name.FileName.TheVariants as file
use Rattle.cat_directory.specs.Names.{name_of, same_name}
use Rattle.cat_lifetimes.specs.refs.Counts.{names_in, used_in}

-- the name in code, whose numbers may be any
abbrev pub file_of : Name → FileName
file_of (Name.segment n) = file.Segment n
file_of (Name.source n) = file.Source n
file_of (Name.live n d) = file.Live n d
file_of (Name.commit g) = file.Commit g

pub name_of_file : (q : Name) → name_of (file_of q) ≡ q
name_of_file (Name.segment n) = refl
name_of_file (Name.source n) = refl
name_of_file (Name.live n d) = refl
name_of_file (Name.commit g) = refl

-- what holds of each name in code holds of each name
pub of_files : (P : Name → Type 0) → ((k : FileName) → P (name_of k)) → (q : Name) → P q
of_files P each q = subst P (name_of_file q) (each (file_of q))

pub and_true : (a : Bool) → a ≡ (a && true)
and_true true = refl
and_true false = refl

pub same_names : (a b : FileName) → same_file_name (name_of a) (name_of b) ≡ same_name a b
same_names (file.Segment n) (file.Segment m) = and_true (eqb n m)
same_names (file.Segment n) (file.Source m) = refl
same_names (file.Segment n) (file.Live m d) = refl
same_names (file.Segment n) (file.Commit g) = refl
same_names (file.Source n) (file.Segment m) = refl
same_names (file.Source n) (file.Source m) = and_true (eqb n m)
same_names (file.Source n) (file.Live m d) = refl
same_names (file.Source n) (file.Commit g) = refl
same_names (file.Live n b) (file.Segment m) = refl
same_names (file.Live n b) (file.Source m) = refl
same_names (file.Live n b) (file.Live m d) = ap (λ t. eqb n m && t) (and_true (eqb b d))
same_names (file.Live n b) (file.Commit g) = refl
same_names (file.Commit f) (file.Segment m) = refl
same_names (file.Commit f) (file.Source m) = refl
same_names (file.Commit f) (file.Live m d) = refl
same_names (file.Commit f) (file.Commit g) = and_true (eqb f g)

-- ---- lists of names

pub count_by-cons : {X : Type 0} (p : X → Bool) (x : X) (xs : List X) → count_by p (x ∷ xs) ≡ cond (p x) 1 0 + count_by p xs
count_by-cons p x xs = sum_by-append (λ y. cond (p y) 1 0) (x ∷ []) xs ∙ ap (λ n. n + count_by p xs) (let z : (b : Bool) → 0 + cond b 1 0 ≡ cond b 1 0 = λ b. omega arith in z (p x))

pub times_in : (k : FileName) (names : List FileName) → times (name_of k) (names_in names) ≡ count_by (same_name k) names
times_in k [] = refl
times_in k (x ∷ xs) =
    count_by-cons (same_file_name (name_of k)) (name_of x) (names_in xs)
    ∙ (rw (same_names k x) (rw (times_in k xs) (sym (count_by-cons (same_name k) x xs))))

pub has_in : (k : FileName) (names : List FileName) → has_name (name_of k) (names_in names) ≡ list_any (same_name k) names
has_in k [] = refl
has_in k (x ∷ xs) = rw (same_names k x) (ap (λ t. same_name k x || t) (has_in k xs))

-- ---- entries

pub users_in : (k : FileName) (es : List (FileName × ℕ)) → users_of (map used_in es) (name_of k) ≡ unwrap_or (lookup (same_name k) es) 0
users_in k [] = refl
users_in k (e ∷ es) = rw (same_names k e.0) (by (same_name k e.0) (users_in k es))
  where
    by : (b : Bool) → users_of (map used_in es) (name_of k) ≡ unwrap_or (lookup (same_name k) es) 0 → cond b e.1 (users_of (map used_in es) (name_of k)) ≡ unwrap_or (cond b (Some e.1) (lookup (same_name k) es)) 0
    by true i = refl
    by false i = i

pub known_in : (k : FileName) (es : List (FileName × ℕ)) → is_known (map used_in es) (name_of k) ≡ is_some (lookup (same_name k) es)
known_in k [] = refl
known_in k (e ∷ es) = rw (same_names k e.0) (by (same_name k e.0) (known_in k es))
  where
    by : (b : Bool) → is_known (map used_in es) (name_of k) ≡ is_some (lookup (same_name k) es) → (b || is_known (map used_in es) (name_of k)) ≡ is_some (cond b (Some e.1) (lookup (same_name k) es))
    by true i = refl
    by false i = i

pub unused_in : (es : List (FileName × ℕ)) → count_by (λ n. n == 0) (values_of es) ≡ count_by (λ u. u.users == 0) (map used_in es)
unused_in [] = refl
unused_in (e ∷ es) =
    count_by-cons (λ n. n == 0) e.1 (values_of es)
    ∙ ap (λ n. cond (e.1 == 0) 1 0 + n) (unused_in es)
    ∙ sym (count_by-cons (λ u. u.users == 0) (used_in e) (map used_in es))
