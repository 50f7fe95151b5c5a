-- The commits of a directory's names, by their generations.
use Rattle.std.proofs.Common.{◌≡◌, ℕ, zero, suc, ◌+◌, ◌-◌, ◌<◌, ◌≤◌, Bool, true, false, eqb, ltb, cond, List, [], ◌∷◌, ◌++◌, get_or, length, take, Option, Some, None, ◌⊎◌, inl, inr, refl, sym, ◌∙◌, ap, subst, arith}
use Rattle.std.specs.Prelude.{Contains, MatchOption, reverse}
use Rattle.std.specs.List.{AllByRecursion, AllPairs, IsDistinct, cons_option, filter_map}
use Rattle.std.specs.List.Sorted.{IsNonDecreasingBy, IsPermutation, IsSorted, IsStrictlySortedBy}
use Rattle.std.specs.Option.{unwrap_or}
use Rattle.std.specs.Ordering.{nat_cmp}
use Rattle.std.specs.declared.cmp.Ordering.TheVariants.{Less, Equal}
use Rattle.std.proofs.lemmas.Bool.{cases_lt, ltb-true, lt-ltb}
use Rattle.std.proofs.lemmas.Bool.Decides.{eqb_tells}
use Rattle.std.proofs.lemmas.Cmp.{tied_itself}
use Rattle.std.proofs.lemmas.List.{append-nil, get_or-reverse, length-reverse, take_more}
use Rattle.std.proofs.lemmas.List.Elements.{Contains-append_cases, Contains-append_right, filter_map-append}
use Rattle.std.proofs.lemmas.List.Sorted.{Contains-permutation, IsNonDecreasingBy-from_sort, IsPermutation-reverse, IsPermutation-sym, IsPermutation-trans}
use Rattle.std.proofs.lemmas.Map.Keys.{IsDistinct-cons, IsDistinct-IsPermutation, apart_from_distinct, sorted_head, sorted_tail}
use Rattle.cat_directory.specs.declared.name.FileName.{FileName}
use Rattle.cat_directory.specs.declared.name.FileName.TheVariants as file
use Rattle.cat_directory.specs.Names.{name_cmp}
use Rattle.cat_directory.specs.NameOrder.{name_cmp_total}
use Rattle.cat_commits.specs.reading.Numbers.{IsNewest}
use Rattle.cat_commits.proofs.Taken.{eqb_flips}
use Rattle.cat_check.specs.Below.{AreBelow, AreOlder}

-- the generation of a commit's name, if it is below the bound
abbrev pub generation_below : ℕ → FileName → Option ℕ
generation_below bound (file.Segment n) = None
generation_below bound (file.Source n) = None
generation_below bound (file.Live n d) = None
generation_below bound (file.Commit g) = cond (ltb g bound) (Some g) None

abbrev pub generations_below : ℕ → List FileName → List ℕ
generations_below bound names = filter_map (generation_below bound) names

-- ---- a list that begins with an element

contains_first : {X : Type 0} (x : X) (xs : List X) → Contains (x ∷ xs) x
contains_first x xs = (0, omega arith, refl)

contains_behind : {X : Type 0} (x : X) (xs : List X) (y : X) → Contains xs y → Contains (x ∷ xs) y
contains_behind x xs y h = Contains-append_right (x ∷ []) xs y h

contained_alone : {X : Type 0} (x y : X) → Contains (x ∷ []) y → x ≡ y
contained_alone x y h = at h.0 h.1 h.2
  where
    at : (k : ℕ) → k < length (x ∷ []) → get_or (x ∷ []) k y ≡ y → x ≡ y
    at zero within is = is
    at (suc k) within is = absurd (omega arith)

contains_none : {X : Type 0} (y : X) → Contains [] y → ⊥
contains_none y h = let none : h.0 < 0 = h.1 in omega arith

-- ---- which generations are below the bound

other_first : (x : FileName) (names : List FileName) (h : ℕ) → (x ≡ file.Commit h → ⊥) → Contains (x ∷ names) (file.Commit h) → Contains names (file.Commit h)
other_first x names h other there = elim (Contains-append_cases (x ∷ []) names (file.Commit h) there) [
  | inl first ↦ absurd (other (contained_alone x (file.Commit h) first))
  | inr behind ↦ behind
]

kept_behind : (b : Bool) (g : ℕ) (rest : List ℕ) (h : ℕ) → Contains rest h → Contains (cons_option (cond b (Some g) None) rest) h
kept_behind true g rest h there = contains_behind g rest h there
kept_behind false g rest h there = there

kept_first : (b : Bool) (g : ℕ) (rest : List ℕ) (h : ℕ) → b ≡ true → g ≡ h → Contains (cons_option (cond b (Some g) None) rest) h
kept_first true g rest h is same = subst (λ (n : ℕ). Contains (g ∷ rest) n) same (contains_first g rest)
kept_first false g rest h is same = absurd (let no : false ≡ true = is in cc)

first_or_behind : (b : Bool) (g : ℕ) (rest : List ℕ) (h : ℕ) → Contains (cons_option (cond b (Some g) None) rest) h → ((b ≡ true) × (g ≡ h)) ⊎ Contains rest h
first_or_behind true g rest h there = elim (Contains-append_cases (g ∷ []) rest h there) [
  | inl first ↦ inl (refl, contained_alone g h first)
  | inr behind ↦ inr behind
]
first_or_behind false g rest h there = inr there

same_generation : (g h : ℕ) → file.Commit g ≡ file.Commit h → g ≡ h
same_generation g h is = cc

listed_below : (bound : ℕ) (names : List FileName) (h : ℕ) → Contains names (file.Commit h) → h < bound → Contains (generations_below bound names) h
listed_below bound [] h there below = absurd (contains_none (file.Commit h) there)
listed_below bound (file.Segment n ∷ names) h there below = listed_below bound names h (other_first (file.Segment n) names h (λ is. (cc)) there) below
listed_below bound (file.Source n ∷ names) h there below = listed_below bound names h (other_first (file.Source n) names h (λ is. (cc)) there) below
listed_below bound (file.Live n d ∷ names) h there below = listed_below bound names h (other_first (file.Live n d) names h (λ is. (cc)) there) below
listed_below bound (file.Commit g ∷ names) h there below = elim (Contains-append_cases (file.Commit g ∷ []) names (file.Commit h) there) [
  | inl first ↦
      let same : g ≡ h = same_generation g h (contained_alone (file.Commit g) (file.Commit h) first) in
      kept_first (ltb g bound) g (generations_below bound names) h (lt-ltb g bound (omega arith)) same
  | inr behind ↦ kept_behind (ltb g bound) g (generations_below bound names) h (listed_below bound names h behind below)
]

from_below : (bound : ℕ) (names : List FileName) (h : ℕ) → Contains (generations_below bound names) h → Contains names (file.Commit h) × (h < bound)
from_below bound [] h there = absurd (contains_none h there)
from_below bound (file.Segment n ∷ names) h there = let was = from_below bound names h there in (contains_behind (file.Segment n) names (file.Commit h) was.0, was.1)
from_below bound (file.Source n ∷ names) h there = let was = from_below bound names h there in (contains_behind (file.Source n) names (file.Commit h) was.0, was.1)
from_below bound (file.Live n d ∷ names) h there = let was = from_below bound names h there in (contains_behind (file.Live n d) names (file.Commit h) was.0, was.1)
from_below bound (file.Commit g ∷ names) h there = elim (first_or_behind (ltb g bound) g (generations_below bound names) h there) [
  | inl first ↦ (
    subst (λ (n : ℕ). Contains (file.Commit g ∷ names) (file.Commit n)) first.1 (contains_first (file.Commit g) names),
    subst (λ (n : ℕ). n < bound) first.1 (ltb-true g bound first.0),
  )
  | inr behind ↦ let was = from_below bound names h behind in (contains_behind (file.Commit g) names (file.Commit h) was.0, was.1)
]

-- ---- each once

differs : (x y : FileName) → name_cmp x y ≡ Less → x ≡ y → ⊥
differs x y less same =
    let self : name_cmp x x ≡ Less = subst (λ (z : FileName). name_cmp x z ≡ Less) (sym same) less in
    let no : Equal ≡ Less = sym (tied_itself name_cmp_total x) ∙ self in
    cc

not_itself : (g h : ℕ) → name_cmp (file.Commit g) (file.Commit h) ≡ Less → eqb g h ≡ false
not_itself g h less = elim (eqb_tells g h) [
  | inl same ↦ absurd (differs (file.Commit g) (file.Commit h) less (ap file.Commit same.1))
  | inr other ↦ other.0
]

abbrev IsAbsent : ℕ → List ℕ → Type 0
IsAbsent g rest = AllByRecursion (λ h. eqb g h ≡ false) rest

absent_more : (b : Bool) (g h : ℕ) (rest : List ℕ) → eqb g h ≡ false → IsAbsent g rest → IsAbsent g (cons_option (cond b (Some h) None) rest)
absent_more true g h rest other absent = (other, absent)
absent_more false g h rest other absent = absent

none_again : (bound g : ℕ) (names : List FileName) → AllByRecursion (λ y. name_cmp (file.Commit g) y ≡ Less) names → IsAbsent g (generations_below bound names)
none_again bound g [] behind = tt
none_again bound g (file.Segment n ∷ names) behind = none_again bound g names behind.1
none_again bound g (file.Source n ∷ names) behind = none_again bound g names behind.1
none_again bound g (file.Live n d ∷ names) behind = none_again bound g names behind.1
none_again bound g (file.Commit h ∷ names) behind =
    absent_more (ltb h bound) g h (generations_below bound names) (not_itself g h behind.0) (none_again bound g names behind.1)

once_none : IsDistinct eqb []
unfolding IsDistinct
once_none = tt

once_more : (b : Bool) (g : ℕ) (rest : List ℕ) → IsAbsent g rest → IsDistinct eqb rest → IsDistinct eqb (cons_option (cond b (Some g) None) rest)
once_more true g rest absent once = IsDistinct-cons eqb g rest absent once
once_more false g rest absent once = once

each_once : (bound : ℕ) (names : List FileName) → IsStrictlySortedBy name_cmp names → IsDistinct eqb (generations_below bound names)
each_once bound [] rising = once_none
each_once bound (file.Segment n ∷ names) rising = each_once bound names (sorted_tail name_cmp (file.Segment n) names rising)
each_once bound (file.Source n ∷ names) rising = each_once bound names (sorted_tail name_cmp (file.Source n) names rising)
each_once bound (file.Live n d ∷ names) rising = each_once bound names (sorted_tail name_cmp (file.Live n d) names rising)
each_once bound (file.Commit g ∷ names) rising =
    once_more (ltb g bound) g (generations_below bound names) (none_again bound g names (sorted_head name_cmp (file.Commit g) names rising))
    (each_once bound names (sorted_tail name_cmp (file.Commit g) names rising))

-- ---- one name after another

of_next : (bound i : ℕ) (names : List FileName) (d : FileName) → i < length names
    → generations_below bound (take (i + 1) names) ≡ generations_below bound (take i names) ++ generations_below bound (get_or names i d ∷ [])
of_next bound i names d within =
    ap (generations_below bound) (take_more names i d within) ∙ filter_map-append (generation_below bound) (take i names) (get_or names i d ∷ [])

one_below : (bound g : ℕ) → g < bound → generations_below bound (file.Commit g ∷ []) ≡ g ∷ []
one_below bound g below = ap (λ (b : Bool). cons_option (cond b (Some g) None) []) (lt-ltb g bound below)

not_less : (g bound : ℕ) → bound ≤ g → ltb g bound ≡ false
not_less g bound above = by (ltb g bound) refl
  where
    by : (b : Bool) → ltb g bound ≡ b → ltb g bound ≡ false
    by true is = absurd (let less : g < bound = ltb-true g bound is in omega arith)
    by false is = is

none_below : (bound g : ℕ) → bound ≤ g → generations_below bound (file.Commit g ∷ []) ≡ []
none_below bound g above = ap (λ (b : Bool). cons_option (cond b (Some g) None) []) (not_less g bound above)

none_of_other : (bound : ℕ) (x : FileName) → ((g : ℕ) → x ≡ file.Commit g → ⊥) → generations_below bound (x ∷ []) ≡ []
none_of_other bound (file.Segment n) other = refl
none_of_other bound (file.Source n) other = refl
none_of_other bound (file.Live n d) other = refl
none_of_other bound (file.Commit g) other = absurd (other g refl)

-- the next name is a commit's below the bound
pub one_more_below : (bound i g : ℕ) (names : List FileName) (d : FileName) (found now : List ℕ) → i < length names → get_or names i d ≡ file.Commit g → g < bound
    → found ≡ generations_below bound (take i names) → now ≡ found ++ g ∷ [] → now ≡ generations_below bound (take (i + 1) names)
one_more_below bound i g names d found now within is below so_far added =
    added ∙ ap (λ (xs : List ℕ). xs ++ g ∷ []) so_far
    ∙ sym (of_next bound i names d within ∙ ap (λ (xs : List ℕ). generations_below bound (take i names) ++ xs) (ap (λ (x : FileName). generations_below bound (x ∷ [])) is ∙ one_below bound g below))

nothing_more : (bound i : ℕ) (names : List FileName) (d : FileName) (found : List ℕ) → i < length names → generations_below bound (get_or names i d ∷ []) ≡ []
    → found ≡ generations_below bound (take i names) → found ≡ generations_below bound (take (i + 1) names)
nothing_more bound i names d found within none so_far =
    so_far ∙ sym (append-nil (generations_below bound (take i names)))
    ∙ sym (of_next bound i names d within ∙ ap (λ (xs : List ℕ). generations_below bound (take i names) ++ xs) none)

-- it is a commit's, but not below the bound
pub newer_passed : (bound i g : ℕ) (names : List FileName) (d : FileName) (found : List ℕ) → i < length names → get_or names i d ≡ file.Commit g → bound ≤ g
    → found ≡ generations_below bound (take i names) → found ≡ generations_below bound (take (i + 1) names)
newer_passed bound i g names d found within is above =
    nothing_more bound i names d found within (ap (λ (x : FileName). generations_below bound (x ∷ [])) is ∙ none_below bound g above)

-- it is no commit's
pub other_passed : (bound i : ℕ) (names : List FileName) (d : FileName) (found : List ℕ) → i < length names → ((g : ℕ) → get_or names i d ≡ file.Commit g → ⊥)
    → found ≡ generations_below bound (take i names) → found ≡ generations_below bound (take (i + 1) names)
other_passed bound i names d found within other = nothing_more bound i names d found within (none_of_other bound (get_or names i d) other)

-- ---- sorted, and turned round

strictly : (a b : ℕ) → a ≤ b → eqb a b ≡ false → a < b
strictly a b up other = elim (eqb_tells a b) [
  | inl same ↦ absurd (let no : false ≡ true = sym other ∙ same.0 in cc)
  | inr not ↦ elim (cases_lt a b) [ inl less ↦ less | inr over ↦ absurd (not.1 (omega arith)) ]
]

falls : (xs : List ℕ) → IsNonDecreasingBy (λ (n : ℕ). n) xs → IsDistinct eqb xs → AllPairs (λ g h. h < g) (reverse xs)
falls xs rising once = λ i j d before within.
    let long : length (reverse xs) ≡ length xs = length-reverse xs in
    let first : get_or (reverse xs) i d ≡ get_or xs (length xs - 1 - i) d = get_or-reverse xs i d (omega arith) in
    let last : get_or (reverse xs) j d ≡ get_or xs (length xs - 1 - j) d = get_or-reverse xs j d (omega arith) in
    let up : get_or xs (length xs - 1 - j) d ≤ get_or xs (length xs - 1 - i) d = rising (length xs - 1 - j) (length xs - 1 - i) d (omega arith) (omega arith) in
    let other : eqb (get_or xs (length xs - 1 - j) d) (get_or xs (length xs - 1 - i) d) ≡ false =
    apart_from_distinct eqb xs (length xs - 1 - j) (length xs - 1 - i) d once (omega arith) (omega arith) in
    rw (first, last) (strictly (get_or xs (length xs - 1 - j) d) (get_or xs (length xs - 1 - i) d) up other)

pub are_below : (names : List FileName) (bound : ℕ) (found sorted turned : List ℕ) → found ≡ generations_below bound names → IsPermutation found sorted → IsSorted nat_cmp sorted
    → turned ≡ reverse sorted → AreBelow names bound turned
are_below names bound found sorted turned is moved rises back =
    let all : IsPermutation (generations_below bound names) turned =
    subst (λ (xs : List ℕ). IsPermutation xs turned) is (subst (λ (xs : List ℕ). IsPermutation found xs) (sym back) (IsPermutation-trans found sorted (reverse sorted) moved (IsPermutation-reverse sorted))) in
    record {
      each = λ h. (
        λ there. from_below bound names h (Contains-permutation turned (generations_below bound names) h (IsPermutation-sym (generations_below bound names) turned all) there),
        λ below. Contains-permutation (generations_below bound names) turned h all (listed_below bound names h below.0 below.1),
      );
      falling = λ rising. subst (λ (xs : List ℕ). AllPairs (λ g h. h < g) xs) (sym back)
          (falls sorted (IsNonDecreasingBy-from_sort (λ (n : ℕ). n) sorted rises)
          (IsDistinct-IsPermutation eqb eqb_flips found sorted moved (subst (λ (xs : List ℕ). IsDistinct eqb xs) (sym is) (each_once bound names rising))));
    }

-- those below the newest, if there is one, are the older ones
pub are_older : (names : List FileName) (newest : Option ℕ) (generations : List ℕ) → MatchOption newest ((g : ℕ) → Contains names (file.Commit g) → ⊥) (IsNewest names)
    → AreBelow names (unwrap_or newest 0) generations → IsStrictlySortedBy name_cmp names → AreOlder names generations
are_older names None generations none below rising = record {
  each = λ h. (λ there. absurd (none h ((below.each h).0 there).0), λ older. absurd (none h older.0));
  falling = below.falling rising;
}
are_older names (Some g) generations newest below rising = record {
  each = λ h. (
    λ there. let was = (below.each h).0 there in (was.0, (g, newest.there, was.1)),
    λ older. (below.each h).1 (older.0, (let most = newest.greatest older.1.0 older.1.1 in omega (arith, most, older.1.2))),
  );
  falling = below.falling rising;
}
