-- The index of a token among tokens that rise, and one holder more or less at it.
use Rattle.std.proofs.Common.{◌≡◌, ◌≢◌, ℕ, zero, suc, ◌+◌, ◌-◌, ◌<◌, ◌≤◌, List, [], ◌∷◌, length, map, get_or, set, Bool, true, false, cond, Some, None, Result, Ok, Err, refl, sym, ◌∙◌, ap, subst, arith, inl, inr, Ordering, Less, Equal, Greater, nat_cmp}
use Rattle.std.specs.Prelude.{◌==◌, ◌||◌, is_some, IfSome}
use Rattle.std.specs.List.{list_any, find, AllByRecursion, HoldsAt}
use Rattle.std.proofs.lemmas.List.{get_or_default}
use Rattle.std.specs.List.Sorted.{IsBinarySearchResult, IsSearchInRange}
use Rattle.std.specs.Cmp.{ranks}
use Rattle.std.specs.Ordering.{MatchOrdering, ordering_index}
use Rattle.std.specs.Result.{result_ok}
use Rattle.std.proofs.lemmas.Bool.{cases_lt}
use Rattle.std.proofs.lemmas.Bool.Decides.{eqb_tells}
use Rattle.cat_lifetimes.specs.records.Counts.{TokensRise, recorded_token, one_more}
use Rattle.cat_lifetimes.specs.declared.records.recorded.Recorded.{Recorded}

-- ---- what holds of each element, by its index

pub all_at : {X : Type 0} (P : X → Type 0) (xs : List X) (i : ℕ) (d : X) → AllByRecursion P xs → i < length xs → P (get_or xs i d)
all_at P [] i d a lt = absurd (omega arith)
all_at P (x ∷ xs) zero d a lt = a.0
all_at P (x ∷ xs) (suc i) d a lt = all_at P xs i d a.1 (omega arith)

pub all_from : {X : Type 0} (P : X → Type 0) (xs : List X) → ((i : ℕ) (d : X) → i < length xs → P (get_or xs i d)) → AllByRecursion P xs
all_from P [] f = tt
all_from P (x ∷ xs) f = (f zero x (omega arith), all_from P xs (λ i d lt. f (suc i) d (omega arith)))

any_none : {X : Type 0} (p : X → Bool) (xs : List X) → ((i : ℕ) (d : X) → i < length xs → p (get_or xs i d) ≡ false) → list_any p xs ≡ false
any_none p [] f = refl
any_none p (x ∷ xs) f = let e : p x ≡ false = f zero x (omega arith) in rw e (any_none p xs (λ i d lt. f (suc i) d (omega arith)))

or_some : (a b : Bool) → b ≡ true → (a || b) ≡ true
or_some true b e = refl
or_some false b e = e

pub any_some : {X : Type 0} (p : X → Bool) (xs : List X) (i : ℕ) (d : X) → i < length xs → p (get_or xs i d) ≡ true → list_any p xs ≡ true
any_some p [] i d lt e = absurd (omega arith)
any_some p (x ∷ xs) zero d lt e = rw e refl
any_some p (x ∷ xs) (suc i) d lt e = or_some (p x) (list_any p xs) (any_some p xs i d (omega arith) e)

-- ---- tokens that rise

pub rise_at : (rs : List Recorded) (i j : ℕ) (d : Recorded) → TokensRise rs → i ≤ j → j < length rs → recorded_token (get_or rs i d) ≤ recorded_token (get_or rs j d)
rise_at [] i j d up le lt = absurd (omega arith)
rise_at (r ∷ rs) zero zero d up le lt = omega arith
rise_at (r ∷ rs) zero (suc j) d up le lt = let a = all_at (λ s. recorded_token r < recorded_token s) rs j d up.0 (omega arith) in omega (arith, a)
rise_at (r ∷ rs) (suc i) zero d up le lt = absurd (omega arith)
rise_at (r ∷ rs) (suc i) (suc j) d up le lt = rise_at rs i j d up.1 (omega arith) (omega arith)

-- ---- binary search

tells : (a t : ℕ) (o : Ordering) → nat_cmp a t ≡ o → MatchOrdering o (a < t) (a ≡ t) (t < a)
tells a t o e = subst (λ p. MatchOrdering p (a < t) (a ≡ t) (t < a)) e (ranks a t)

higher : (t a b : ℕ) → a ≤ b → ordering_index (nat_cmp a t) ≤ ordering_index (nat_cmp b t)
higher t a b le = by (nat_cmp a t) (nat_cmp b t) (ranks a t) (ranks b t)
  where
    by : (o p : Ordering) → MatchOrdering o (a < t) (a ≡ t) (t < a) → MatchOrdering p (b < t) (b ≡ t) (t < b) → ordering_index o ≤ ordering_index p
    by Less p h k = omega arith
    by Equal Less h k = absurd (omega arith)
    by Equal Equal h k = omega arith
    by Equal Greater h k = omega arith
    by Greater Less h k = absurd (omega arith)
    by Greater Equal h k = absurd (omega arith)
    by Greater Greater h k = omega arith

differs : (a t : ℕ) → a ≢ t → (a == t) ≡ false
differs a t n = elim (eqb_tells a t) [ inl e ↦ absurd (n e.1) | inr e ↦ e.0 ]

pub equals : (a t : ℕ) → a ≡ t → (a == t) ≡ true
equals a t h = elim (eqb_tells a t) [ inl e ↦ e.0 | inr e ↦ absurd (e.1 h) ]

-- what a binary search for the token answers
pub searched_some : (rs : List Recorded) (t : ℕ) (found : Result ℕ ℕ) → IsSearchInRange found (length rs) → IsBinarySearchResult (λ r. nat_cmp (recorded_token r) t) rs found
    → IfSome (result_ok found) (λ i. (i < length rs) × HoldsAt (λ r. recorded_token r ≡ t) rs i)
searched_some rs t (Ok i) within h = (within, λ d. tells (recorded_token (get_or rs i d)) t Equal (h d))
searched_some rs t (Err i) within h = tt

pub searched_none : (rs : List Recorded) (t : ℕ) (found : Result ℕ ℕ) → TokensRise rs → IsSearchInRange found (length rs) → IsBinarySearchResult (λ r. nat_cmp (recorded_token r) t) rs found
    → is_some (result_ok found) ≡ list_any (λ r. recorded_token r == t) rs
searched_none [] t (Ok i) up within h = absurd (omega arith)
searched_none (r ∷ rs) t (Ok i) up within h = sym (any_some (λ s. recorded_token s == t) (r ∷ rs) i r within (equals _ _ (tells (recorded_token (get_or (r ∷ rs) i r)) t Equal (h r))))
searched_none rs t (Err i) up within h =
    let parted = h (λ a b d le lt. higher t (recorded_token (get_or rs a d)) (recorded_token (get_or rs b d)) (rise_at rs a b d up le lt)) in
    sym (any_none (λ s. recorded_token s == t) rs (λ k d lt. differs (recorded_token (get_or rs k d)) t (elim (cases_lt k i) [
      | inl below ↦ λ e. let less : recorded_token (get_or rs k d) < t = tells (recorded_token (get_or rs k d)) t Less (parted.0 k d (omega arith) below) in omega arith
      | inr above ↦ λ e. let more : t < recorded_token (get_or rs k d) = tells (recorded_token (get_or rs k d)) t Greater (parted.1 k d above lt) in omega arith
    ])))

-- ---- one holder more, or less

same_count : (r : Recorded) (t : ℕ) → (recorded_token r == t) ≡ false → one_more t r ≡ r
same_count r t e = let n : r.holders + cond (recorded_token r == t) 1 0 ≡ r.holders = ap (λ b. r.holders + cond b 1 0) e ∙ omega arith in λ i. record r { holders = n i }

pub none_more : (rs : List Recorded) (t : ℕ) → list_any (λ r. recorded_token r == t) rs ≡ false → map (one_more t) rs ≡ rs
none_more [] t e = refl
none_more (r ∷ rs) t e = by (none_more rs t) (recorded_token r == t) refl
  where
    by : (list_any (λ r. recorded_token r == t) rs ≡ false → map (one_more t) rs ≡ rs) → (b : Bool) → (recorded_token r == t) ≡ b → map (one_more t) (r ∷ rs) ≡ r ∷ rs
    by more true is = absurd (let no : true ≡ false = sym (ap (λ b. b || list_any (λ r. recorded_token r == t) rs) is) ∙ e in cc)
    by more false is = let tail = more (sym (ap (λ b. b || list_any (λ r. recorded_token r == t) rs) is) ∙ e) in λ i. same_count r t is i ∷ tail i

-- none behind has the token of one that is less than all of them
none_above : (rs : List Recorded) (t : ℕ) → AllByRecursion (λ s. t < recorded_token s) rs → map (one_more t) rs ≡ rs
none_above [] t a = refl
none_above (r ∷ rs) t a =
    let tail = none_above rs t a.1 in
    let below = a.0 in
    let e : (recorded_token r == t) ≡ false = differs (recorded_token r) t (λ same. omega (arith, below, same)) in
    λ i. same_count r t e i ∷ tail i

-- the holders of this one become so many
abbrev pub with_holders : ℕ → Recorded → Recorded
with_holders n r = record r { holders = n }

pub more_at : (rs : List Recorded) (t i : ℕ) (d : Recorded) → TokensRise rs → i < length rs → recorded_token (get_or rs i d) ≡ t
    → set rs i (with_holders ((get_or rs i d).holders + 1) (get_or rs i d)) ≡ map (one_more t) rs
more_at [] t i d up lt e = absurd (omega arith)
more_at (r ∷ rs) t zero d up lt e =
    let head : r.holders + 1 ≡ r.holders + cond (recorded_token r == t) 1 0 = ap (λ b. r.holders + cond b 1 0) (sym (equals (recorded_token r) t e)) in
    let tail = none_above rs t (subst (λ u. AllByRecursion (λ s. u < recorded_token s) rs) e up.0) in
    λ i. record r { holders = head i } ∷ sym tail i
more_at (r ∷ rs) t (suc i) d up lt e =
    let a = all_at (λ s. recorded_token r < recorded_token s) rs i d up.0 (omega arith) in
    let other : (recorded_token r == t) ≡ false = differs (recorded_token r) t (λ k. omega (arith, a, e)) in
    let tail = more_at rs t i d up.1 (omega arith) e in
    λ j. sym (same_count r t other) j ∷ tail j

pub less_at : (rs : List Recorded) (t i : ℕ) (d : Recorded) → TokensRise rs → i < length rs → recorded_token (get_or rs i d) ≡ t → 0 < (get_or rs i d).holders
    → rs ≡ map (one_more t) (set rs i (with_holders ((get_or rs i d).holders - 1) (get_or rs i d)))
less_at [] t i d up lt e some = absurd (omega arith)
less_at (r ∷ rs) t zero d up lt e some =
    let head : r.holders ≡ r.holders - 1 + cond (recorded_token r == t) 1 0 = let back : r.holders ≡ r.holders - 1 + 1 = omega arith in back ∙ ap (λ b. r.holders - 1 + cond b 1 0) (sym (equals (recorded_token r) t e)) in
    let tail = none_above rs t (subst (λ u. AllByRecursion (λ s. u < recorded_token s) rs) e up.0) in
    λ i. record r { holders = head i } ∷ sym tail i
less_at (r ∷ rs) t (suc i) d up lt e some =
    let a = all_at (λ s. recorded_token r < recorded_token s) rs i d up.0 (omega arith) in
    let other : (recorded_token r == t) ≡ false = differs (recorded_token r) t (λ k. omega (arith, a, e)) in
    let tail = less_at rs t i d up.1 (omega arith) e some in
    λ j. sym (same_count r t other) j ∷ tail j

-- the same where what is read twice is told apart
pub more_there : (rs : List Recorded) (t i : ℕ) (a b : Recorded) → TokensRise rs → i < length rs → recorded_token (get_or rs i b) ≡ t
    → set rs i (record { view = (get_or rs i a).view; holders = (get_or rs i b).holders + 1 }) ≡ map (one_more t) rs
more_there rs t i a b up lt e =
    let same : get_or rs i a ≡ get_or rs i b = get_or_default rs i a b lt in
    ap (λ (r : Recorded). set rs i (record { view = r.view; holders = (get_or rs i b).holders + 1 })) same ∙ more_at rs t i b up lt e

pub less_there : (rs : List Recorded) (t i : ℕ) (a b : Recorded) → TokensRise rs → i < length rs → recorded_token (get_or rs i b) ≡ t → 0 < (get_or rs i b).holders
    → rs ≡ map (one_more t) (set rs i (record { view = (get_or rs i a).view; holders = (get_or rs i b).holders - 1 }))
less_there rs t i a b up lt e some =
    let same : get_or rs i b ≡ get_or rs i a = get_or_default rs i b a lt in
    less_at rs t i b up lt e some ∙ ap (λ (r : Recorded). map (one_more t) (set rs i (record { view = r.view; holders = (get_or rs i b).holders - 1 }))) same

-- ---- what is found

pub not_found : {X : Type 0} (p : X → Bool) (xs : List X) → list_any p xs ≡ false → find p xs ≡ None
not_found p [] e = refl
not_found p (x ∷ xs) e = by (not_found p xs) (p x) refl
  where
    by : (list_any p xs ≡ false → find p xs ≡ None) → (b : Bool) → p x ≡ b → cond b (Some x) (find p xs) ≡ None
    by more true is = absurd (let no : true ≡ false = sym (ap (λ b. b || list_any p xs) is) ∙ e in cc)
    by more false is = more (sym (ap (λ b. b || list_any p xs) is) ∙ e)

pub nowhere : {X : Type 0} (p : X → Bool) (xs : List X) → None ≡ find p xs → list_any p xs ≡ false
nowhere p [] e = refl
nowhere p (x ∷ xs) e = by (nowhere p xs) (p x) refl
  where
    by : (None ≡ find p xs → list_any p xs ≡ false) → (b : Bool) → p x ≡ b → (b || list_any p xs) ≡ false
    by more true is = absurd (let no : None ≡ Some x = e ∙ ap (λ b. cond b (Some x) (find p xs)) is in cc)
    by more false is = more (e ∙ ap (λ b. cond b (Some x) (find p xs)) is)

pub found_at : (rs : List Recorded) (t i : ℕ) (d : Recorded) → TokensRise rs → i < length rs → recorded_token (get_or rs i d) ≡ t → find (λ r. recorded_token r == t) rs ≡ Some (get_or rs i d)
found_at [] t i d up lt e = absurd (omega arith)
found_at (r ∷ rs) t zero d up lt e = ap (λ b. cond b (Some r) (find (λ r. recorded_token r == t) rs)) (equals (recorded_token r) t e)
found_at (r ∷ rs) t (suc i) d up lt e =
    let a = all_at (λ s. recorded_token r < recorded_token s) rs i d up.0 (omega arith) in
    ap (λ b. cond b (Some r) (find (λ r. recorded_token r == t) rs)) (differs (recorded_token r) t (λ k. omega (arith, a, e))) ∙ found_at rs t i d up.1 (omega arith) e
