-- The view that goes as one more is recorded: the first that nobody holds.
use Rattle.std.proofs.Common.{◌≡◌, ℕ, zero, suc, ◌<◌, ◌≤◌, List, [], ◌∷◌, length, map, get_or, Bool, true, false, cond, not, ◌&&◌, ◌||◌, Some, None, refl, sym, ◌∙◌, ap, arith}
use Rattle.std.specs.Prelude.{ltb}
use Rattle.std.specs.List.{list_any, list_all, filter, remove, position, AllByRecursion}
use Rattle.std.proofs.lemmas.Bool.Decides.{nat_tests}
use Rattle.std.proofs.lemmas.List.Quantifiers.{position-Some}
use Rattle.std.proofs.lemmas.List.Sums.{fails_before_first}
use Rattle.cat_model.proofs.Lists.{filter_alike, filter_none, All-each}
use Rattle.cat_ledger_laws.specs.model.Calls.{stays_full}
use Rattle.cat_lifetimes.specs.records.Counts.{TokensRise, recorded_token}
use Rattle.cat_lifetimes.specs.declared.records.recorded.Recorded.{Recorded}

-- ---- the first that passes a test

-- the element at the index passes, and none before it does
abbrev pub FirstAt : {X : Type 0} → (X → Bool) → List X → ℕ → Type 0
FirstAt p [] i = ⊥
FirstAt p (x ∷ xs) zero = p x ≡ true
FirstAt p (x ∷ xs) (suc i) = (p x ≡ false) × FirstAt p xs i

first_from : {X : Type 0} (p : X → Bool) (xs : List X) (i : ℕ) (d : X) → i < length xs → p (get_or xs i d) ≡ true → ((k : ℕ) → k < i → p (get_or xs k d) ≡ false) → FirstAt p xs i
first_from p [] i d lt e f = absurd (omega arith)
first_from p (x ∷ xs) zero d lt e f = e
first_from p (x ∷ xs) (suc i) d lt e f = (f zero (omega arith), first_from p xs i d (omega arith) e (λ k l. f (suc k) (omega arith)))

pub first_at : {X : Type 0} (p : X → Bool) (xs : List X) (i : ℕ) (d : X) → position p xs ≡ Some i → FirstAt p xs i
first_at p xs i d e = let at = position-Some p xs i d e in first_from p xs i d at.0 at.1 at.2

all_fail : {X : Type 0} (p : X → Bool) (xs : List X) → ((k : ℕ) (d : X) → k < length xs → p (get_or xs k d) ≡ false) → AllByRecursion (λ x. p x ≡ false) xs
all_fail p [] f = tt
all_fail p (x ∷ xs) f = (f zero x (omega arith), all_fail p xs (λ k d l. f (suc k) d (omega arith)))

pub none_first : {X : Type 0} (p : X → Bool) (xs : List X) → position p xs ≡ None → AllByRecursion (λ x. p x ≡ false) xs
none_first p xs e = all_fail p xs (λ k d lt. fails_before_first p xs k d (grind (arith, nat_tests)))

-- ---- which view stays

-- the tokens
abbrev pub tokens : List Recorded → List ℕ
tokens rs = map recorded_token rs

-- it is not held
abbrev pub is_free : (ℕ → Bool) → Recorded → Bool
is_free held r = not (held (recorded_token r))

-- it stays as one more is recorded where all places are taken
abbrev pub stays : (ℕ → Bool) → List ℕ → Recorded → Bool
stays held ts r = stays_full held ts (recorded_token r)

not_less : (a b : ℕ) → b ≤ a → ltb a b ≡ false
not_less a b le = grind (arith, nat_tests)

less : (a b : ℕ) → a < b → ltb a b ≡ true
less a b lt = grind (arith, nat_tests)

-- none of those behind has a lesser token
none_less : (held : ℕ → Bool) (t : ℕ) (rs : List Recorded) → AllByRecursion (λ s. t < recorded_token s) rs → list_any (λ u. not (held u) && ltb u t) (tokens rs) ≡ false
none_less held t [] a = refl
none_less held t (r ∷ rs) a =
    let e : ltb (recorded_token r) t ≡ false = not_less (recorded_token r) t (let l = a.0 in omega (arith, l)) in
    ap (λ b. (not (held (recorded_token r)) && b) || list_any (λ u. not (held u) && ltb u t) (tokens rs)) e ∙ by (not (held (recorded_token r))) ∙ none_less held t rs a.1
  where
    by : (b : Bool) → ((b && false) || list_any (λ u. not (held u) && ltb u t) (tokens rs)) ≡ list_any (λ u. not (held u) && ltb u t) (tokens rs)
    by true = refl
    by false = refl

or_true : (b : Bool) → (b || true) ≡ true
or_true true = refl
or_true false = refl

-- behind one that is free all stay
all_stay : (held : ℕ → Bool) (r : Recorded) (ts : List ℕ) (rs : List Recorded) → held (recorded_token r) ≡ false → AllByRecursion (λ s. recorded_token r < recorded_token s) rs → AllByRecursion (λ s. stays held (recorded_token r ∷ ts) s ≡ true) rs
all_stay held r ts [] f a = tt
all_stay held r ts (s ∷ rs) f a =
    ((λ i. held (recorded_token s) || ((not (f i) && less (recorded_token r) (recorded_token s) a.0 i) || list_any (λ u. not (held u) && ltb u (recorded_token s)) ts)) ∙ or_true (held (recorded_token s)), all_stay held r ts rs f a.1)

pub filter_all : {X : Type 0} (p : X → Bool) (xs : List X) → AllByRecursion (λ x. p x ≡ true) xs → filter p xs ≡ xs
filter_all p [] a = refl
filter_all p (x ∷ xs) a = ap (λ b. cond b (x ∷ filter p xs) (filter p xs)) a.0 ∙ ap (λ l. x ∷ l) (filter_all p xs a.1)

falses : {X : Type 0} (p : X → Bool) (xs : List X) → AllByRecursion (λ x. p x ≡ true) xs → AllByRecursion (λ x. not (p x) ≡ false) xs
falses p [] a = tt
falses p (x ∷ xs) a = (ap not a.0, falses p xs a.1)

free_is : (held : ℕ → Bool) (r : Recorded) → is_free held r ≡ true → held (recorded_token r) ≡ false
free_is held r e = by (held (recorded_token r)) e
  where
    by : (b : Bool) → not b ≡ true → b ≡ false
    by true k = absurd (let no : false ≡ true = k in cc)
    by false k = refl

held_is : (held : ℕ → Bool) (r : Recorded) → is_free held r ≡ false → held (recorded_token r) ≡ true
held_is held r e = by (held (recorded_token r)) e
  where
    by : (b : Bool) → not b ≡ false → b ≡ true
    by true k = refl
    by false k = absurd (let no : true ≡ false = k in cc)

-- a held one before changes nothing for those behind
past_held : (held : ℕ → Bool) (r : Recorded) (ts : List ℕ) (s : Recorded) → held (recorded_token r) ≡ true → stays held (recorded_token r ∷ ts) s ≡ stays held ts s
past_held held r ts s e = λ i. held (recorded_token s) || ((not (e i) && ltb (recorded_token r) (recorded_token s)) || list_any (λ u. not (held u) && ltb u (recorded_token s)) ts)

-- the free one with no free one before it goes
itself_goes : (held : ℕ → Bool) (r : Recorded) (rs : List Recorded) → held (recorded_token r) ≡ false → AllByRecursion (λ s. recorded_token r < recorded_token s) rs → stays held (tokens (r ∷ rs)) r ≡ false
itself_goes held r rs f a =
    (λ i. f i || ((not (f i) && not_less (recorded_token r) (recorded_token r) (omega arith) i) || none_less held (recorded_token r) rs a i))

-- a held one stays
itself_stays : (held : ℕ → Bool) (r : Recorded) (ts : List ℕ) → held (recorded_token r) ≡ true → stays held ts r ≡ true
itself_stays held r ts e = λ i. e i || list_any (λ u. not (held u) && ltb u (recorded_token r)) ts

-- all but the first free one stay
pub stays_but : (held : ℕ → Bool) (rs : List Recorded) (i : ℕ) → TokensRise rs → FirstAt (is_free held) rs i → filter (stays held (tokens rs)) rs ≡ remove rs i
stays_but held [] i up f = absurd f
stays_but held (r ∷ rs) zero up f =
    let free = free_is held r f in
    ap (λ b. cond b (r ∷ filter (stays held (tokens (r ∷ rs))) rs) (filter (stays held (tokens (r ∷ rs))) rs)) (itself_goes held r rs free up.0)
    ∙ filter_all (stays held (tokens (r ∷ rs))) rs (all_stay held r (tokens rs) rs free up.0)
stays_but held (r ∷ rs) (suc i) up f =
    let is = held_is held r f.0 in
    ap (λ b. cond b (r ∷ filter (stays held (tokens (r ∷ rs))) rs) (filter (stays held (tokens (r ∷ rs))) rs)) (itself_stays held r (tokens (r ∷ rs)) is)
    ∙ ap (λ l. r ∷ l) (filter_alike (stays held (tokens (r ∷ rs))) (stays held (tokens rs)) rs (All-each (λ s. stays held (tokens (r ∷ rs)) s ≡ stays held (tokens rs) s) (λ s. past_held held r (tokens rs) s is) rs) ∙ stays_but held rs i up.1 f.1)

-- and it goes
pub goes_alone : (held : ℕ → Bool) (rs : List Recorded) (i : ℕ) (d : Recorded) → TokensRise rs → FirstAt (is_free held) rs i → filter (λ r. not (stays held (tokens rs) r)) rs ≡ get_or rs i d ∷ []
goes_alone held [] i d up f = absurd f
goes_alone held (r ∷ rs) zero d up f =
    let free = free_is held r f in
    ap (λ b. cond (not b) (r ∷ filter (λ s. not (stays held (tokens (r ∷ rs)) s)) rs) (filter (λ s. not (stays held (tokens (r ∷ rs)) s)) rs)) (itself_goes held r rs free up.0)
    ∙ ap (λ l. r ∷ l) (filter_none (λ s. not (stays held (tokens (r ∷ rs)) s)) rs (falses (stays held (tokens (r ∷ rs))) rs (all_stay held r (tokens rs) rs free up.0)))
goes_alone held (r ∷ rs) (suc i) d up f =
    let is = held_is held r f.0 in
    ap (λ b. cond (not b) (r ∷ filter (λ s. not (stays held (tokens (r ∷ rs)) s)) rs) (filter (λ s. not (stays held (tokens (r ∷ rs)) s)) rs)) (itself_stays held r (tokens (r ∷ rs)) is)
    ∙ filter_alike (λ s. not (stays held (tokens (r ∷ rs)) s)) (λ s. not (stays held (tokens rs) s)) rs (All-each (λ s. not (stays held (tokens (r ∷ rs)) s) ≡ not (stays held (tokens rs) s)) (λ s. ap not (past_held held r (tokens rs) s is)) rs)
    ∙ goes_alone held rs i d up.1 f.1

-- where each is held, each stays
pub held_stay : (held : ℕ → Bool) (ts : List ℕ) (rs : List Recorded) → AllByRecursion (λ r. is_free held r ≡ false) rs → AllByRecursion (λ r. stays held ts r ≡ true) rs
held_stay held ts [] a = tt
held_stay held ts (r ∷ rs) a = (itself_stays held r ts (held_is held r a.0), held_stay held ts rs a.1)

-- ---- whether all are held

pub all_held : (held : ℕ → Bool) (rs : List Recorded) → AllByRecursion (λ r. is_free held r ≡ false) rs → list_all held (tokens rs) ≡ true
all_held held [] a = refl
all_held held (r ∷ rs) a = ap (λ b. b && list_all held (tokens rs)) (held_is held r a.0) ∙ all_held held rs a.1

pub some_free : (held : ℕ → Bool) (rs : List Recorded) (i : ℕ) → FirstAt (is_free held) rs i → list_all held (tokens rs) ≡ false
some_free held [] i f = absurd f
some_free held (r ∷ rs) zero f = ap (λ b. b && list_all held (tokens rs)) (free_is held r f)
some_free held (r ∷ rs) (suc i) f = ap (λ b. b && list_all held (tokens rs)) (held_is held r f.0) ∙ some_free held rs i f.1

-- the first without holders is the first that is free
pub first_alike : (held : ℕ → Bool) (rs : List Recorded) (i : ℕ) → AllByRecursion (λ r. ltb 0 r.holders ≡ held (recorded_token r)) rs → FirstAt (λ r. not (ltb 0 r.holders)) rs i → FirstAt (is_free held) rs i
first_alike held [] i a f = f
first_alike held (r ∷ rs) zero a f = sym (ap not a.0) ∙ f
first_alike held (r ∷ rs) (suc i) a f = (sym (ap not a.0) ∙ f.0, first_alike held rs i a.1 f.1)

pub none_alike : (held : ℕ → Bool) (rs : List Recorded) → AllByRecursion (λ r. ltb 0 r.holders ≡ held (recorded_token r)) rs → AllByRecursion (λ r. not (ltb 0 r.holders) ≡ false) rs → AllByRecursion (λ r. is_free held r ≡ false) rs
none_alike held [] a f = tt
none_alike held (r ∷ rs) a f = (sym (ap not a.0) ∙ f.0, none_alike held rs a.1 f.1)
