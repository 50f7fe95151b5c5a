-- Holds, and how many have a token.
use Rattle.std.proofs.Common.{◌≡◌, ℕ, suc, ◌+◌, ◌-◌, ◌<◌, List, [], ◌∷◌, ◌++◌, length, map, Bool, true, false, cond, not, ◌&&◌, ◌||◌, refl, sym, ◌∙◌, ap, arith, inl, inr}
use Rattle.std.specs.Prelude.{◌==◌, ltb}
use Rattle.std.specs.List.{count_by, filter, AllByRecursion, IsDistinct}
use Rattle.std.specs.Set.{remove_key}
use Rattle.std.proofs.lemmas.Bool.Decides.{nat_tests, eqb_tells}
use Rattle.std.proofs.lemmas.List.Sums.{sum_by-append}
use Rattle.cat_model.specs.State.{Hold, has_hold, held_in}
use Rattle.cat_lifetimes.specs.records.Counts.{AreCounted, TokensRise, recorded_token, one_more, views_of}
use Rattle.cat_lifetimes.specs.records.Records.{holders_of}
use Rattle.cat_lifetimes.specs.declared.records.recorded.Recorded.{Recorded}

pub count_by-cons : {X : Type 0} (p : X → Bool) (x : X) (xs : List X) → count_by p (x ∷ xs) ≡ cond (p x) 1 0 + count_by p xs
count_by-cons p x xs = sum_by-append (λ y. cond (p y) 1 0) (x ∷ []) xs ∙ ap (λ n. n + count_by p xs) (let z : (b : Bool) → 0 + cond b 1 0 ≡ cond b 1 0 = λ b. omega arith in z (p x))

count_by-push : {X : Type 0} (p : X → Bool) (xs : List X) (x : X) → count_by p (xs ++ x ∷ []) ≡ count_by p xs + cond (p x) 1 0
count_by-push p xs x = sum_by-append (λ y. cond (p y) 1 0) xs (x ∷ []) ∙ ap (λ n. count_by p xs + n) (let z : (b : Bool) → 0 + cond b 1 0 ≡ cond b 1 0 = λ b. omega arith in z (p x))

pub equal_either : (a b : ℕ) → (a == b) ≡ (b == a)
equal_either a b = grind (arith, nat_tests)

some : (n : ℕ) → true ≡ ltb 0 (1 + n)
some n = grind (arith, nat_tests)

-- a token is held where some hold has it
pub held_is_counted : (hs : List Hold) (t : ℕ) → held_in hs t ≡ ltb 0 (holders_of hs t)
held_is_counted [] t = refl
held_is_counted (h ∷ hs) t = by (held_is_counted hs t) (h.token == t) ∙ sym (ap (ltb 0) (count_by-cons (λ g. g.token == t) h hs))
  where
    by : held_in hs t ≡ ltb 0 (holders_of hs t) → (b : Bool) → (b || held_in hs t) ≡ ltb 0 (cond b 1 0 + holders_of hs t)
    by rest true = some (holders_of hs t)
    by rest false = rest ∙ ap (ltb 0) (omega arith)

-- so it is where its view has holders
pub held_by_holders : (rs : List Recorded) (hs : List Hold) → AreCounted rs hs → AllByRecursion (λ r. ltb 0 r.holders ≡ held_in hs (recorded_token r)) rs
held_by_holders [] hs a = tt
held_by_holders (r ∷ rs) hs a = (ap (ltb 0) a.0 ∙ sym (held_is_counted hs (recorded_token r)), held_by_holders rs hs a.1)

-- ---- one hold more

pub counted_more : (rs : List Recorded) (hs : List Hold) (s t : ℕ) → AreCounted rs hs → AreCounted (map (one_more t) rs) (hs ++ record { session = s; token = t } ∷ [])
counted_more [] hs s t a = tt
counted_more (r ∷ rs) hs s t a =
    (ap (λ n. n + cond (recorded_token r == t) 1 0) a.0 ∙ ap (λ b. holders_of hs (recorded_token r) + cond b 1 0) (equal_either (recorded_token r) t) ∙ sym (count_by-push (λ h. h.token == recorded_token r) hs (record { session = s; token = t })), counted_more rs hs s t a.1)

pub views-more : (rs : List Recorded) (t : ℕ) → views_of (map (one_more t) rs) ≡ views_of rs
views-more [] t = refl
views-more (r ∷ rs) t = ap (λ vs. r.view ∷ vs) (views-more rs t)

pub length-more : (rs : List Recorded) (t : ℕ) → length (map (one_more t) rs) ≡ length rs
length-more [] t = refl
length-more (r ∷ rs) t = ap suc (length-more rs t)

all-more : (t u : ℕ) (rs : List Recorded) → AllByRecursion (λ s. u < recorded_token s) rs → AllByRecursion (λ s. u < recorded_token s) (map (one_more t) rs)
all-more t u [] a = tt
all-more t u (r ∷ rs) a = (a.0, all-more t u rs a.1)

pub rise-more : (rs : List Recorded) (t : ℕ) → TokensRise rs → TokensRise (map (one_more t) rs)
rise-more [] t up = tt
rise-more (r ∷ rs) t up = (all-more t (recorded_token r) rs up.0, rise-more rs t up.1)

all-less : (t u : ℕ) (rs : List Recorded) → AllByRecursion (λ s. u < recorded_token s) (map (one_more t) rs) → AllByRecursion (λ s. u < recorded_token s) rs
all-less t u [] a = tt
all-less t u (r ∷ rs) a = (a.0, all-less t u rs a.1)

pub rise-less : (rs : List Recorded) (t : ℕ) → TokensRise (map (one_more t) rs) → TokensRise rs
rise-less [] t up = tt
rise-less (r ∷ rs) t up = (all-less t (recorded_token r) rs up.0, rise-less rs t up.1)

pub counted_less : (rs : List Recorded) (hs left : List Hold) (t : ℕ) → ((u : ℕ) → holders_of hs u ≡ holders_of left u + cond (u == t) 1 0) → AreCounted (map (one_more t) rs) hs → AreCounted rs left
counted_less [] hs left t e a = tt
counted_less (r ∷ rs) hs left t e a =
    (let one : r.holders + cond (recorded_token r == t) 1 0 ≡ holders_of left (recorded_token r) + cond (recorded_token r == t) 1 0 = a.0 ∙ e (recorded_token r) in omega (arith, one), counted_less rs hs left t e a.1)

-- the view of a held token stays
pub held-push : (hs : List Hold) (s t u : ℕ) → held_in (hs ++ record { session = s; token = t } ∷ []) u ≡ (held_in hs u || (t == u))
held-push [] s t u = by (t == u)
  where
    by : (b : Bool) → (b || false) ≡ (false || b)
    by true = refl
    by false = refl
held-push (h ∷ hs) s t u = by (h.token == u) (held-push hs s t u)
  where
    by : (b : Bool) → held_in (hs ++ record { session = s; token = t } ∷ []) u ≡ (held_in hs u || (t == u)) → (b || held_in (hs ++ record { session = s; token = t } ∷ []) u) ≡ ((b || held_in hs u) || (t == u))
    by true e = refl
    by false e = e

-- ---- one hold less

-- it is the session's hold of the token
abbrev pub is_of : ℕ → ℕ → Hold → Bool
is_of s t h = (h.session == s) && (h.token == t)

pub both_true : (a b : Bool) → (a && b) ≡ true → (a ≡ true) × (b ≡ true)
both_true true b e = (refl, e)
both_true false b e = absurd (let no : false ≡ true = e in cc)

pub equal_at : (a b : ℕ) → (a == b) ≡ true → a ≡ b
equal_at a b e = elim (eqb_tells a b) [ inl y ↦ y.1 | inr n ↦ absurd (let no : true ≡ false = sym e ∙ n.0 in cc) ]

-- the hold that goes is its session's one hold of the token
pub holders-removed : (hs : List Hold) (s t u : ℕ) → has_hold hs s t ≡ true → holders_of hs u ≡ holders_of (remove_key (is_of s t) hs) u + cond (u == t) 1 0
holders-removed [] s t u e = absurd (let no : false ≡ true = e in cc)
holders-removed (h ∷ hs) s t u e = by (holders-removed hs s t u) (is_of s t h) refl
  where
    by : (has_hold hs s t ≡ true → holders_of hs u ≡ holders_of (remove_key (is_of s t) hs) u + cond (u == t) 1 0) → (b : Bool) → is_of s t h ≡ b → holders_of (h ∷ hs) u ≡ holders_of (cond b hs (h ∷ remove_key (is_of s t) hs)) u + cond (u == t) 1 0
    by more true is =
        let token : h.token ≡ t = equal_at h.token t (both_true (h.session == s) (h.token == t) is).1 in
        let same : (h.token == u) ≡ (u == t) = ap (λ x. x == u) token ∙ equal_either t u in
        let here : holders_of (h ∷ hs) u ≡ cond (u == t) 1 0 + holders_of hs u = count_by-cons (λ g. g.token == u) h hs ∙ ap (λ b. cond b 1 0 + holders_of hs u) same in
        omega (arith, here)
    by more false is =
        let deeper = more (sym (ap (λ b. b || has_hold hs s t) is) ∙ e) in
        omega (arith, deeper, count_by-cons (λ g. g.token == u) h hs, count_by-cons (λ g. g.token == u) h (remove_key (is_of s t) hs))

-- no later hold is the same as this one
none_later : (same : Hold → Hold → Bool) (s t : ℕ) (h : Hold) (hs : List Hold) → ((g : Hold) → same h g ≡ is_of s t g) → AllByRecursion (λ g. same h g ≡ false) hs → filter (λ g. not (is_of s t g)) hs ≡ hs
none_later same s t h [] e a = refl
none_later same s t h (g ∷ hs) e a =
    let other : is_of s t g ≡ false = sym (e g) ∙ a.0 in
    ap (λ b. cond (not b) (g ∷ filter (λ g. not (is_of s t g)) hs) (filter (λ g. not (is_of s t g)) hs)) other ∙ ap (λ l. g ∷ l) (none_later same s t h hs e a.1)

-- where holds differ, the first of the session and the token is the only one
pub removed_is_filtered : (same : Hold → Hold → Bool) → ((g h : Hold) → same g h ≡ is_of g.session g.token h) → (hs : List Hold) (s t : ℕ) → IsDistinct same hs → remove_key (is_of s t) hs ≡ filter (λ h. not (is_of s t h)) hs
unfolding IsDistinct
removed_is_filtered same alike [] s t d = refl
removed_is_filtered same alike (h ∷ hs) s t d = by (removed_is_filtered same alike hs s t d.1) (is_of s t h) refl
  where
    by : remove_key (is_of s t) hs ≡ filter (λ g. not (is_of s t g)) hs → (b : Bool) → is_of s t h ≡ b → cond b hs (h ∷ remove_key (is_of s t) hs) ≡ cond (not b) (h ∷ filter (λ g. not (is_of s t g)) hs) (filter (λ g. not (is_of s t g)) hs)
    by rest true is =
        let parts = both_true (h.session == s) (h.token == t) is in
        let at : (g : Hold) → same h g ≡ is_of s t g = λ g. alike h g ∙ (λ i. is_of (equal_at h.session s parts.0 i) (equal_at h.token t parts.1 i) g) in
        sym (none_later same s t h hs at d.0)
    by rest false is = ap (λ l. h ∷ l) rest

pub removed_none : (hs : List Hold) (s t : ℕ) → has_hold hs s t ≡ false → filter (λ h. not (is_of s t h)) hs ≡ hs
removed_none [] s t e = refl
removed_none (h ∷ hs) s t e = by (removed_none hs s t) (is_of s t h) refl
  where
    by : (has_hold hs s t ≡ false → filter (λ g. not (is_of s t g)) hs ≡ hs) → (b : Bool) → is_of s t h ≡ b → cond (not b) (h ∷ filter (λ g. not (is_of s t g)) hs) (filter (λ g. not (is_of s t g)) hs) ≡ h ∷ hs
    by more true is = absurd (let no : true ≡ false = sym (ap (λ b. b || has_hold hs s t) is) ∙ e in cc)
    by more false is = ap (λ l. h ∷ l) (more (sym (ap (λ b. b || has_hold hs s t) is) ∙ e))

-- what is held after a hold ended was held before
pub held-filtered : (p : Hold → Bool) (hs : List Hold) (u : ℕ) → held_in (filter p hs) u ≡ true → held_in hs u ≡ true
held-filtered p [] u e = e
held-filtered p (h ∷ hs) u e = by (held-filtered p hs u) (p h) e
  where
    or_any : (a b : Bool) → b ≡ true → (a || b) ≡ true
    or_any true b k = refl
    or_any false b k = k

    pass : (a b c : Bool) → (b ≡ true → c ≡ true) → (a || b) ≡ true → (a || c) ≡ true
    pass true b c f k = refl
    pass false b c f k = f k

    by : (held_in (filter p hs) u ≡ true → held_in hs u ≡ true) → (b : Bool) → held_in (cond b (h ∷ filter p hs) (filter p hs)) u ≡ true → ((h.token == u) || held_in hs u) ≡ true
    by more true k = pass (h.token == u) (held_in (filter p hs) u) (held_in hs u) more k
    by more false k = or_any (h.token == u) (held_in hs u) (more k)
