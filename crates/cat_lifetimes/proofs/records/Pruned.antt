-- Which views a PRUNE keeps: those from a token on, and the held ones.
use Rattle.std.proofs.Common.{◌≡◌, ℕ, zero, suc, ◌+◌, ◌-◌, ◌<◌, ◌≤◌, List, [], ◌∷◌, length, map, get_or, min, max, Bool, true, false, cond, not, ◌||◌, refl, sym, ◌∙◌, ap, subst, arith, inl, inr}
use Rattle.std.specs.Prelude.{ltb, leb}
use Rattle.std.specs.List.{count_by, filter, AllByRecursion}
use Rattle.std.proofs.lemmas.Bool.Decides.{nat_tests, leb_tells}
use Rattle.std.proofs.lemmas.List.{get_or_default}
use Rattle.cat_model.proofs.Lists.{filter_alike}
use Rattle.cat_model.specs.State.{Hold, held_in}
use Rattle.cat_model.specs.View.{View}
use Rattle.cat_ledger_laws.proofs.model.Views.{map-filter}
use Rattle.cat_ledger_laws.specs.model.Calls.{stays_pruned}
use Rattle.cat_lifetimes.specs.records.Counts.{AreCounted, TokensRise, recorded_token, views_of, is_kept_from, KeepsFrom}
use Rattle.cat_ledger_laws.specs.shape.Steps.{tokens_of}
use Rattle.cat_lifetimes.specs.declared.records.recorded.Recorded.{Recorded}
use Rattle.cat_lifetimes.proofs.records.Holders.{count_by-cons, held_by_holders}
use Rattle.cat_lifetimes.proofs.records.Leaves.{tokens}
use Rattle.cat_lifetimes.proofs.records.Searched.{all_at, all_from, rise_at}

not_less : (a b : ℕ) → b ≤ a → ltb a b ≡ false
not_less a b le = grind (arith, nat_tests)

less : (a b : ℕ) → a < b → ltb a b ≡ true
less a b lt = grind (arith, nat_tests)

-- how many of the tokens are above t
abbrev pub above : ℕ → List Recorded → ℕ
above t rs = count_by (λ u. ltb t u) (tokens rs)

above-no : (t : ℕ) (r : Recorded) (rs : List Recorded) → recorded_token r ≤ t → above t (r ∷ rs) ≡ above t rs
above-no t r rs le = count_by-cons (λ u. ltb t u) (recorded_token r) (tokens rs) ∙ ap (λ b. cond b 1 0 + above t rs) (not_less t (recorded_token r) le) ∙ omega arith

above-yes : (t : ℕ) (r : Recorded) (rs : List Recorded) → t < recorded_token r → above t (r ∷ rs) ≡ 1 + above t rs
above-yes t r rs lt = count_by-cons (λ u. ltb t u) (recorded_token r) (tokens rs) ∙ ap (λ b. cond b 1 0 + above t rs) (less t (recorded_token r) lt)

above-le : (t : ℕ) (rs : List Recorded) → above t rs ≤ length rs
above-le t [] = omega arith
above-le t (r ∷ rs) =
    let rest = above-le t rs in
    let here : (b : Bool) → cond b 1 0 + above t rs ≤ length (r ∷ rs) = λ b. elim b as (λ b. cond b 1 0 + above t rs ≤ length (r ∷ rs)) [ true ↦ omega (arith, rest) | false ↦ omega (arith, rest) ] in
    subst (λ n. n ≤ length (r ∷ rs)) (sym (count_by-cons (λ u. ltb t u) (recorded_token r) (tokens rs))) (here (ltb t (recorded_token r)))

all_above : (t : ℕ) (rs : List Recorded) → AllByRecursion (λ s. t < recorded_token s) rs → above t rs ≡ length rs
all_above t [] a = refl
all_above t (r ∷ rs) a = above-yes t r rs a.0 ∙ (let rest = all_above t rs a.1 in omega (arith, rest))

-- from the token at an index on, few tokens are above
few_above : (rs : List Recorded) (t i : ℕ) (d : Recorded) → TokensRise rs → i < length rs → recorded_token (get_or rs i d) ≤ t → above t rs + i < length rs
few_above [] t i d up lt le = absurd (omega arith)
few_above (r ∷ rs) t zero d up lt le = let e = above-no t r rs le in omega (arith, e, above-le t rs)
few_above (r ∷ rs) t (suc i) d up lt le =
    let first = all_at (λ s. recorded_token r < recorded_token s) rs i d up.0 (omega arith) in
    let e = above-no t r rs (omega (arith, first, le)) in
    omega (arith, e, few_above rs t i d up.1 (omega arith) le)

-- below it, many are
many_above : (rs : List Recorded) (t i : ℕ) (d : Recorded) → TokensRise rs → i < length rs → t < recorded_token (get_or rs i d) → length rs ≤ above t rs + i
many_above [] t i d up lt le = absurd (omega arith)
many_above (r ∷ rs) t zero d up lt le = let e = all_above t (r ∷ rs) (le, weaker rs up.0) in omega (arith, e)
  where
    weaker : (ss : List Recorded) → AllByRecursion (λ s. recorded_token r < recorded_token s) ss → AllByRecursion (λ s. t < recorded_token s) ss
    weaker [] a = tt
    weaker (s ∷ ss) a = (let l = a.0 in omega (arith, l, le), weaker ss a.1)
many_above (r ∷ rs) t (suc i) d up lt le =
    let rest = many_above rs t i d up.1 (omega arith) le in
    let here : (b : Bool) → length (r ∷ rs) ≤ cond b 1 0 + above t rs + suc i = λ b. elim b as (λ b. length (r ∷ rs) ≤ cond b 1 0 + above t rs + suc i) [ true ↦ omega (arith, rest) | false ↦ omega (arith, rest) ] in
    subst (λ n. length (r ∷ rs) ≤ n + suc i) (sym (count_by-cons (λ u. ltb t u) (recorded_token r) (tokens rs))) (here (ltb t (recorded_token r)))

-- so those among the greatest are those from the token at that index on
greatest_at : (rs : List Recorded) (m i : ℕ) (d : Recorded) → TokensRise rs → i ≡ length rs - min m (length rs) → i < length rs
    → (j : ℕ) (e : Recorded) → j < length rs → ltb (above (recorded_token (get_or rs j e)) rs) m ≡ leb (recorded_token (get_or rs i d)) (recorded_token (get_or rs j e))
greatest_at rs m i d up is lt j e within =
    let t : ℕ = recorded_token (get_or rs j e) in
    elim (leb_tells (recorded_token (get_or rs i d)) t) [
      | inl y ↦ let few = few_above rs t i d up lt y.1 in less (above t rs) m (omega (arith, few, is)) ∙ sym y.0
      | inr n ↦
          let many = many_above rs t i d up lt n.1 in
          let first : i ≡ 0 → ⊥ = λ z.
          let low = rise_at rs i j d up (omega (arith, z)) within in
          let same = ap recorded_token (get_or_default rs j e d within) in
          omega (arith, low, same, n.1) in
          not_less (above t rs) m (omega (arith, many, is, first)) ∙ sym n.0
    ]

pub among_greatest : (rs : List Recorded) (m i : ℕ) (d : Recorded) → TokensRise rs → i ≡ length rs - min m (length rs) → i < length rs
    → AllByRecursion (λ r. ltb (above (recorded_token r) rs) m ≡ leb (recorded_token (get_or rs i d)) (recorded_token r)) rs
among_greatest rs m i d up is lt = all_from (λ r. ltb (above (recorded_token r) rs) m ≡ leb (recorded_token (get_or rs i d)) (recorded_token r)) rs (greatest_at rs m i d up is lt)

-- ---- the views

pub tokens-views : (rs : List Recorded) → tokens_of (views_of rs) ≡ tokens rs
tokens-views [] = refl
tokens-views (r ∷ rs) = ap (λ ts. recorded_token r ∷ ts) (tokens-views rs)

pub all-views : (P : View → Type 0) (rs : List Recorded) → AllByRecursion (λ r. P r.view) rs → AllByRecursion P (views_of rs)
all-views P [] a = tt
all-views P (r ∷ rs) a = (a.0, all-views P rs a.1)

pub both_alike : (f : ℕ → Bool) (p q : Recorded → Bool) (rs : List Recorded) → AllByRecursion (λ r. p r ≡ q r) rs → AllByRecursion (λ r. (f (recorded_token r) || p r) ≡ (f (recorded_token r) || q r)) rs
both_alike f p q [] a = tt
both_alike f p q (r ∷ rs) a = (ap (λ b. f (recorded_token r) || b) a.0, both_alike f p q rs a.1)

-- a PRUNE keeps the views that are held or have at least the token of this index
pub keeps_from : (rs : List Recorded) (hs : List Hold) (n i : ℕ) (d : Recorded) → TokensRise rs → i ≡ length rs - min (max n 1) (length rs) → i < length rs
    → KeepsFrom (record { views = views_of rs; holds = hs }) n (recorded_token (get_or rs i d))
keeps_from rs hs n i d up is lt =
    let t : ℕ = recorded_token (get_or rs i d) in
    subst (λ ts. AllByRecursion (λ (v : View). stays_pruned (held_in hs) n ts v.token ≡ (held_in hs v.token || leb t v.token)) (views_of rs)) (sym (tokens-views rs))
    (all-views (λ v. stays_pruned (held_in hs) n (tokens rs) v.token ≡ (held_in hs v.token || leb t v.token)) rs
    (both_alike (held_in hs) (λ r. ltb (above (recorded_token r) rs) (max n 1)) (λ r. leb t (recorded_token r)) rs (among_greatest rs (max n 1) i d up is lt)))

holders_alike : (f : ℕ → Bool) (t : ℕ) (rs : List Recorded) → AllByRecursion (λ r. ltb 0 r.holders ≡ f (recorded_token r)) rs → AllByRecursion (λ r. is_kept_from t r ≡ (f (recorded_token r) || leb t (recorded_token r))) rs
holders_alike f t [] a = tt
holders_alike f t (r ∷ rs) a = (ap (λ b. b || leb t (recorded_token r)) a.0, holders_alike f t rs a.1)

-- the views of those that have holders or are from a token on
pub views-kept : (rs : List Recorded) (hs : List Hold) (t : ℕ) → AreCounted rs hs → views_of (filter (is_kept_from t) rs) ≡ filter (λ v. held_in hs v.token || leb t v.token) (views_of rs)
views-kept rs hs t a =
    ap views_of (filter_alike (is_kept_from t) (λ r. held_in hs (recorded_token r) || leb t (recorded_token r)) rs (holders_alike (held_in hs) t rs (held_by_holders rs hs a)))
    ∙ map-filter (λ (r : Recorded). r.view) (λ v. held_in hs v.token || leb t v.token) rs

pub views-dropped : (rs : List Recorded) (hs : List Hold) (t : ℕ) → AreCounted rs hs → views_of (filter (λ r. not (is_kept_from t r)) rs) ≡ filter (λ v. not (held_in hs v.token || leb t v.token)) (views_of rs)
views-dropped rs hs t a =
    ap views_of (filter_alike (λ r. not (is_kept_from t r)) (λ r. not (held_in hs (recorded_token r) || leb t (recorded_token r))) rs (nots rs (holders_alike (held_in hs) t rs (held_by_holders rs hs a))))
    ∙ map-filter (λ (r : Recorded). r.view) (λ v. not (held_in hs v.token || leb t v.token)) rs
  where
    nots : (ss : List Recorded) → AllByRecursion (λ r. is_kept_from t r ≡ (held_in hs (recorded_token r) || leb t (recorded_token r))) ss → AllByRecursion (λ r. not (is_kept_from t r) ≡ not (held_in hs (recorded_token r) || leb t (recorded_token r))) ss
    nots [] b = tt
    nots (s ∷ ss) b = (ap not b.0, nots ss b.1)
