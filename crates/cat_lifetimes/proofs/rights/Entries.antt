-- What the entries of a map of rights show.
use Rattle.std.proofs.Common.{◌≡◌, ℕ, zero, suc, ◌-◌, List, [], ◌∷◌, ◌++◌, length, get_or, take, set, Bool, true, false, cond, ◌&&◌, Option, Some, None, refl, sym, ◌∙◌, ap, arith, inl, inr}
use Rattle.std.specs.Prelude.{◌==◌, AllPairs, All}
use Rattle.std.specs.List.{position, swap_remove, AllByRecursion, IsDistinct}
use Rattle.std.specs.Map.{keys_of, values_of, lookup}
use Rattle.std.specs.Option.{option_map_or, option_or}
use Rattle.std.proofs.lemmas.Bool.Decides.{nat_tests, eqb_tells}
use Rattle.std.proofs.lemmas.List.Folds.{find-append}
use Rattle.std.proofs.lemmas.List.Elements.{All-nil, All-cons}
use Rattle.std.proofs.lemmas.List.Kept.{AllPairs-cons}
use Rattle.cat_model.specs.State as state
use Rattle.cat_views.specs.Holds.{HeldView}
use Rattle.cat_lifetimes.specs.rights.Rights.{AreRightsApart, AreRightsKeyed, is_of, hold_of_right, right_of}
use Rattle.indexmap.specs.IndexMap.{swap_remove_entry}

-- ---- keys

-- equality of keys, as the map has it
abbrev pub same_as : state.Hold → state.Hold → Bool
same_as k l = (k.session == l.session) && (k.token == l.token)

abbrev pub key : ℕ → ℕ → state.Hold
key s t = record { session = s; token = t }

equal_either : (a b : ℕ) → (a == b) ≡ (b == a)
equal_either a b = grind (arith, nat_tests)

itself : (a : ℕ) → (a == a) ≡ true
itself a = grind (arith, nat_tests)

both_true : (a b : Bool) → (a && b) ≡ true → (a ≡ true) × (b ≡ true)
both_true true b e = (refl, e)
both_true false b e = absurd (let no : false ≡ true = e in cc)

equal_at : (a b : ℕ) → (a == b) ≡ true → a ≡ b
equal_at a b e = elim (eqb_tells a b) [ inl y ↦ y.1 | inr n ↦ absurd (let no : true ≡ false = sym e ∙ n.0 in cc) ]

-- a key finds the right that stands under it
pub same_is_of : (s t : ℕ) (h : HeldView) → same_as (key s t) (hold_of_right h) ≡ is_of s t h
same_is_of s t h = λ i. equal_either s h.session i && equal_either t h.view.token i

pub is_own : (h : HeldView) → is_of h.session h.view.token h ≡ true
is_own h = λ i. itself h.session i && itself h.view.token i

-- ---- what is found

-- by its key a right is found in the map as in the list
pub shown : (es : List (state.Hold × HeldView)) → AreRightsKeyed es → (s t : ℕ) → lookup (same_as (key s t)) es ≡ right_of (values_of es) s t
shown [] k s t = refl
shown (e ∷ es) k s t =
    let here : same_as (key s t) e.0 ≡ is_of s t e.1 = ap (same_as (key s t)) k.0 ∙ same_is_of s t e.1 in
    let rest = shown es k.1 s t in
    λ i. cond (here i) (Some e.1) (rest i)

pub none_is_own : (rs : List HeldView) (h : HeldView) (s t : ℕ) → is_of s t h ≡ true → right_of rs h.session h.view.token ≡ None → right_of rs s t ≡ None
none_is_own rs h s t is none =
    let parts = both_true (h.session == s) (h.view.token == t) is in
    (λ i. right_of rs (sym (equal_at h.session s parts.0) i) (sym (equal_at h.view.token t parts.1) i)) ∙ none

-- a right that goes last is found by its own key, and all others as before
pub found_last : (rs : List HeldView) (h : HeldView) → right_of rs h.session h.view.token ≡ None → (s t : ℕ) → right_of (rs ++ h ∷ []) s t ≡ cond (is_of s t h) (Some h) (right_of rs s t)
found_last rs h none s t = find-append (is_of s t) rs (h ∷ []) ∙ by (is_of s t h) refl
  where
    last : (r : Option HeldView) → option_or r None ≡ r
    last None = refl
    last (Some x) = refl

    by : (b : Bool) → is_of s t h ≡ b → option_or (right_of rs s t) (cond b (Some h) None) ≡ cond b (Some h) (right_of rs s t)
    by true is = ap (λ (r : Option HeldView). option_or r (Some h)) (none_is_own rs h s t is none)
    by false is = last (right_of rs s t)

-- so the map has none where the list has none
pub absent : (es : List (state.Hold × HeldView)) (k : state.Hold) (h : HeldView) → AreRightsKeyed es → k ≡ hold_of_right h → right_of (values_of es) h.session h.view.token ≡ None → lookup (same_as k) es ≡ None
absent es k h a is none = ap (λ (l : state.Hold). lookup (same_as l) es) is ∙ shown es a h.session h.view.token ∙ none

-- ---- entries that stand under their keys

pub values-push : (es : List (state.Hold × HeldView)) (k : state.Hold) (h : HeldView) → values_of (es ++ (k, h) ∷ []) ≡ values_of es ++ h ∷ []
values-push [] k h = refl
values-push (e ∷ es) k h = ap (λ rs. e.1 ∷ rs) (values-push es k h)

pub keyed-push : (es : List (state.Hold × HeldView)) (k : state.Hold) (h : HeldView) → AreRightsKeyed es → k ≡ hold_of_right h → AreRightsKeyed (es ++ (k, h) ∷ [])
keyed-push [] k h a is = (is, tt)
keyed-push (e ∷ es) k h a is = (a.0, keyed-push es k h a.1 is)

pub keyed-front : (es : List (state.Hold × HeldView)) (k : state.Hold) (h : HeldView) → AreRightsKeyed (es ++ (k, h) ∷ []) → AreRightsKeyed es × (k ≡ hold_of_right h)
keyed-front [] k h a = (tt, a.0)
keyed-front (e ∷ es) k h a = let rest = keyed-front es k h a.1 in ((a.0, rest.0), rest.1)

-- ---- an entry less

module _ {X : Type 0} (P : X → Type 0) where
  all_at : (xs : List X) (i : ℕ) (d : X) → P d → AllByRecursion P xs → P (get_or xs i d)
  all_at [] i d p a = p
  all_at (x ∷ xs) zero d p a = a.0
  all_at (x ∷ xs) (suc i) d p a = all_at xs i d p a.1

  all_set : (xs : List X) (i : ℕ) (x : X) → P x → AllByRecursion P xs → AllByRecursion P (set xs i x)
  all_set [] i x p a = tt
  all_set (y ∷ ys) zero x p a = (p, a.1)
  all_set (y ∷ ys) (suc i) x p a = (a.0, all_set ys i x p a.1)

  all_taken : (n : ℕ) (xs : List X) → AllByRecursion P xs → AllByRecursion P (take n xs)
  all_taken zero xs a = tt
  all_taken (suc n) [] a = tt
  all_taken (suc n) (x ∷ xs) a = (a.0, all_taken n xs a.1)

abbrev Stands : state.Hold × HeldView → Type 0
Stands e = e.0 ≡ hold_of_right e.1

pub keyed-removed : (test : state.Hold → Bool) (es : List (state.Hold × HeldView)) → AreRightsKeyed es → AreRightsKeyed (swap_remove_entry test es)
keyed-removed test [] a = tt
keyed-removed test (e ∷ es) a = by (position test (keys_of (e ∷ es)))
  where
    by : (found : Option ℕ) → AreRightsKeyed (option_map_or (λ i. swap_remove (e ∷ es) i e) found (e ∷ es))
    by None = a
    by (Some i) =
        let last = all_at Stands (e ∷ es) (length (e ∷ es) - 1) e a.0 a in
        all_taken Stands (length (e ∷ es) - 1) (set (e ∷ es) i (get_or (e ∷ es) (length (e ∷ es) - 1) e)) (all_set Stands (e ∷ es) i (get_or (e ∷ es) (length (e ∷ es) - 1) e) last a)

-- ---- keys that differ

apart_from : (h : HeldView) (k : state.Hold) (es : List (state.Hold × HeldView)) → k ≡ hold_of_right h → AreRightsKeyed es → AllByRecursion (λ l. same_as k l ≡ false) (keys_of es)
    → AllByRecursion (λ g. is_of h.session h.view.token g ≡ false) (values_of es)
apart_from h k [] is a d = tt
apart_from h k (e ∷ es) is a d =
    let here : is_of h.session h.view.token e.1 ≡ false = sym (same_is_of h.session h.view.token e.1) ∙ (λ i. same_as (sym is i) (sym a.0 i)) ∙ d.0 in
    (here, apart_from h k es is a.1 d.1)

module _ {X : Type 0} where
  all_of : (P : X → Type 0) (xs : List X) → AllByRecursion P xs → All P xs
  all_of P [] a = All-nil P
  all_of P (x ∷ xs) a = All-cons P x xs a.0 (all_of P xs a.1)

  no_pairs : (R : X → X → Type 0) → AllPairs R []
  no_pairs R i j d lt below = absurd (omega (arith, below))

pub apart : (es : List (state.Hold × HeldView)) → AreRightsKeyed es → IsDistinct same_as (keys_of es) → AreRightsApart (values_of es)
unfolding IsDistinct
apart [] a d = no_pairs (λ g h. is_of g.session g.view.token h ≡ false)
apart (e ∷ es) a d =
    let first = all_of (λ h. is_of e.1.session e.1.view.token h ≡ false) (values_of es) (apart_from e.1 e.0 es a.0 a.1 d.0) in
    AllPairs-cons (λ g h. is_of g.session g.view.token h ≡ false) e.1 (values_of es) first (apart es a.1 d.1)
