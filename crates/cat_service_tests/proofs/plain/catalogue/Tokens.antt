-- Tokens of views, one more at a time.
use Rattle.std.proofs.Common.{◌≡◌, ℕ, ◌+◌, ◌≤◌, ◌<◌, min, max, List, [], ◌∷◌, ◌++◌, length, take, get_or, Bool, true, false, ◌&&◌, ◌||◌, Option, Some, None, refl, sym, ◌∙◌, ap, subst, arith, inl, inr}
use Rattle.std.specs.Prelude.{◌==◌, ◌⊎◌}
use Rattle.std.specs.List.{list_all, AllByRecursion}
use Rattle.std.proofs.lemmas.List.{take_more}
use Rattle.std.proofs.lemmas.List.Recursion.{max_push}
use Rattle.std.proofs.lemmas.Bool.Decides.{nat_tests, leb_tells}
use Rattle.cat_model.specs.Run.{greatest}
use Rattle.cat_model.specs.State.{RecordedTable, tokens, has_view}
use Rattle.cat_service_tests.specs.plain.Tables.{IsLeastFree, lesser_of}

pub greatest_more : (vs : List RecordedTable) (i : ℕ) (d : RecordedTable) → i < length vs → greatest (tokens (take (i + 1) vs)) ≡ max (greatest (tokens (take i vs))) (get_or vs i d).token
greatest_more vs i d h = ap (λ us. greatest (tokens us)) (take_more vs i d h) ∙ max_push (λ us. greatest (tokens us)) (λ v. v.token) refl (λ _ _. refl) (take i vs) (get_or vs i d)

both_true : (a b : Bool) → (a && b) ≡ true → (a ≡ true) × (b ≡ true)
both_true true b h = (refl, h)
both_true false b h = absurd (cc)

has-push : (vs : List RecordedTable) (v : RecordedTable) (t : ℕ) → has_view (vs ++ v ∷ []) t ≡ (has_view vs t || (v.token == t))
has-push [] v t = grind (arith, nat_tests)
has-push (u ∷ vs) v t = let h = has-push vs v t in grind (arith, nat_tests)

list_all-push : (held : ℕ → Bool) (vs : List RecordedTable) (v : RecordedTable) → list_all held (tokens (vs ++ v ∷ [])) ≡ (list_all held (tokens vs) && held v.token)
list_all-push held [] v = grind (arith, nat_tests)
list_all-push held (u ∷ vs) v = let h = list_all-push held vs v in grind (arith, nat_tests)

All-push_view : (P : RecordedTable → Type 0) (vs : List RecordedTable) (v : RecordedTable) → AllByRecursion P vs → P v → AllByRecursion P (vs ++ v ∷ [])
All-push_view P [] v a p = (p, tt)
All-push_view P (u ∷ vs) v a p = (a.0, All-push_view P vs v a.1 p)

-- a view that is held changes nothing
pub IsLeastFree-held : (held : ℕ → Bool) (vs : List RecordedTable) (v : RecordedTable) (o : Option ℕ) → IsLeastFree held vs o → held v.token ≡ true → IsLeastFree held (vs ++ v ∷ []) o
IsLeastFree-held held vs v None a h = rw (list_all-push held vs v, a, h) refl
IsLeastFree-held held vs v (Some t) a h =
    (rw (has-push vs v t, a.0) refl, a.1, All-push_view (λ u. held u.token ≡ false → t ≤ u.token) vs v a.2 (λ f. absurd (let e : true ≡ false = sym h ∙ f in cc)))

least_is : (t u : ℕ) → (min t u ≡ t) ⊎ (min t u ≡ u)
least_is t u = elim (leb_tells t u) [ inl h ↦ inl (omega (arith, h.1)) | inr h ↦ inr (omega (arith, h.1)) ]

-- where all are held none is free
all_held : (held : ℕ → Bool) (n : ℕ) (vs : List RecordedTable) → list_all held (tokens vs) ≡ true → AllByRecursion (λ u. held u.token ≡ false → n ≤ u.token) vs
all_held held n [] a = tt
all_held held n (u ∷ vs) a =
    let both : (held u.token ≡ true) × (list_all held (tokens vs) ≡ true) = both_true _ _ a in
    ((λ f. absurd (let e : true ≡ false = sym both.0 ∙ f in cc)), all_held held n vs both.1)

weaker : (held : ℕ → Bool) (m n : ℕ) (vs : List RecordedTable) → m ≤ n → AllByRecursion (λ u. held u.token ≡ false → n ≤ u.token) vs → AllByRecursion (λ u. held u.token ≡ false → m ≤ u.token) vs
weaker held m n [] h a = tt
weaker held m n (u ∷ vs) h a = ((λ f. let k : n ≤ u.token = a.0 f in omega arith), weaker held m n vs h a.1)

-- a free view is the least free one, or the one before stays it
pub IsLeastFree-free : (held : ℕ → Bool) (vs : List RecordedTable) (v : RecordedTable) (o : Option ℕ) → IsLeastFree held vs o → held v.token ≡ false → IsLeastFree held (vs ++ v ∷ []) (lesser_of o v.token)
IsLeastFree-free held vs v None a h =
    (rw (has-push vs v v.token) (grind (arith, nat_tests)), h, All-push_view (λ u. held u.token ≡ false → v.token ≤ u.token) vs v (all_held held v.token vs a) (λ f. omega arith))
IsLeastFree-free held vs v (Some t) a h =
    let n : ℕ = min t v.token in
    let at : (has_view (vs ++ v ∷ []) n ≡ true) × (held n ≡ false) = elim (least_is t v.token) [
      | inl e ↦ (rw (has-push vs v n, e, a.0) refl, rw e a.1)
      | inr e ↦ (rw (has-push vs v n, e) (grind (arith, nat_tests)), rw e h)
    ] in
    (at.0, at.1, All-push_view (λ u. held u.token ≡ false → n ≤ u.token) vs v (weaker held n t vs (omega arith) a.2) (λ f. omega arith))

module _ (held : ℕ → Bool) (vs : List RecordedTable) (i : ℕ) (d : RecordedTable) (lt : i < length vs) where
  pub IsLeastFree_more-held : (o : Option ℕ) → IsLeastFree held (take i vs) o → held (get_or vs i d).token ≡ true → IsLeastFree held (take (i + 1) vs) o
  IsLeastFree_more-held o a h = subst (λ us. IsLeastFree held us o) (sym (take_more vs i d lt)) (IsLeastFree-held held (take i vs) (get_or vs i d) o a h)

  pub IsLeastFree_more-free : (o : Option ℕ) → IsLeastFree held (take i vs) o → held (get_or vs i d).token ≡ false → IsLeastFree held (take (i + 1) vs) (lesser_of o (get_or vs i d).token)
  IsLeastFree_more-free o a h = subst (λ us. IsLeastFree held us (lesser_of o (get_or vs i d).token)) (sym (take_more vs i d lt)) (IsLeastFree-free held (take i vs) (get_or vs i d) o a h)
