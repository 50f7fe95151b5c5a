-- Counts of snapshots by their entries.
use Rattle.std.proofs.Common.{◌≡◌, ℕ, ◌+◌, ◌-◌, List, [], ◌∷◌, map, Bool, true, false, cond, nat_eq, Option, Some, None, refl, sym, ap, ◌∙◌, arith, inl, inr}
use Rattle.std.specs.Prelude.{◌==◌, unwrap_or}
use Rattle.std.specs.Map.{lookup}
use Rattle.std.proofs.lemmas.Bool.{eqb-true, eq-eqb, ne_eqb, cases_eq}
use Rattle.cat_model.specs.State.{snapshots_in}
use Rattle.cat_commits.specs.Counts.{taken_in}

pub eqb_flips : (a b : ℕ) → (a == b) ≡ (b == a)
eqb_flips a b = elim (cases_eq a b) [ inl e ↦ eq-eqb a b e ∙ sym (eq-eqb b a (sym e)) | inr n ↦ ne_eqb a b n ∙ sym (ne_eqb b a (λ e. n (sym e))) ]

pub counted_in : (g : ℕ) (es : List (ℕ × ℕ)) → snapshots_in (map taken_in es) g ≡ unwrap_or (lookup (nat_eq g) es) 0
counted_in g [] = refl
counted_in g (e ∷ es) = rw (eqb_flips e.0 g) (by (g == e.0) (counted_in g es))
  where
    by : (b : Bool) → snapshots_in (map taken_in es) g ≡ unwrap_or (lookup (nat_eq g) es) 0 → cond b e.1 (snapshots_in (map taken_in es) g) ≡ unwrap_or (cond b (Some e.1) (lookup (nat_eq g) es)) 0
    by true i = refl
    by false i = i

-- where the entries fs have something at g, and elsewhere what es have
pub put_counts : (es fs : List (ℕ × ℕ)) (g n : ℕ) → ((q : ℕ) → lookup (nat_eq q) fs ≡ cond (nat_eq g q) (Some n) (lookup (nat_eq q) es)) → (h : ℕ)
    → snapshots_in (map taken_in fs) h ≡ cond (h == g) n (snapshots_in (map taken_in es) h)
put_counts es fs g n puts h = counted_in h fs ∙ ap (λ o. unwrap_or o 0) (puts h) ∙ (rw (eqb_flips g h, counted_in h es) (by (h == g) (lookup (nat_eq h) es)))
  where
    by : (b : Bool) (o : Option ℕ) → unwrap_or (cond b (Some n) o) 0 ≡ cond b n (unwrap_or o 0)
    by true o = refl
    by false o = refl

-- where they have nothing there
pub drop_counts : (es fs : List (ℕ × ℕ)) (g : ℕ) → ((q : ℕ) → lookup (nat_eq q) fs ≡ cond (nat_eq g q) None (lookup (nat_eq q) es)) → (h : ℕ)
    → snapshots_in (map taken_in fs) h ≡ cond (h == g) 0 (snapshots_in (map taken_in es) h)
drop_counts es fs g drops h = counted_in h fs ∙ ap (λ o. unwrap_or o 0) (drops h) ∙ (rw (eqb_flips g h, counted_in h es) (by (h == g) (lookup (nat_eq h) es)))
  where
    by : (b : Bool) (o : Option ℕ) → unwrap_or (cond b None o) 0 ≡ cond b 0 (unwrap_or o 0)
    by true o = refl
    by false o = refl

pub one_more : (s : ℕ → ℕ) (g h : ℕ) → cond (h == g) (s g + 1) (s h) ≡ s h + cond (h == g) 1 0
one_more s g h = by (h == g) refl
  where
    by : (b : Bool) → (h == g) ≡ b → cond b (s g + 1) (s h) ≡ s h + cond b 1 0
    by true e = ap (λ n. s n + 1) (sym (eqb-true h g e))
    by false e = omega arith

pub one_less : (s : ℕ → ℕ) (g h : ℕ) → cond (h == g) (s g - 1) (s h) ≡ s h - cond (h == g) 1 0
one_less s g h = by (h == g) refl
  where
    by : (b : Bool) → (h == g) ≡ b → cond b (s g - 1) (s h) ≡ s h - cond b 1 0
    by true e = ap (λ n. s n - 1) (sym (eqb-true h g e))
    by false e = omega arith

pub twice : (b : Bool) (n m : ℕ) → cond b 0 (cond b n m) ≡ cond b 0 m
twice true n m = refl
twice false n m = refl
