-- What is found in a list of keys with values.
use Rattle.std.proofs.Common.{◌≡◌, Bool, true, false, List, [], ◌∷◌, Some, refl, subst}
use Rattle.std.specs.Prelude.{All}
use Rattle.std.specs.Map.{lookup, lookup_entry}
use Rattle.std.proofs.lemmas.List.Elements.{All-head, All-tail}

module _ {K X : Type 0} (t : K → Bool) where
  pub entry_passes : (es : List (K × X)) (e : K × X) → lookup_entry t es ≡ Some e → t e.0 ≡ true
  entry_passes [] e h = absurd cc
  entry_passes (f ∷ es) e h = (elim (t f.0) as (λ b. t f.0 ≡ b → t e.0 ≡ true) [
    | true ↦ λ y. let h' = rw y at h in let same : f ≡ e = cc in subst (λ (g : K × X). t g.0 ≡ true) same y
    | false ↦ λ y. entry_passes es e (rw y at h)
  ]) refl

module _ {K X : Type 0} (P : K × X → Type 0) (t : K → Bool) where
  pub All-entry : (es : List (K × X)) (e : K × X) → lookup_entry t es ≡ Some e → All P es → P e
  All-entry [] e h all = absurd cc
  All-entry (f ∷ es) e h all = (elim (t f.0) as (λ b. t f.0 ≡ b → P e) [
    | true ↦ λ y. let h' = rw y at h in let same : f ≡ e = cc in subst P same (All-head P f es all)
    | false ↦ λ y. All-entry es e (rw y at h) (All-tail P f es all)
  ]) refl

  pub All-lookup : (es : List (K × X)) (v : X) → lookup t es ≡ Some v → All P es → (k : K) × P (k, v) × (t k ≡ true)
  All-lookup [] v h all = absurd cc
  All-lookup (f ∷ es) v h all = (elim (t f.0) as (λ b. t f.0 ≡ b → (k : K) × P (k, v) × (t k ≡ true)) [
    | true ↦ λ y. let h' = rw y at h in let same : f.1 ≡ v = cc in (f.0, subst (λ (x : X). P (f.0, x)) same (All-head P f es all), y)
    | false ↦ λ y. All-lookup es v (rw y at h) (All-tail P f es all)
  ]) refl
