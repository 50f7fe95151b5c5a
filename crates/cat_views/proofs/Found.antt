-- What is found in a list, and the order of numbers.
use Rattle.std.proofs.Common.{◌≡◌, ℕ, ◌<◌, ◌≤◌, ◌⊎◌, nat_lt, inl, inr, arith, List, [], ◌∷◌, Bool, true, false, cond, Some, is_some, find, ◌||◌, refl}
use Rattle.std.specs.List.{list_any}
use Rattle.std.proofs.lemmas.Bool.Decides.{nat_tests}
use Rattle.cat_model.proofs.Insert.{which}

pub any-is_some : {X : Type 0} (p : X → Bool) (xs : List X) → list_any p xs ≡ is_some (find p xs)
any-is_some p [] = refl
any-is_some p (x ∷ xs) =
    elim (p x) as (λ b. (b || list_any p xs) ≡ is_some (cond b (Some x) (find p xs))) [
      | true ↦ refl
      | false ↦ any-is_some p xs
    ]

pub before_or_at : (i j : ℕ) → i ≤ j → (i < j) ⊎ (i ≡ j)
before_or_at i j h = elim (which (nat_lt i j)) [
  | inl e ↦ inl (grind (arith, nat_tests))
  | inr e ↦ inr (grind (arith, nat_tests))
]
