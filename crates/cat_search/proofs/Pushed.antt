-- The element at the end of a list.
use Rattle.std.proofs.Common.{◌≡◌, ℕ, ◌-◌, List, [], ◌∷◌, ◌++◌, length, get_or, set, ◌∙◌, ap, arith}
use Rattle.std.proofs.lemmas.List.{length-append}
use Rattle.std.proofs.Math.Seq.{set-append_seam, get_or-append_seam}

last_place : {X : Type 0} (xs ys : List X) (x : X) (n : ℕ) → ys ≡ xs ++ x ∷ [] → n ≡ length ys → n - 1 ≡ length xs
last_place xs ys x n e l = omega (arith, l, ap length e, length-append xs (x ∷ []))

-- what was put there stands there
pub last_at : {X : Type 0} (xs ys : List X) (x d : X) (n : ℕ) → ys ≡ xs ++ x ∷ [] → n ≡ length ys → get_or ys (n - 1) d ≡ x
last_at xs ys x d n e l = ap (λ i. get_or ys i d) (last_place xs ys x n e l) ∙ ap (λ zs. get_or zs (length xs) d) e ∙ get_or-append_seam xs x [] d

-- another takes its place
pub last_set : {X : Type 0} (xs ys : List X) (x y : X) (n : ℕ) → ys ≡ xs ++ x ∷ [] → n ≡ length ys → set ys (n - 1) y ≡ xs ++ y ∷ []
last_set xs ys x y n e l = ap (λ i. set ys i y) (last_place xs ys x n e l) ∙ ap (λ zs. set zs (length xs) y) e ∙ set-append_seam xs x [] y
