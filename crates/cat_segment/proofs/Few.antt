-- Rows that have as few labels as they may, told by where the labels of each row end.
use Rattle.std.proofs.Common.{◌≡◌, ◌+◌, ◌-◌, ◌<◌, ◌≤◌, ◌↔◌, add-one, ℕ, zero, suc, List, [], ◌∷◌, length, map, get_or, take, drop, refl, sym, ap, subst, arith}
use Rattle.std.specs.Prelude.{All}
use Rattle.std.proofs.lemmas.List.{length-map, get_or-map, length-take-le, length-drop}
use Rattle.std.proofs.lemmas.List.Elements.{All-map}
use Rattle.cat_model.specs.Layout.{pieces, AreEnds}
use Rattle.cat_segment.specs.Sources.{lengths_between, Rise}

-- what holds of each element's image
pub all_of_map : {X Y : Type 0} (P : Y → Type 0) (f : X → Y) (xs : List X) → All P (map f xs) → All (λ x. P (f x)) xs
all_of_map P f xs all k d lt = subst P (get_or-map f xs k d (f d) lt) (all k (f d) (omega (arith, length-map xs f)))

pub ends_rise : (from : ℕ) (ends : List ℕ) (total : ℕ) → AreEnds from ends total → Rise from ends
ends_rise from [] total are = tt
ends_rise from (e ∷ es) total are = (are.0, ends_rise e es total are.1)

ends_within : (from : ℕ) (ends : List ℕ) (total : ℕ) → AreEnds from ends total → from ≤ total
ends_within from [] total are = omega arith
ends_within from (e ∷ es) total are = omega (arith, are.0, ends_within e es total are.1)

-- the pieces are as long as what lies between the ends
pub piece_lengths : {A : Type 0} (from : ℕ) (ends : List ℕ) (xs : List A) → AreEnds from ends (length xs) → map length (pieces from ends xs) ≡ lengths_between from ends
piece_lengths from [] xs are = refl
piece_lengths from (e ∷ es) xs are =
    let long : length (drop from xs) ≡ length xs - from = length-drop from xs in
    let within : e ≤ length xs = ends_within e es (length xs) are.1 in
    let here : length (take (e - from) (drop from xs)) ≡ e - from = length-take-le (e - from) (drop from xs) (omega (arith, long, within)) in
    λ i. here i ∷ piece_lengths e es xs are.1 i

pub few_between : {A : Type 0} (ends : List ℕ) (xs : List A) → AreEnds 0 ends (length xs) → All (λ n. n ≤ 64) (lengths_between 0 ends) ↔ All (λ piece. length piece ≤ 64) (pieces 0 ends xs)
few_between ends xs are = (
  (λ few. all_of_map (λ n. n ≤ 64) length (pieces 0 ends xs) (subst (All (λ n. n ≤ 64)) (sym (piece_lengths 0 ends xs are)) few)),
  (λ few. subst (All (λ n. n ≤ 64)) (piece_lengths 0 ends xs are) (All-map (λ n. n ≤ 64) length (pieces 0 ends xs) few)),
)

-- sets are as long as their ordinals
pub few_mapped : {X Y : Type 0} (f : X → Y) (xss : List (List X)) → All (λ xs. length xs ≤ 64) xss → All (λ ys. length ys ≤ 64) (map (map f) xss)
few_mapped f xss few = All-map (λ ys. length ys ≤ 64) (map f) xss (λ k d lt. omega (arith, length-map (get_or xss k d) f, few k d lt))

pub few_unmapped : {X Y : Type 0} (f : X → Y) (xss : List (List X)) → All (λ ys. length ys ≤ 64) (map (map f) xss) → All (λ xs. length xs ≤ 64) xss
few_unmapped f xss few k d lt = omega (arith, length-map (get_or xss k d) f, all_of_map (λ ys. length ys ≤ 64) (map f) xss few k d lt)

-- where a row's labels begin, and how many there are
pub between_at : (from : ℕ) (ends : List ℕ) (i : ℕ) → Rise from ends → i < length ends
    → (get_or (from ∷ ends) i 0 ≤ get_or ends i 0) × (get_or (lengths_between from ends) i 0 ≡ get_or ends i 0 - get_or (from ∷ ends) i 0)
between_at from [] i rise lt = absurd (omega arith)
between_at from (e ∷ es) zero rise lt = (rise.0, refl)
between_at from (e ∷ es) (suc i) rise lt = between_at e es i rise.1 (omega arith)

pub next_start : (ends : List ℕ) (i : ℕ) → get_or ends i 0 ≡ get_or (0 ∷ ends) (i + 1) 0
next_start ends i = ap (λ k. get_or (0 ∷ ends) k 0) (sym (add-one i))
