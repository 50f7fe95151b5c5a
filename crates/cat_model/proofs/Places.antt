-- Facts of pairs of places, by recursion on the list.
use Rattle.std.proofs.Common.{◌≡◌, suc, List, [], ◌∷◌, Bool, true, AllPairs, arith}
use Rattle.std.specs.List.{AllByRecursion}
use Rattle.std.proofs.lemmas.List.Elements.{All-from_recursion, recursion_from_All}
use Rattle.std.proofs.lemmas.List.Kept.{AllPairs-cons}
use Rattle.cat_model.specs.Ranks.{AreApart}

-- each element has the fact with all that stand behind it
abbrev pub EachPair : {X : Type 0} → (X → X → Type 0) → List X → Type 0
EachPair R [] = Unit {0}
EachPair R (x ∷ xs) = AllByRecursion (R x) xs × EachPair R xs

-- of any two elements one comes before the other
abbrev pub AllApart : {X : Type 0} → (X → X → Bool) → List X → Type 0
AllApart lt xs = EachPair (AreApart lt) xs

-- each element comes before all that stand behind it
abbrev pub Rises : {X : Type 0} → (X → X → Bool) → List X → Type 0
Rises lt xs = EachPair (λ x y. lt x y ≡ true) xs

-- the pairs that `AllPairs` tells by their places are those that recursion on the list tells

pub each_pair : {X : Type 0} (R : X → X → Type 0) (xs : List X) → AllPairs R xs → EachPair R xs
each_pair R [] h = tt
each_pair R (x ∷ xs) h =
    (recursion_from_All (R x) xs (λ k d l. h 0 (suc k) d (omega arith) (omega arith)), each_pair R xs (λ i j d p q. h (suc i) (suc j) d (omega arith) (omega arith)))

pub all_pairs : {X : Type 0} (R : X → X → Type 0) (xs : List X) → EachPair R xs → AllPairs R xs
all_pairs R [] h = λ i j d p q. absurd (omega arith)
all_pairs R (x ∷ xs) h = AllPairs-cons R x xs (All-from_recursion (R x) xs h.0) (all_pairs R xs h.1)
