-- Orders by a test "comes before", and lists put in such an order. Nothing to believe: the laws of ranks tie them to pages,
-- and they serve the proofs of what ranks.
use Rattle.std.specs.Prelude.{◌≡◌, ◌⊎◌, Bool, true, false, cond, List, [], ◌∷◌}

-- nothing comes before itself, and what comes before an element comes before all that this one comes before
pub record IsStrictOrder {X : Type 0} (lt : X → X → Bool) : Type 0 where
  pub irreflexive : (x : X) → lt x x ≡ false
  pub transitive : (x y z : X) → lt x y ≡ true → lt y z ≡ true → lt x z ≡ true

-- one of the two comes before the other
abbrev pub AreApart : {X : Type 0} → (X → X → Bool) → X → X → Type 0
AreApart lt x y = (lt x y ≡ true) ⊎ (lt y x ≡ true)

-- x stands in front of the first element that it comes before
abbrev pub insert_by : {X : Type 0} → (X → X → Bool) → X → List X → List X
insert_by lt x [] = x ∷ []
insert_by lt x (y ∷ ys) = cond (lt x y) (x ∷ y ∷ ys) (y ∷ insert_by lt x ys)

-- the elements of the second list are put into the first one after another
abbrev pub insert_all : {X : Type 0} → (X → X → Bool) → List X → List X → List X
insert_all lt ys [] = ys
insert_all lt ys (x ∷ xs) = insert_all lt (insert_by lt x ys) xs

-- the list in order; elements that tie stay as they stand
abbrev pub sorted : {X : Type 0} → (X → X → Bool) → List X → List X
sorted lt xs = insert_all lt [] xs
