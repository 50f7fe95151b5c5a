-- The least of what was offered.
use Rattle.std.specs.Prelude.{◌≡◌, ◌≤◌, ℕ, Bool, false, List, [], ◌∷◌, length, take}
use Rattle.std.specs.List.{AllByRecursion}
use Rattle.std.specs.declared.cmp.Ordering.{Ordering}
use Rattle.std.specs.Ordering.{is_lt}
use Rattle.cat_model.specs.Ranks.{sorted}

-- the one comes before the other, by a comparison
abbrev pub less : {X : Type 0} → (X → X → Ordering) → X → X → Bool
less cmp x y = is_lt (cmp x y)

-- no item comes before one that stands in front of it
abbrev pub InOrder : {X : Type 0} → (X → X → Bool) → List X → Type 0
InOrder lt [] = Unit {0}
InOrder lt (x ∷ xs) = AllByRecursion (λ y. lt y x ≡ false) xs × InOrder lt xs

-- the items that are gathered, how many of them are wanted, and how many at the front are known to be in order
pub record BestItems (X : Type 0) : Type 0 where
  pub limit : ℕ
  pub items : List X
  pub ready : ℕ

-- of those gathered the first that are wanted are the first of what was offered, each put in order
pub record IsBestOf {X : Type 0} (lt : X → X → Bool) (kept : BestItems X) (offered : List X) : Type 0 where
  pub first : take kept.limit (sorted lt kept.items) ≡ take kept.limit (sorted lt offered)
  pub ready : kept.ready ≤ length kept.items
  pub front : InOrder lt (take kept.ready kept.items)
