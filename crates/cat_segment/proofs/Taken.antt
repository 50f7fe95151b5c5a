-- The next of a list of what keeps a rule, and those that are left.
use Rattle.std.proofs.Common.{◌≡◌, List, ◌++◌, Option, Some, None, IfSome, option_to_list, subst}
use Rattle.std.specs.Prelude.{All}
use Rattle.std.proofs.lemmas.List.Elements.{All-head, All-tail}

module _ {X : Type 0} (P : X → Type 0) where
  pub next_is : (next : Option X) (old new : List X) → All P old → old ≡ option_to_list next ++ new → IfSome next P
  next_is None old new all e = tt
  next_is (Some x) old new all e = All-head P x new (subst (All P) e all)

  pub left_are : (next : Option X) (old new : List X) → All P old → old ≡ option_to_list next ++ new → All P new
  left_are None old new all e = subst (All P) e all
  left_are (Some x) old new all e = All-tail P x new (subst (All P) e all)
