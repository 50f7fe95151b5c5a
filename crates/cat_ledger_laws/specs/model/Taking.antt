-- Which numbers a call gives out: none twice.
use Rattle.std.specs.Prelude.{◌≡◌, ◌⊎◌, ◌≤◌, Some}
use Rattle.cat_model.specs.Run.{Line, Reply}
use Rattle.cat_ledger_laws.specs.model.Ledger.{Ledger}
use Rattle.cat_ledger_laws.specs.model.Plans.{MergePolicy}
use Rattle.cat_ledger_laws.specs.model.Portions.{Merging}
use Rattle.cat_ledger_laws.specs.model.Replies.{Calls}

-- numbers rise, and a merge in the making has the number of the one that there was, or one that wasn't given out yet
pub record TakesOn (l new : Ledger) : Type 0 where
  pub segments : l.next_segment ≤ new.next_segment
  pub generations : l.next_generation ≤ new.next_generation
  pub merging : (m : Merging) → new.merging ≡ Some m → ((n : Merging) × (l.merging ≡ Some n) × (m.number ≡ n.number)) ⊎ (l.next_segment ≤ m.number)

-- so does each of the ledger's calls for a line
abbrev pub CallsTakeOn : Type 0
CallsTakeOn = (policy : MergePolicy) (l new : Ledger) (line : Line) (r : Reply) → Calls policy l line r new → TakesOn l new
