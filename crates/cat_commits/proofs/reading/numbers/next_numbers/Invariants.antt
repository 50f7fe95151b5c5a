use Rattle.std.proofs.Common.{ℕ, ◌≤◌, ◌^◌}
use Rattle.std.specs.Prelude.{◌↔◌}
use Rattle.std.specs.List.{AllWithin}
use Rattle.cat_directory.specs.Names.{name_of}
use Rattle.cat_ledger_laws.specs.model.Ledger.{IsPast}
use Rattle.cat_commits.proofs.reading.numbers.next_numbers.Given as goal

abbrev pub invariant-loop-name : goal.invariant-loop-name
invariant-loop-name l = record {
  least : (m h : ℕ) → 1 ≤ m → 1 ≤ h → (AllWithin (λ q. IsPast m h (name_of q)) l.names 0 l.name-index ↔ ((l.segment ≤ m) × (l.generation ≤ h)));
  some : (1 ≤ l.segment) × (1 ≤ l.generation);
  fit : (l.segment ≤ 2 ^ 63) × (l.generation ≤ 2 ^ 63);
}
