use Rattle.std.proofs.Common.{◌≡◌, ℕ, ◌<◌, ◌≤◌, get_or}
use Rattle.std.specs.Prelude.{MatchOption}
use Rattle.cat_directory.specs.declared.name.FileName.TheVariants as file
use Rattle.cat_commits.proofs.reading.numbers.newest_commit.Given as goal

abbrev pub invariant-loop-name : goal.invariant-loop-name
invariant-loop-name l = MatchOption l.newest
    ((k h : ℕ) → k < l.name-index → get_or l.names k (file.Commit h) ≡ file.Commit h → ⊥)
    (λ g. ((k : ℕ) × (k < l.name-index) × (get_or l.names k (file.Commit g) ≡ file.Commit g))
    × ((k h : ℕ) → k < l.name-index → get_or l.names k (file.Commit h) ≡ file.Commit h → h ≤ g))
