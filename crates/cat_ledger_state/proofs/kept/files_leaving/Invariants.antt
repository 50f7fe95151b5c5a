use Rattle.std.proofs.Common.{◌≡◌, map, filter, not, take}
use Rattle.cat_directory.specs.Names.{name_of}
use Rattle.cat_ledger_laws.specs.shape.Shapes.{names_of_commits}
use Rattle.cat_ledger_state.specs.Commits.{stays_with}
use Rattle.cat_ledger_state.proofs.kept.files_leaving.Given as goal

abbrev pub invariant-loop-commit : goal.invariant-loop-commit
invariant-loop-commit l = map name_of l.names.items ≡ names_of_commits (filter (λ c. not (stays_with l.snapshots l.released l.newest c.generation)) (take l.commit-index l.commits))
