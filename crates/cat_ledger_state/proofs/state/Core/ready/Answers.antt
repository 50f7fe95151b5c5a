use Rattle.std.proofs.Common.{◌≡◌, ◌∙◌, List, Some, map, filter, not, ap, subst}
use Rattle.cat_model.specs.CommitFile.{CommitFile}
use Rattle.cat_model.specs.State.{stays_kept}
use Rattle.cat_directory.specs.Names.{name_of}
use Rattle.cat_ledger_laws.specs.shape.Shapes.{names_of_commits}
use Rattle.cat_ledger_state.specs.Commits.{names_given}
use Rattle.cat_ledger_state.proofs.state.Core.ready.Goals as goal

pub returns-clause-given : goal.returns-clause-given
returns-clause-given c =
    subst (λ s. map name_of c.in_ok-given.given.items ≡ names_given s) c.self.view_is (c.in_ok-given.ensures
    ∙ ap (λ (cs : List CommitFile). names_of_commits (filter (λ (d : CommitFile). not (stays_kept c.self.inside.snapshots (Some c.self.inside.next_generation) d.generation)) cs))
    c.deref.ensures.value)
