use Rattle.std.proofs.Common.{◌++◌, [], ◌∷◌, Bool, filter, not, ◌∙◌, ap, arith}
use Rattle.std.proofs.lemmas.Grind.{elements}
use Rattle.cat_model.specs.CommitFile.{CommitFile}
use Rattle.cat_ledger_laws.specs.shape.Shapes.{names_of_commits}
use Rattle.cat_ledger_state.specs.Commits.{stays_with}
use Rattle.cat_ledger_state.proofs.Leaving.{leaving_more}
use Rattle.cat_ledger_state.proofs.kept.files_leaving.Goals as goal

pub loop-commit-preserved : goal.loop-commit-preserved
loop-commit-preserved c =
    let goes : CommitFile → Bool = λ d. not (stays_with c.args.snapshots.now c.args.released c.args.newest d.generation) in
    c.in_ok-add_leaving.ensures
    ∙ ap (λ l. l ++ names_of_commits (filter goes (c.commit-item.result ∷ []))) c.loop-commit.invariant
    ∙ leaving_more goes c.args.commits.now c.loop-commit.commit-index c.commit-item.result c.loop-commit-test.true c.commit-item.is

pub returns : goal.returns
returns c = grind (arith, elements)
