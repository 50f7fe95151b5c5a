use Rattle.std.proofs.Common.{◌≡◌, ◌∷◌, ◌++◌, [], Some, filter, sym, subst}
use Rattle.std.specs.Prelude.{OnOk}
use Rattle.cat_model.specs.CommitFile.{CommitFile}
use Rattle.cat_model.specs.State.{stays_kept}
use Rattle.cat_ledger_state.proofs.commits.conclude.Goals as goal

pub returns-in-Ok-clause-kept : goal.returns-in-Ok-clause-kept
returns-in-Ok-clause-kept c =
    let kept = subst (λ (d : CommitFile). c.keep.new.commits.items ≡ filter (λ (x : CommitFile). stays_kept c.args.snapshots.now (Some d.generation) x.generation) c.args.commits.now.items ++ d ∷ [])
    c.into_parts-commit.ensures.parts.0 c.keep.ensures in
    subst (λ r. OnOk r (c.keep.new.commits.items
    ≡ filter (λ (x : CommitFile). stays_kept c.args.snapshots.now (Some c.args.ready.draft.commit.generation) x.generation) c.args.commits.now.items ++ c.args.ready.draft.commit ∷ []))
    (sym c.in-Ok.is) kept
