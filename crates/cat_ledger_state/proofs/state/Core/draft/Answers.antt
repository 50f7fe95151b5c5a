use Rattle.std.proofs.Common.{◌≤◌, ◌∙◌, sym, ap, subst}
use Rattle.cat_model.specs.CommitFile.{IsCommitFile}
use Rattle.cat_model.specs.Limits.{last_number}
use Rattle.cat_ledger_laws.specs.shape.Steps.{commit_file_now}
use Rattle.cat_ledger_laws.proofs.shape.Committed.{commits_may_be_said}
use Rattle.cat_ledger_laws.proofs.shape.Listed.{listed_differ}
use Rattle.cat_ledger_state.specs.Commits.{draft_now}
use Rattle.cat_ledger_state.specs.Cores.{shape_of_core}
use Rattle.cat_ledger_state.proofs.Committing.{draft_is, may_be_said}
use Rattle.cat_ledger_state.proofs.Results.{if_ok}
use Rattle.cat_ledger_state.proofs.state.Core.draft.Goals as goal

pub of-requires-clause-apart : goal.of-requires-clause-apart
of-requires-clause-apart c = listed_differ (shape_of_core c.self.inside) c.self.invariant.shape

pub of-requires-clause-form : goal.of-requires-clause-form
of-requires-clause-form c =
    may_be_said c.args.text.now (shape_of_core c.self.inside) _ _ c.leaves.result.now c.self.invariant.shape c.fields-fields.ensures.valid c.requires.text c.self.invariant.few
    (subst (λ s. s.next_generation ≤ last_number) (sym c.self.view_is) c.requires.left) c.in_ok-from_str.ensures.ok c.in_ok-copy.ensures c.leaves.ensures.value

pub returns-clause-ok : goal.returns-clause-ok
returns-clause-ok c =
    let is = draft_is c.args.text.now (shape_of_core c.self.inside) _ _ c.leaves.result.now c.in_ok-from_str.ensures.ok c.in_ok-copy.ensures c.leaves.ensures.value
    ∙ ap (draft_now c.args.text.now) c.self.view_is in
    if_ok _ _ c.of.result (λ d e. e ∙ is) c.of.ensures.ok

pub returns-in_err-from_str-clause-form : goal.returns-in_err-from_str-clause-form
returns-in_err-from_str-clause-form c =
    subst (λ s. IsCommitFile (commit_file_now c.args.text.now s)) c.self.view_is
    (commits_may_be_said c.args.text.now (shape_of_core c.self.inside) c.self.invariant.shape c.fields-fields.ensures.valid c.requires.text c.self.invariant.few
    (subst (λ s. s.next_generation ≤ last_number) (sym c.self.view_is) c.requires.left))

pub returns-in_err-copy-clause-form : goal.returns-in_err-copy-clause-form
returns-in_err-copy-clause-form c =
    subst (λ s. IsCommitFile (commit_file_now c.args.text.now s)) c.self.view_is
    (commits_may_be_said c.args.text.now (shape_of_core c.self.inside) c.self.invariant.shape c.fields-fields.ensures.valid c.requires.text c.self.invariant.few
    (subst (λ s. s.next_generation ≤ last_number) (sym c.self.view_is) c.requires.left))

pub returns-clause-form : goal.returns-clause-form
returns-clause-form c =
    subst (λ s. IsCommitFile (commit_file_now c.args.text.now s)) c.self.view_is
    (commits_may_be_said c.args.text.now (shape_of_core c.self.inside) c.self.invariant.shape c.fields-fields.ensures.valid c.requires.text c.self.invariant.few
    (subst (λ s. s.next_generation ≤ last_number) (sym c.self.view_is) c.requires.left))
