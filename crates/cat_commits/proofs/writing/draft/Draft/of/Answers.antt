use Rattle.std.proofs.Common.{List, sym, ◌∙◌, subst}
use Rattle.std.specs.Prelude.{All}
use Rattle.std.proofs.lemmas.Result.{IfOk-from_err}
use Rattle.cat_ledger_laws.specs.shape.Shapes.{ListedLive}
use Rattle.cat_commits.specs.writing.Drafts.{AreSpelled, new_entries}
use Rattle.cat_commits.proofs.writing.Drafting.{IsReady, all_ready, is_drafted}
use Rattle.cat_commits.proofs.writing.draft.Draft.of.Goals as goal

pub live_files_of-requires-clause-live : goal.live_files_of-requires-clause-live
live_files_of-requires-clause-live c =
    subst (All (IsReady c.args.heading.generation)) (sym (c.entries.ensures ∙ c.in_ok-listing.ensures.ok))
    (all_ready c.args.earlier.now c.args.heading c.args.leaves.now c.requires.form c.in_ok-listing.ensures.rows)

pub invariant_of-result : goal.invariant_of-result
invariant_of-result c =
    is_drafted c.args.earlier.now c.args.heading c.in_ok-listing.listing c.in_ok-commit.commit _ c.in_ok-own.own c.in_ok-live_files.live_files.items _
    c.in_ok-commit.ensures c.in_ok-listing.ensures.unsynced c.in_ok-own.ensures.0 c.in_ok-own.ensures.1
    (subst (λ (xs : List ListedLive). AreSpelled c.args.heading.generation (new_entries c.args.heading.generation xs) c.in_ok-live_files.live_files.items) c.entries.ensures c.in_ok-live_files.ensures)
    c.in_ok-names.ensures

pub returns-in_err-listing : goal.returns-in_err-listing
returns-in_err-listing c = record { ok = IfOk-from_err _ _ c.from_residual.ensures.0 }

pub returns-in_err-live_files : goal.returns-in_err-live_files
returns-in_err-live_files c = record { ok = IfOk-from_err _ _ c.from_residual-in_err-live_files.ensures.0 }

pub returns-in_err-commit : goal.returns-in_err-commit
returns-in_err-commit c = record { ok = IfOk-from_err _ _ c.from_residual-in_err-commit.ensures.0 }

pub returns-in_err-own : goal.returns-in_err-own
returns-in_err-own c = record { ok = IfOk-from_err _ _ c.from_residual-in_err-own.ensures.0 }

pub returns-in_err-names : goal.returns-in_err-names
returns-in_err-names c = record { ok = IfOk-from_err _ _ c.from_residual-in_err-names.ensures.0 }
