use Rattle.std.proofs.lemmas.Result.{IfOk-from_err}
use Rattle.std.proofs.Common.{List, subst, arith}
use Rattle.std.proofs.lemmas.List.{take_all}
use Rattle.cat_ledger_laws.specs.shape.Shapes.{ListedLive}
use Rattle.cat_commits.specs.writing.Drafts.{AreSpelled, new_entries}
use Rattle.cat_commits.proofs.writing.Drafting.{spelled_more}
use Rattle.cat_commits.proofs.writing.draft.live_files_of.Goals as goal

pub loop-entry-preserved : goal.loop-entry-preserved
loop-entry-preserved c =
    spelled_more c.args.generation c.args.entries.now c.loop-entry.entry-index c.entry-item.result c.loop-entry.files.items c.push_live_file.new.files.items c.loop-entry-test.true c.entry-item.is
    c.loop-entry.invariant c.in_ok-push_live_file.ensures

pub returns : goal.returns
returns c =
    subst (λ (l : List ListedLive). AreSpelled c.args.generation (new_entries c.args.generation l) c.loop-entry.files.items)
    (take_all c.loop-entry.entry-index c.args.entries.now (omega arith)) c.loop-entry.invariant

pub returns-in_err-push_live_file : goal.returns-in_err-push_live_file
returns-in_err-push_live_file c = IfOk-from_err _ _ c.from_residual.ensures.0
