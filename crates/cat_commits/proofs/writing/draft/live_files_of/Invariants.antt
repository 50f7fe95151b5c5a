use Rattle.std.proofs.Common.{take}
use Rattle.cat_commits.specs.writing.Drafts.{AreSpelled, new_entries}
use Rattle.cat_commits.proofs.writing.draft.live_files_of.Given as goal

abbrev pub invariant-loop-entry : goal.invariant-loop-entry
invariant-loop-entry l = AreSpelled l.generation (new_entries l.generation (take l.entry-index l.entries)) l.files.items
