use Rattle.std.proofs.lemmas.Result.{IfOk-from_err}
use Rattle.std.proofs.lemmas.List.{take_all}
use Rattle.std.proofs.Common.{◌≡◌, List, ◌++◌, is_some, ap, ap₂, ◌∙◌, arith}
use Rattle.cat_model.specs.Files.{Name}
use Rattle.cat_commits.specs.writing.Entries.{index_of}
use Rattle.cat_commits.specs.writing.Unsynced.{is_listed, new_live_of, unsynced_segment, unsynced_of, unsynced_in}
use Rattle.cat_commits.proofs.writing.Lists.{flat_map_more, listed_is}
use Rattle.cat_commits.proofs.writing.listing.unsynced_names.Goals as goal

pub loop-entry-preserved : goal.loop-entry-preserved
loop-entry-preserved c =
    let number : c.number.result ≡ c.entry-item.result.number = c.number.ensures ∙ ap (λ s. s.number) c.segment.ensures in
    let there : c.contains_key-listed.result ≡ is_listed c.entry-item.result.number c.args.earlier.now =
    c.contains_key-listed.ensures ∙ ap is_some (c.requires.indexed c.number.result) ∙ ap (λ n. is_some (index_of n c.args.earlier.now)) number
    ∙ listed_is c.entry-item.result.number c.args.earlier.now in
    c.in_ok-push_unsynced.ensures
    ∙ ap₂ (λ (a b : List Name). a ++ b) c.loop-entry.invariant (ap (λ b. unsynced_segment b c.entry-item.result ++ new_live_of c.args.generation c.entry-item.result) there)
    ∙ flat_map_more (unsynced_of c.args.earlier.now c.args.generation) c.args.entries.now c.loop-entry.entry-index c.entry-item.result c.loop-entry-test.true c.entry-item.is

pub returns : goal.returns
returns c =
    c.loop-entry.invariant ∙ ap (unsynced_in c.args.earlier.now c.args.generation) (take_all c.loop-entry.entry-index c.args.entries.now (omega arith))

pub returns-in_err-push_unsynced : goal.returns-in_err-push_unsynced
returns-in_err-push_unsynced c = IfOk-from_err _ _ c.from_residual.ensures.0
