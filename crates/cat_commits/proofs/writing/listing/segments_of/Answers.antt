use Rattle.std.proofs.lemmas.Result.{IfOk-from_err}
use Rattle.std.proofs.Common.{List, [], ◌∷◌, ◌++◌, map, sym, ap, ap₂, ◌∙◌, arith}
use Rattle.std.proofs.lemmas.List.{map_more, take_all}
use Rattle.cat_ledger_laws.specs.shape.Shapes.{ListedLive}
use Rattle.cat_model.specs.CommitFile.{ListedSegment}
use Rattle.cat_commits.proofs.writing.listing.segments_of.Goals as goal

abbrev told : ListedLive → ListedSegment
told x = record { number = x.number; file = x.file }

pub loop-entry-preserved : goal.loop-entry-preserved
loop-entry-preserved c =
    c.in_ok-push.ensures.items
    ∙ ap₂ (λ (l : List ListedSegment) (s : ListedSegment). l ++ s ∷ []) c.loop-entry.invariant (c.segment.ensures ∙ ap told c.entry-item.is)
    ∙ sym (map_more told c.args.entries.now c.loop-entry.entry-index c.entry-item.result c.loop-entry-test.true)

pub returns : goal.returns
returns c = c.loop-entry.invariant ∙ ap (map told) (take_all c.loop-entry.entry-index c.args.entries.now (omega arith))

pub returns-in_err-segments : goal.returns-in_err-segments
returns-in_err-segments c = IfOk-from_err _ _ c.from_residual.ensures.0

pub returns-in_err-push : goal.returns-in_err-push
returns-in_err-push c = IfOk-from_err _ _ c.from_residual-in_err-push.ensures.0
