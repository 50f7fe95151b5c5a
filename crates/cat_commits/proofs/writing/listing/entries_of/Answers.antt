use Rattle.std.proofs.lemmas.Result.{IfOk-from_err}
use Rattle.std.proofs.Common.{◌≡◌, ◌<◌, List, [], ◌∷◌, ◌++◌, length, min, ap₂, ◌∙◌, arith}
use Rattle.cat_ledger_laws.specs.shape.Shapes.{ListedLive}
use Rattle.cat_commits.proofs.writing.Lists.{listed_with_more, listed_with_all}
use Rattle.cat_commits.proofs.writing.listing.entries_of.Goals as goal

pub loop-index-preserved : goal.loop-index-preserved
loop-index-preserved c =
    let segment : c.loop-index.index < length c.args.segments.now = omega (arith, c.loop-index-test.true, c.min-count.ensures) in
    let leaf : c.loop-index.index < length c.args.leaves.now = omega (arith, c.loop-index-test.true, c.min-count.ensures) in
    c.in_ok-push.ensures.items
    ∙ ap₂ (λ (es : List ListedLive) (e : ListedLive). es ++ e ∷ []) c.loop-index.invariant c.in_ok-of.ensures
    ∙ listed_with_more c.args.segments.now c.args.leaves.now c.loop-index.index c.index-segments-index.result c.index-leaves-index.result segment leaf c.index-segments-index.is c.index-leaves-index.is

pub returns : goal.returns
returns c =
    let all : c.loop-index.index ≡ min (length c.args.segments.now) (length c.args.leaves.now) = omega (arith, c.loop-index-test.false, c.loop-index.auto.index-end, c.min-count.ensures) in
    c.loop-index.invariant ∙ listed_with_all c.args.segments.now c.args.leaves.now c.loop-index.index all

pub returns-in_err-entries : goal.returns-in_err-entries
returns-in_err-entries c = IfOk-from_err _ _ c.from_residual.ensures.0

pub returns-in_err-of : goal.returns-in_err-of
returns-in_err-of c = IfOk-from_err _ _ c.from_residual-in_err-of.ensures.0

pub returns-in_err-push : goal.returns-in_err-push
returns-in_err-push c = IfOk-from_err _ _ c.from_residual-in_err-push.ensures.0
