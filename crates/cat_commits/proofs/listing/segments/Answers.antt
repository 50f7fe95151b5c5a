use Rattle.std.proofs.lemmas.Result.{IfOk-from_err}
use Rattle.std.proofs.Common.{◌∙◌}
use Rattle.cat_commits.proofs.Listings.{no_more, one_more}
use Rattle.cat_commits.proofs.listing.segments.Goals as goal

pub loop-index-init : goal.loop-index-init
loop-index-init c = c.in_ok-segments.ensures.items ∙ no_more c.args.listing.now

pub loop-index-preserved : goal.loop-index-preserved
loop-index-preserved c = rw (c.in_ok-push.ensures.items, c.segment_at.ensures, c.loop-index.invariant) (one_more c.args.listing.now c.loop-index.index)

pub returns-in_err-segments : goal.returns-in_err-segments
returns-in_err-segments c = IfOk-from_err _ _ c.from_residual.ensures.0

pub returns-in_err-push : goal.returns-in_err-push
returns-in_err-push c = IfOk-from_err _ _ c.from_residual-in_err-push.ensures.0
