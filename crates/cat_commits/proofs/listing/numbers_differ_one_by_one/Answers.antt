use Rattle.std.proofs.Common.{rules}
use Rattle.cat_commits.specs.Listings.{DiffersFrom}
use Rattle.cat_commits.proofs.Listings.{apart_more}
use Rattle.cat_commits.proofs.listing.numbers_differ_one_by_one.Goals as goal

pub loop-index-preserved : goal.loop-index-preserved
loop-index-preserved c =
    let here : DiffersFrom c.args.listing.now c.loop-index.index = search rules in apart_more c.args.listing.now c.loop-index.index c.loop-index.invariant here
