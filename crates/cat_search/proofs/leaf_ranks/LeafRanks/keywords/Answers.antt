use Rattle.cat_search.proofs.Bars.{keywords_ranked}
use Rattle.cat_search.proofs.leaf_ranks.LeafRanks.keywords.Goals as goal

pub returns : goal.returns
returns c =
    keywords_ranked c.self.inside.order c.self.inside.column c.in_ok-keywords.field-0 c.in-Keyword.keywords c.values.result.now c.self.inside.segment.now.rows c.args.self.now
    (c.in_ok-keywords.was) c.in-Keyword.is c.values.ensures c.self.invariant c.self.view_is
