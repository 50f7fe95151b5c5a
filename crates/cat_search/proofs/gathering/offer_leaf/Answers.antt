use Rattle.std.proofs.Common.{map, subst}
use Rattle.std.specs.Prelude.{OnOk}
use Rattle.cat_query.specs.View.{query_of}
use Rattle.cat_search.specs.BestItems.{BestItems}
use Rattle.cat_search.specs.Candidates.{TakesIn, mark_standing}
use Rattle.cat_search.specs.Pages.{behind}
use Rattle.cat_search.specs.Rows.{leaf_hits, row_standing}
use Rattle.cat_search.specs.declared.standings.Candidate.{Candidate}
use Rattle.cat_search.proofs.gathering.offer_leaf.Goals as goal

pub returns-in-None-clause-best : goal.returns-in-None-clause-best
returns-in-None-clause-best c =
    let wanted = c.args.wanted.now in
    let same = rw c.in-None.is at c.in_ok-total.ensures.best in
    subst (λ (old : BestItems Candidate). OnOk c.offer_matched.result (TakesIn old c.offer_matched.new.best (behind (mark_standing wanted.mark) (map (row_standing wanted.order) (leaf_hits c.args.leaf.now (query_of c.args.query.now))))))
    same c.offer_matched.ensures.best
