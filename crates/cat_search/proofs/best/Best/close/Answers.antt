use Rattle.std.proofs.lemmas.List.Sorted.{ranks_by}
use Rattle.cat_search.specs.BestItems.{less}
use Rattle.cat_search.proofs.Kept.{best_cut}
use Rattle.cat_search.proofs.best.Best.close.Goals as goal

pub returns-clause-best : goal.returns-clause-best
returns-clause-best g c = λ offered b.
    best_cut (less g.T.Ord.cmp) (ranks_by g.met.T.Ord.total (λ x. x)) c.args.self.now c.cut.new.self c.in_ok-cut.ensures.limit c.in_ok-cut.ensures.items c.in_ok-cut.ensures.ready offered b
