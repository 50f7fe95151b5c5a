use Rattle.std.proofs.Common.{◌∙◌, ap}
use Rattle.std.proofs.lemmas.List.Sorted.{ranks_by}
use Rattle.cat_search.specs.BestItems.{less}
use Rattle.cat_search.proofs.Kept.{best_ranked}
use Rattle.cat_search.proofs.best.Best.into_items.Goals as goal

pub returns-clause-ranked : goal.returns-clause-ranked
returns-clause-ranked g c = λ offered b apart.
    best_ranked (less g.T.Ord.cmp) (ranks_by g.met.T.Ord.total (λ x. x)) c.args.self offered c.self.inside.items.items
    (ap (λ k. k.items) c.self.view_is ∙ c.in_ok-cut.ensures.items ∙ b.first) apart
