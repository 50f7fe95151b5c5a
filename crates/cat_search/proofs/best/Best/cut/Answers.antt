use Rattle.std.proofs.Common.{◌≡◌, ◌∙◌, ap, take}
use Rattle.std.proofs.lemmas.List.Sorted.{ranks_by}
use Rattle.cat_model.specs.Ranks.{sorted}
use Rattle.cat_search.specs.BestItems.{less}
use Rattle.cat_search.proofs.Stable.{stable_sort}
use Rattle.cat_search.proofs.best.Best.cut.Goals as goal

pub returns-clause-items : goal.returns-clause-items
returns-clause-items g c =
    let lt = less g.T.Ord.cmp in
    let gathered = c.self.inside.items.items in
    let limit : c.self.inside.limit ≡ c.args.self.now.limit = ap (λ k. k.limit) c.self.view_is in
    let items : c.self.inside.items.items ≡ c.args.self.now.items = ap (λ k. k.items) c.self.view_is in
    let sort : c.sort.new.self.items ≡ sorted lt gathered =
    stable_sort lt (ranks_by g.met.T.Ord.total (λ x. x)) gathered c.sort.new.self.items c.in_ok-sort.ensures.sorted c.sort.ensures.stable in
    c.truncate.ensures.items ∙ ap (λ n. take n c.sort.new.self.items) limit ∙ ap (take c.args.self.now.limit) (sort ∙ ap (sorted lt) items)
