use Rattle.std.proofs.Common.{◌≡◌, ◌-◌, ◌<◌, ◌≤◌, ◌∙◌, get_or, ap, arith}
use Rattle.std.proofs.lemmas.List.Sorted.{ranks_by}
use Rattle.cat_search.specs.BestItems.{less}
use Rattle.cat_search.proofs.Kept.{best_late}
use Rattle.cat_search.proofs.best.Best.last_if_full.Goals as goal

pub returns : goal.returns
returns g c = λ offered item late b.
    let lt = less g.T.Ord.cmp in
    let kept = c.args.self.now in
    let last = c.in_ok-item.item.now in
    let limit : c.self.inside.limit ≡ c.args.self.now.limit = ap (λ k. k.limit) c.self.view_is in
    let ready : c.self.inside.ready ≡ c.args.self.now.ready = ap (λ k. k.ready) c.self.view_is in
    let items : c.deref.result.now ≡ c.args.self.now.items = c.deref.ensures.value ∙ ap (λ k. k.items) c.self.view_is in
    let index : c.in_ok-last.last ≡ c.args.self.now.limit - 1 = omega (arith, limit, c.in_ok-last.ensures) in
    let some : 0 < c.args.self.now.limit = omega (arith, limit, c.in_ok-last.ensures) in
    let full : c.args.self.now.limit ≤ c.args.self.now.ready = omega (arith, limit, ready, c.if-self.false) in
    let at : last ≡ get_or c.args.self.now.items (c.args.self.now.limit - 1) last =
    c.in_ok-item.ensures.lookup.1 ∙ ap (λ xs. get_or xs c.in_ok-last.last last) items ∙ ap (λ n. get_or c.args.self.now.items n last) index in
    best_late lt (ranks_by g.met.T.Ord.total (λ x. x)) kept item last some full at late offered b
