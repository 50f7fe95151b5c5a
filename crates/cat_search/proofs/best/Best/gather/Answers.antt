use Rattle.std.proofs.Common.{◌≡◌, ◌∙◌, ◌++◌, ◌∷◌, [], ap, arith}
use Rattle.std.proofs.lemmas.List.Sorted.{ranks_by}
use Rattle.std.proofs.lemmas.Grind.{common_steps}
use Rattle.cat_search.specs.BestItems.{less}
use Rattle.cat_search.proofs.Kept.{best_pushed, best_cut}
use Rattle.cat_search.proofs.best.Best.gather.Goals as goal

pub returns-then-saturating_sub-max-clause-best : goal.returns-then-saturating_sub-max-clause-best
returns-then-saturating_sub-max-clause-best g c =
    let pushed : c.push.new.self.items ≡ c.args.self.now.items ++ c.args.item ∷ [] =
    c.in_ok-push.ensures.items ∙ ap (λ k. k.items ++ c.args.item ∷ []) c.self.view_is in
    best_pushed (less g.T.Ord.cmp) c.args.self.now (record { limit = c.self.inside.limit; items = c.push.new.self.items; ready = c.self.inside.ready }) c.args.item
    (ap (λ k. k.limit) c.self.view_is) pushed (ap (λ k. k.ready) c.self.view_is)

pub returns-in-Ok-clause-best : goal.returns-in-Ok-clause-best
returns-in-Ok-clause-best g c = λ offered b.
    let lt = less g.T.Ord.cmp in
    let pushed : c.push.new.self.items ≡ c.args.self.now.items ++ c.args.item ∷ [] =
    c.in_ok-push.ensures.items ∙ ap (λ k. k.items ++ c.args.item ∷ []) c.self.view_is in
    best_cut lt (ranks_by g.met.T.Ord.total (λ x. x)) (record { limit = c.self.inside.limit; items = c.push.new.self.items; ready = c.self.inside.ready }) c.cut.new.self
    c.in-Ok.ensures.limit c.in-Ok.ensures.items c.in-Ok.ensures.ready (offered ++ c.args.item ∷ [])
    (best_pushed lt c.args.self.now (record { limit = c.self.inside.limit; items = c.push.new.self.items; ready = c.self.inside.ready }) c.args.item
    (ap (λ k. k.limit) c.self.view_is) pushed (ap (λ k. k.ready) c.self.view_is) offered b)

pub returns-in-Err-clause-unchanged : goal.returns-in-Err-clause-unchanged
returns-in-Err-clause-unchanged c = grind (arith, common_steps)
