use Rattle.std.proofs.Common.{rules, ◌≡◌, ◌∙◌, ◌||◌, ap, subst, ltb, max}
use Rattle.std.specs.Prelude.{count_by, filter}
use Rattle.std.proofs.lemmas.Fn.{filter_same}
use Rattle.cat_model.specs.State.{held_in, tokens}
use Rattle.cat_service_tests.proofs.plain.recorded.prune_views.Goals as goal

pub returns-clause-ok : goal.returns-clause-ok
returns-clause-ok c =
    let same : c.as_slice-all.result.now ≡ tokens c.args.views.now.items = c.as_slice-all.ensures.value ∙ c.in_ok-tokens.ensures.ok ∙ ap tokens c.deref.ensures.value in
    subst (λ ts. c.retain.new.self.items ≡ filter (λ v. held_in c.args.holds.now v.token || ltb (count_by (λ u. ltb v.token u) ts) (max c.args.count 1)) c.args.views.now.items)
    same
    (filter_same _ _ _ (λ x b f' k. search rules) _ _ c.retain.ensures.filtered)
