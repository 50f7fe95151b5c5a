use Rattle.std.proofs.Common.{◌∙◌, Ok, ap, subst, sym}
use Rattle.cat_model.specs.Answer.{Found}
use Rattle.cat_query.specs.View.{query_of}
use Rattle.cat_search.specs.Views.{IsAnswerTo, IsWantedOf, Prepared}
use Rattle.cat_search.proofs.ViewPages.{live_rise, page_answered, shown}
use Rattle.cat_views.specs.Sets.{AreSets}
use Rattle.cat_search.proofs.prepared.Prepared.page_for.Goals as goal

pub first_entries-requires-clause-rising : goal.first_entries-requires-clause-rising
first_entries-requires-clause-rising c = live_rise c.self.inside.view c.leaves.ensures.valid c.leaves.result.now c.leaves.ensures.value

pub first_entries-requires-clause-sets : goal.first_entries-requires-clause-sets
first_entries-requires-clause-sets c =
    let q = query_of c.self.inside.query in
    subst (λ ls. AreSets q ls c.sets_of-sets.result.now) (sym c.leaves.ensures.value) (c.sets_of-sets.ensures q c.self.inside.view.leaves c.self.invariant)

pub returns : goal.returns
returns c = λ ask is.
    let view = c.self.inside.view in
    let q = query_of c.self.inside.query in
    let w = c.args.wanted.now in
    subst (λ (p : Prepared). IsWantedOf p.view ask w → IsAnswerTo p ask (Ok (Found.page c.new.result))) c.self.view_is
    (λ is rs shows. shown view ask q rs shows (Ok (Found.page c.new.result))
    (page_answered view q ask w c.in_ok-total.total c.leaves.result.now c.in_ok-total.entries.items is c.leaves.ensures.value c.leaves.ensures.valid c.in_ok-total.ensures.total c.in_ok-total.ensures.first
    ∙ ap (λ p. Ok (Found.page p)) (sym c.new.ensures))) is
