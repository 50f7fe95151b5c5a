use Rattle.std.proofs.Common.{◌≡◌, ◌<◌, ◌++◌, ◌∙◌, ℕ, All, filter, length, map, option_map, refl, ap, subst}
use Rattle.cat_model.specs.Page.{Key}
use Rattle.cat_model.specs.RowSets.{has_row}
use Rattle.cat_model.specs.View.{selected}
use Rattle.cat_search.specs.Candidates.{IsBestAt, mark_standing}
use Rattle.cat_search.specs.Pages.{behind}
use Rattle.cat_search.proofs.Bars.{keyed_ranks, renewed_ranks}
use Rattle.cat_search.proofs.Gathered.{on_ok, standings_at-all}
use Rattle.cat_search.proofs.offers.offer_listed.Goals as goal

pub offer_listed_by-requires : goal.offer_listed_by-requires
offer_listed_by-requires c =
    let opened = c.open-bar in
    let ranked = renewed_ranks opened.result.order c.in-Some.order (map (option_map Key.number) opened.result.column.now) (map (option_map Key.number) c.in-Some.numbers.now) opened.ensures.order
    (ap (map (option_map Key.number)) opened.ensures.column) c.args.ranks.now (keyed_ranks Key.number c.in-Some.order c.in-Some.numbers.now c.args.ranks.now c.in-Some.ensures) in
    let within = subst (λ (n : ℕ). All (λ row. row < n) c.parts.result.0.now) c.requires c.parts.ensures.within in
    λ k. ((refl, tt), (tt, (c.parts.ensures.long ∙ c.requires, (within, ranked))))

pub offer_listed_by-requires-in-Some-keywords : goal.offer_listed_by-requires-in-Some-keywords
offer_listed_by-requires-in-Some-keywords c =
    let some = c.in-Some-keywords in
    let opened = c.open-bar-in-Some-keywords in
    let ranked = renewed_ranks opened.result.order some.order (map (option_map Key.keyword) opened.result.column.now) (map (option_map Key.keyword) some.keywords.now) opened.ensures.order
    (ap (map (option_map Key.keyword)) opened.ensures.column) c.args.ranks.now (keyed_ranks Key.keyword some.order some.keywords.now c.args.ranks.now some.ensures) in
    let within = subst (λ (n : ℕ). All (λ row. row < n) c.parts.result.0.now) c.requires c.parts.ensures.within in
    λ k. ((refl, tt), (opened.ensures.ordinals, (c.parts.ensures.long ∙ c.requires, (within, ranked))))

pub returns-in-Some-clause-best : goal.returns-in-Some-clause-best
returns-in-Some-clause-best c =
    let mark = mark_standing c.args.mark.now in
    let same = standings_at-all mark c.args.ranks.now c.args.hits.now (filter (has_row c.parts.result.1.now) c.parts.result.0.now) c.requires c.parts.ensures.hits in
    on_ok _ _ (λ took ps h. subst (λ l. IsBestAt c.offer_listed_by.new.best (ps ++ l)) same (took ps h)) c.offer_listed_by.result c.offer_listed_by.ensures.best

pub returns-in-Some-keywords-clause-best : goal.returns-in-Some-keywords-clause-best
returns-in-Some-keywords-clause-best c =
    let mark = mark_standing c.args.mark.now in
    let same = standings_at-all mark c.args.ranks.now c.args.hits.now (filter (has_row c.parts.result.1.now) c.parts.result.0.now) c.requires c.parts.ensures.hits in
    let offered = c.offer_listed_by-in-Some-keywords in
    on_ok _ _ (λ took ps h. subst (λ l. IsBestAt offered.new.best (ps ++ l)) same (took ps h)) offered.result offered.ensures.best

pub returns-clause-best : goal.returns-clause-best
returns-clause-best c =
    let mark = mark_standing c.args.mark.now in
    on_ok _ _ (λ took ps h. subst (λ s. IsBestAt c.offer_each.new.best (ps ++ behind mark (selected s c.args.ranks.now))) c.in_ok-set.ensures.ok (took ps h)) c.offer_each.result c.offer_each.ensures.best
