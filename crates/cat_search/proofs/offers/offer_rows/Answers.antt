use Rattle.std.proofs.Common.{map, option_map, refl, ap}
use Rattle.cat_model.specs.Page.{Key}
use Rattle.cat_search.proofs.Bars.{keyed_ranks, renewed_ranks}
use Rattle.cat_search.proofs.offers.offer_rows.Goals as goal

pub offer_by-requires : goal.offer_by-requires
offer_by-requires c =
    let opened = c.open in
    let ranked = renewed_ranks opened.result.order c.in-Some.order (map (option_map Key.number) opened.result.column.now) (map (option_map Key.number) c.in-Some.numbers.now) opened.ensures.order
    (ap (map (option_map Key.number)) opened.ensures.column) c.args.ranks.now (keyed_ranks Key.number c.in-Some.order c.in-Some.numbers.now c.args.ranks.now c.in-Some.ensures) in
    λ k. ((refl, tt), (tt, (c.requires, ranked)))

pub offer_by-requires-in-Some-keywords : goal.offer_by-requires-in-Some-keywords
offer_by-requires-in-Some-keywords c =
    let some = c.in-Some-keywords in
    let opened = c.open-in-Some-keywords in
    let ranked = renewed_ranks opened.result.order some.order (map (option_map Key.keyword) opened.result.column.now) (map (option_map Key.keyword) some.keywords.now) opened.ensures.order
    (ap (map (option_map Key.keyword)) opened.ensures.column) c.args.ranks.now (keyed_ranks Key.keyword some.order some.keywords.now c.args.ranks.now some.ensures) in
    λ k. ((refl, tt), (opened.ensures.ordinals, (c.requires, ranked)))
