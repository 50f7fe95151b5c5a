use Rattle.std.proofs.Common.{◌∙◌, ap, filter, map, sym}
use Rattle.std.specs.List.{flat_map}
use Rattle.cat_model.specs.View.{live_rows, row_matches}
use Rattle.cat_query.specs.View.{query_of}
use Rattle.cat_search.specs.declared.sort.Order.TheVariants.{Added}
use Rattle.cat_search.specs.Candidates.{mark_standing}
use Rattle.cat_search.specs.Pages.{behind}
use Rattle.cat_search.specs.Rows.{row_standing}
use Rattle.cat_search.specs.Standings.{entry_shown}
use Rattle.cat_search.proofs.Candidates.{map-take}
use Rattle.cat_search.proofs.Gathered.{first_added, if_ok}
use Rattle.cat_search.proofs.gathering.first_entries.Goals as goal

pub returns-in-Added-clause-first : goal.returns-in-Added-clause-first
returns-in-Added-clause-first c =
    let wanted = c.args.wanted.now in
    let mark = mark_standing wanted.mark in
    let matched = row_matches (query_of c.args.query.now) in
    let rows = flat_map live_rows c.args.leaves.now in
    if_ok _ _ (λ r h.
    h
    ∙ sym (map-take entry_shown wanted.count (behind mark (map (row_standing Added) (filter matched rows))))
    ∙ ap (map entry_shown) (first_added mark wanted.order matched rows wanted.count c.in-Added.is c.requires.rising))
    c.added_entries-in-Added.result c.added_entries-in-Added.ensures.first
