use Rattle.std.proofs.Common.{◌++◌, ◌∙◌, List, ap, length, map, refl, sym, take}
use Rattle.cat_query.specs.View.{query_of}
use Rattle.cat_views.proofs.Selected.{count-selected}
use Rattle.cat_search.specs.declared.sort.Order.TheVariants.{Added}
use Rattle.cat_search.specs.Candidates.{mark_standing}
use Rattle.cat_search.specs.Hits.{hit_rows}
use Rattle.cat_search.specs.Pages.{behind}
use Rattle.cat_search.specs.Rows.{row_standing}
use Rattle.cat_search.specs.Standings.{HitStanding, entry_shown}
use Rattle.cat_search.proofs.Gathered.{hits_standings}
use Rattle.cat_search.proofs.gathering.show_leaf.Goals as goal

pub hits_of-requires : goal.hits_of-requires
hits_of-requires c = c.requires

pub show_behind-requires : goal.show_behind-requires
show_behind-requires c = record { long = c.in_ok-hits.ensures.long ∙ sym (ap (λ s. length s.rows) c.segment.ensures) }

pub returns-clause-total : goal.returns-clause-total
returns-clause-total c =
    c.count-found.ensures ∙ count-selected (hit_rows c.in_ok-hits.hits) c.args.leaf.now.segment.rows c.in_ok-hits.ensures.long ∙ ap length c.in_ok-hits.ensures.ok

pub returns-clause-shown : goal.returns-clause-shown
returns-clause-shown c = λ standings h.
    let leaf = c.args.leaf.now in
    let wanted = c.args.wanted.now in
    let segment = c.segment.result.now in
    c.in_ok-show_behind.ensures.shown standings h
    ∙ ap (λ (l : List HitStanding). take wanted.count (map entry_shown (standings ++ behind (mark_standing wanted.mark) l)))
    (hits_standings (query_of c.args.query.now) leaf Added segment (map (row_standing Added) segment.rows) (hit_rows c.in_ok-hits.hits) c.segment.ensures refl c.in_ok-hits.ensures.ok)
