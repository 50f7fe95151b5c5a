use Rattle.std.proofs.Common.{◌≡◌, ◌≤◌, ◌<◌, ◌∙◌, ◌++◌, ℕ, All, List, filter, length, take, map, ap, subst, sym, arith}
use Rattle.std.proofs.lemmas.List.{length-map}
use Rattle.std.proofs.lemmas.Result.{on_ok_weaker}
use Rattle.cat_model.specs.RowSets.{has_row}
use Rattle.cat_model.specs.View.{selected}
use Rattle.cat_search.specs.declared.sort.Order.TheVariants.{Added}
use Rattle.cat_search.specs.Candidates.{mark_standing}
use Rattle.cat_search.specs.Hits.{hit_rows}
use Rattle.cat_search.specs.Pages.{behind}
use Rattle.cat_search.specs.Rows.{row_standing}
use Rattle.cat_search.specs.Standings.{HitStanding, entry_shown}
use Rattle.cat_search.proofs.Gathered.{standings_at-all}
use Rattle.cat_search.proofs.Tested.{cleared, cleared_long}
use Rattle.cat_search.proofs.gathering.show_from.Goals as goal

pub parts_from-requires : goal.parts_from-requires
parts_from-requires c =
    let long = ap (λ h. length (hit_rows h)) c.in-Listed.is in
    omega (arith, long, c.requires.long, c.requires.within)

pub show_listed-requires : goal.show_listed-requires
show_listed-requires c =
    let long : length c.in-Listed.listed ≡ length c.of-ranks.result =
    sym (ap (λ h. length (hit_rows h)) c.in-Listed.is) ∙ c.requires.long ∙ sym (ap length c.of-ranks.ensures ∙ length-map c.args.segment.now.rows (row_standing Added)) in
    record {
      long = c.parts_from.ensures.long ∙ long;
      within = subst (λ (n : ℕ). All (λ row. row < n) c.parts_from.result.0.now) long c.parts_from.ensures.within;
    }

pub returns-in-Listed : goal.returns-in-Listed
returns-in-Listed c =
    let mark = mark_standing c.args.wanted.now.mark in
    let rs = c.args.segment.now.rows in
    let from = c.args.from in
    let listed = c.in-Listed.listed in
    let is = ap hit_rows c.in-Listed.is in
    let long : length listed ≡ length c.of-ranks.result = sym (ap length is) ∙ c.requires.long ∙ sym (ap length c.of-ranks.ensures ∙ length-map rs (row_standing Added)) in
    let here : from ≤ length listed = omega (arith, ap length is, c.requires.long, c.requires.within) in
    let same =
    standings_at-all mark c.of-ranks.result (cleared from listed) (filter (has_row c.parts_from.result.1.now) c.parts_from.result.0.now) (cleared_long from listed here ∙ long) c.parts_from.ensures.hits
    ∙ ap (λ r. behind mark (selected (cleared from listed) r)) c.of-ranks.ensures
    ∙ ap (λ s. behind mark (selected (cleared from s) (map (row_standing Added) rs))) (sym is) in
    record {
      shown = on_ok_weaker c.show_listed.result (λ given standings h.
          given standings h ∙ ap (λ (l : List HitStanding). take c.args.wanted.now.count (map entry_shown (standings ++ l))) same) c.show_listed.ensures.shown;
    }

pub returns-then-are_met_sooner : goal.returns-then-are_met_sooner
returns-then-are_met_sooner c = record {
  shown =
      on_ok_weaker c.show_tested.result (λ given standings h.
      given standings h
      ∙ ap (λ (l : List HitStanding). take c.args.wanted.now.count (map entry_shown (standings ++ l)))
      (ap (λ r. behind (mark_standing c.args.wanted.now.mark) (selected (cleared c.args.from (hit_rows c.args.hits)) r)) c.of-ranks.ensures)) c.show_tested.ensures.shown;
}

pub returns : goal.returns
returns c =
    let mark = mark_standing c.args.wanted.now.mark in
    let hits = hit_rows c.args.hits in
    let same =
    ap (λ s. behind mark (selected s c.of-ranks.result)) (c.remove_below.ensures ∙ ap (cleared c.args.from) c.in_ok-left.ensures.ok)
    ∙ ap (λ r. behind mark (selected (cleared c.args.from hits) r)) c.of-ranks.ensures in
    record {
      shown = on_ok_weaker c.show_rows.result (λ given standings h.
          given standings h ∙ ap (λ (l : List HitStanding). take c.args.wanted.now.count (map entry_shown (standings ++ l))) same) c.show_rows.ensures.shown;
    }

pub show_tested-requires : goal.show_tested-requires
show_tested-requires c =
    let ranked : length c.of-ranks.result ≡ length c.args.segment.now.rows = ap length c.of-ranks.ensures ∙ length-map c.args.segment.now.rows (row_standing Added) in
    record {
      long = c.requires.long ∙ sym ranked;
      within = subst (λ (n : ℕ). c.args.from ≤ n) (sym ranked) c.requires.within;
    }

pub show_rows-requires : goal.show_rows-requires
show_rows-requires c =
    let hits = hit_rows c.args.hits in
    let ranked : length c.of-ranks.result ≡ length c.args.segment.now.rows = ap length c.of-ranks.ensures ∙ length-map c.args.segment.now.rows (row_standing Added) in
    let here : c.args.from ≤ length hits = subst (λ (n : ℕ). c.args.from ≤ n) (sym c.requires.long) c.requires.within in
    record { long = ap length (c.remove_below.ensures ∙ ap (cleared c.args.from) c.in_ok-left.ensures.ok) ∙ cleared_long c.args.from hits here ∙ c.requires.long ∙ sym ranked }
