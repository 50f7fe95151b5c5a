use Rattle.std.proofs.Common.{◌≡◌, ◌≤◌, ◌∙◌, ◌++◌, List, length, take, map, ap, sym, arith, append-nil}
use Rattle.std.proofs.lemmas.List.{map-append}
use Rattle.std.proofs.lemmas.Result.{on_ok_weaker}
use Rattle.cat_model.specs.View.{selected}
use Rattle.cat_search.specs.declared.sort.Order.TheVariants.{Added}
use Rattle.cat_search.specs.Candidates.{mark_standing}
use Rattle.cat_search.specs.Hits.{hit_rows}
use Rattle.cat_search.specs.Pages.{behind}
use Rattle.cat_search.specs.Rows.{row_standing}
use Rattle.cat_search.specs.Standings.{HitStanding, entry_shown}
use Rattle.cat_search.proofs.Gathered.{full}
use Rattle.cat_search.proofs.Passed.{all_passed}
use Rattle.cat_search.proofs.gathering.show_behind.Goals as goal

pub returns-then-passed-len : goal.returns-then-passed-len
returns-then-passed-len c = record {
  shown = λ standings h.
      let mark = mark_standing c.args.wanted.now.mark in
      let hits = hit_rows c.args.hits in
      let none = all_passed mark c.rows_passed-passed.result hits (map (row_standing Added) c.args.segment.now.rows) (omega (arith, c.requires.long, c.len-2.ensures.rows, c.if-passed-len.true)) (c.rows_passed-passed.ensures.passed hits c.requires.long) in
      h ∙ ap (λ (l : List HitStanding). take c.args.wanted.now.count (map entry_shown l)) (sym (append-nil standings) ∙ ap (λ (l : List HitStanding). standings ++ l) (sym none));
}

pub returns-then-len-wanted : goal.returns-then-len-wanted
returns-then-len-wanted c = record {
  shown = λ standings h.
      let l = behind (mark_standing c.args.wanted.now.mark) (selected (hit_rows c.args.hits) (map (row_standing Added) c.args.segment.now.rows)) in
      let many : c.args.wanted.now.count ≤ length c.args.shown.now.items = omega (arith, c.len.ensures, c.if-len-wanted.true, c.args.shown.now.ok.0) in
      full c.args.wanted.now.count c.args.shown.now.items (map entry_shown standings) (map entry_shown l) h many
      ∙ ap (take c.args.wanted.now.count) (sym (map-append entry_shown standings l));
}

pub returns : goal.returns
returns c =
    let same = c.rows_passed-passed.ensures.passed (hit_rows c.args.hits) c.requires.long in
    record {
      shown = on_ok_weaker c.show_from.result (λ given standings h.
          given standings h ∙ ap (λ (l : List HitStanding). take c.args.wanted.now.count (map entry_shown (standings ++ l))) same) c.show_from.ensures.shown;
    }

pub show_from-requires : goal.show_from-requires
show_from-requires c = record { long = c.requires.long; within = c.rows_passed-passed.ensures.bound }
