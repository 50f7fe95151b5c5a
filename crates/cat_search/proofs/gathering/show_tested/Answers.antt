use Rattle.std.proofs.Common.{◌≡◌, ◌≤◌, ◌<◌, ◌∙◌, ◌++◌, length, map, take, sym, ap, arith, append-nil}
use Rattle.cat_search.specs.Candidates.{mark_standing, standing_of}
use Rattle.cat_search.specs.Hits.{hit_rows}
use Rattle.cat_search.specs.Standings.{entry_shown}
use Rattle.cat_search.proofs.Gathered.{none}
use Rattle.cat_search.proofs.Tested.{all_met, full_early, none_met, others_more, passed_more, shown_more}
use Rattle.cat_search.proofs.gathering.show_tested.Goals as goal
use Rattle.cat_search.proofs.gathering.show_tested.Goals.{then-contains+then-is_beyond+in_ok-push_entry, then-contains+else-is_beyond, else-contains}

pub loop-row-init : goal.loop-row-init
loop-row-init c = record {
  above = omega arith;
  within = c.requires.within;
  shown = λ ps h.
      h ∙ ap (λ qs. take c.args.wanted (map entry_shown qs))
      (sym (append-nil ps) ∙ ap (λ qs. ps ++ qs) (sym (none_met (mark_standing c.args.mark.now) c.args.ranks.now (hit_rows c.args.hits.now) c.args.from c.requires.long c.requires.within)));
}

pub returns-then-len-wanted : goal.returns-then-len-wanted
returns-then-len-wanted c =
    let many : c.args.wanted ≤ length c.loop-row.shown.items = omega (arith, c.len.ensures, c.if-len-wanted.true, c.loop-row.shown.ok.0) in
    record {
      shown = λ ps h. full_early (mark_standing c.args.mark.now) c.args.ranks.now (hit_rows c.args.hits.now) c.args.from c.requires.long c.requires.within c.args.wanted c.loop-row.shown.items ps c.loop-row.row
          (c.loop-row.invariant.shown ps h) c.loop-row.invariant.within many;
    }

pub loop-row-preserved : goal.loop-row-preserved
loop-row-preserved c =
    let mark = mark_standing c.args.mark.now in
    let ranks = c.args.ranks.now in
    let hits = hit_rows c.args.hits.now in
    let from = c.args.from in
    let n = c.args.wanted in
    let ts = c.loop-row.shown.items in
    let row = c.loop-row.row in
    let above = c.loop-row.invariant.above in
    let fits : length ts < n = omega (arith, c.len.ensures, c.if-len-wanted.false, c.loop-row.shown.ok.0) in
    record {
      above = omega (arith, above);
      within = omega (arith, c.loop-row-test.true, c.len-row-end.ensures);
      shown = λ ps h.
          let before = c.loop-row.invariant.shown ps h in
          elim c.if-contains.branch [
            | then-contains+then-is_beyond+in_ok-push_entry w ↦
                ap (λ v. v.items) w.shown-is ∙ w.in_ok-push_entry.ensures.ok
                ∙ shown_more mark ranks hits from c.requires.long c.requires.within n ts ps row before above fits (sym c.contains.ensures ∙ w.if-contains.true) (standing_of w.at-candidate.result) (w.at-candidate.ensures none)
                (sym w.is_beyond.ensures ∙ w.if-is_beyond.true)
            | then-contains+else-is_beyond w ↦
                ap (λ v. v.items) w.shown-is
                ∙ passed_more mark ranks hits from c.requires.long c.requires.within n ts ps row before above (sym c.contains.ensures ∙ w.if-contains.true) (standing_of w.at-candidate.result) (w.at-candidate.ensures none)
                (sym w.is_beyond.ensures ∙ w.if-is_beyond.false)
            | else-contains w ↦
                ap (λ v. v.items) w.shown-is
                ∙ others_more mark ranks hits from c.requires.long c.requires.within n ts ps row before above (sym c.contains.ensures ∙ w.if-contains.false)
          ];
    }

pub returns : goal.returns
returns c =
    let ended : c.loop-row.row ≡ length c.args.ranks.now = omega (arith, c.loop-row.invariant.within, c.loop-row-test.false, c.len-row-end.ensures) in
    record {
      shown = λ ps h.
          c.loop-row.invariant.shown ps h
          ∙ ap (λ qs. take c.args.wanted (map entry_shown (ps ++ qs))) (all_met (mark_standing c.args.mark.now) c.args.ranks.now (hit_rows c.args.hits.now) c.args.from c.requires.long c.requires.within c.loop-row.row ended);
    }
