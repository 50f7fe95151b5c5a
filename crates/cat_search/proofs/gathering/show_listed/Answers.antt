use Rattle.std.proofs.Common.{◌≡◌, ◌≤◌, ◌<◌, ◌∙◌, ◌++◌, get_or, length, map, take, refl, sym, ap, arith, append-nil}
use Rattle.cat_search.specs.Candidates.{mark_standing, standing_of}
use Rattle.cat_search.specs.Standings.{entry_shown}
use Rattle.cat_search.proofs.Gathered.{none}
use Rattle.cat_search.proofs.ListedRows.{dead_passed, listed_end, listed_full, passed_listed, shown_listed}
use Rattle.cat_search.proofs.gathering.show_listed.Goals as goal
use Rattle.cat_search.proofs.gathering.show_listed.Goals.{then-is_live+then-is_beyond+in_ok-push_entry, then-is_live+else-is_beyond, else-is_live}

pub is_live-requires : goal.is_live-requires
is_live-requires c =
    let within : get_or c.args.rows.now c.loop-listed.listed-index 0 < length c.args.ranks.now = c.requires.within c.loop-listed.listed-index 0 c.loop-listed-test.true in
    omega (arith, within, c.requires.long)

pub at-candidate-requires : goal.at-candidate-requires
at-candidate-requires c = c.requires.within c.loop-listed.listed-index 0 c.loop-listed-test.true

pub loop-listed-init : goal.loop-listed-init
loop-listed-init c = λ ps h. h ∙ ap (λ qs. take c.args.most (map entry_shown qs)) (sym (append-nil ps))

pub returns-then-len-most : goal.returns-then-len-most
returns-then-len-most c =
    let many : c.args.most ≤ length c.loop-listed.shown.items = omega (arith, c.len.ensures, c.if-len-most.true, c.loop-listed.shown.ok.0) in
    record {
      shown = λ ps h. listed_full (mark_standing c.args.mark.now) c.args.ranks.now c.args.live.now c.args.rows.now c.args.most c.loop-listed.shown.items ps c.loop-listed.listed-index
          (c.loop-listed.invariant ps h) many;
    }

pub loop-listed-preserved : goal.loop-listed-preserved
loop-listed-preserved c = λ ps h.
    let mark = mark_standing c.args.mark.now in
    let ranks = c.args.ranks.now in
    let live = c.args.live.now in
    let rows = c.args.rows.now in
    let n = c.args.most in
    let ts = c.loop-listed.shown.items in
    let i = c.loop-listed.listed-index in
    let row = get_or rows i 0 in
    let more = c.loop-listed-test.true in
    let before = c.loop-listed.invariant ps h in
    let fits : length ts < n = omega (arith, c.len.ensures, c.if-len-most.false, c.loop-listed.shown.ok.0) in
    elim c.if-is_live.branch [
      | then-is_live+then-is_beyond+in_ok-push_entry w ↦
          ap (λ v. v.items) w.shown-is ∙ w.in_ok-push_entry.ensures.ok
          ∙ shown_listed mark ranks live rows n ts ps i before row more refl fits (sym c.is_live.ensures ∙ w.if-is_live.true) (standing_of w.at-candidate.result) (w.at-candidate.ensures none)
          (sym w.is_beyond.ensures ∙ w.if-is_beyond.true)
      | then-is_live+else-is_beyond w ↦
          ap (λ v. v.items) w.shown-is
          ∙ passed_listed mark ranks live rows n ts ps i before row more refl (sym c.is_live.ensures ∙ w.if-is_live.true) (standing_of w.at-candidate.result) (w.at-candidate.ensures none)
          (sym w.is_beyond.ensures ∙ w.if-is_beyond.false)
      | else-is_live w ↦
          ap (λ v. v.items) w.shown-is
          ∙ dead_passed mark ranks live rows n ts ps i before row more refl (sym c.is_live.ensures ∙ w.if-is_live.false)
    ]

pub returns : goal.returns
returns c = record {
  shown = λ ps h.
      c.loop-listed.invariant ps h
      ∙ ap (λ qs. take c.args.most (map entry_shown (ps ++ qs)))
      (listed_end (mark_standing c.args.mark.now) c.args.ranks.now c.args.live.now c.args.rows.now c.loop-listed.listed-index c.loop-listed-test.false);
}
