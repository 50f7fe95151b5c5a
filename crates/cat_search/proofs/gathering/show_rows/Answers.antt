use Rattle.std.proofs.Common.{◌≡◌, ◌∙◌, ◌++◌, ◌∷◌, [], ◌≤◌, ◌<◌, ℕ, List, Option, true, false, cond, get_or, length, map, take, sym, ap, arith, append-nil, append_assoc}
use Rattle.std.proofs.lemmas.List.{map-append}
use Rattle.cat_model.specs.RowSets.{indices}
use Rattle.cat_model.specs.Page.{Entry}
use Rattle.cat_search.specs.Candidates.{mark_standing, standing_of}
use Rattle.cat_search.specs.Pages.{beyond}
use Rattle.cat_search.specs.Standings.{HitStanding, entry_shown}
use Rattle.cat_search.proofs.Gathered.{none, room, standings_at, standings_at-append, standings_at-all, standings_at-more, next_within, full}
use Rattle.cat_search.proofs.gathering.show_rows.Goals as goal

module _ (mark : Option HitStanding) (ranks : List HitStanding) (n : ℕ) (ts : List Entry) (ps : List HitStanding) (done : List ℕ) (row : ℕ) (p : HitStanding) (at : p ≡ get_or ranks row none) (before : ts ≡ take n (map entry_shown (ps ++ standings_at mark ranks done))) where
  -- one more is shown
  row_shown : length ts < n → beyond mark p ≡ true → ts ++ entry_shown p ∷ [] ≡ take n (map entry_shown (ps ++ standings_at mark ranks (done ++ row ∷ [])))
  row_shown fits after =
      let shown = standings_at mark ranks done in
      room n ts (map entry_shown (ps ++ shown)) (entry_shown p) before fits
      ∙ ap (take n) (
      sym (map-append entry_shown (ps ++ shown) (p ∷ []))
      ∙ ap (map entry_shown) (append_assoc ps shown (p ∷ []) ∙ ap (λ qs. ps ++ qs) (sym (standings_at-more mark ranks done row p at ∙ ap (λ b. shown ++ cond b (p ∷ []) []) after)))
      )

  -- one more is passed
  row_passed : beyond mark p ≡ false → ts ≡ take n (map entry_shown (ps ++ standings_at mark ranks (done ++ row ∷ [])))
  row_passed out =
      let shown = standings_at mark ranks done in
      before ∙ ap (λ qs. take n (map entry_shown (ps ++ qs))) (sym (standings_at-more mark ranks done row p at ∙ ap (λ b. shown ++ cond b (p ∷ []) []) out ∙ append-nil shown))

pub returns-then-len-n : goal.returns-then-len-n
returns-then-len-n c = record {
  shown = λ ps h.
      let mark = mark_standing c.args.mark.now in
      let ranks = c.args.ranks.now in
      let n = c.args.n in
      let before = standings_at mark ranks c.loop-row.yielded in
      let after = standings_at mark ranks (c.in-Some.row ∷ c.next.new.self) in
      let rest : c.loop-row.yielded ++ c.in-Some.row ∷ c.next.new.self ≡ indices c.args.hits.now = rw c.in-Some.ensures.steps at c.loop-row.invariant.rows in
      let many : n ≤ length c.loop-row.shown.items = omega (arith, c.len.ensures, c.if-len-n.true, c.loop-row.shown.ok.0) in
      full n c.loop-row.shown.items (map entry_shown (ps ++ before)) (map entry_shown after) (c.loop-row.invariant.shown ps h) many
      ∙ ap (take n) (sym (map-append entry_shown (ps ++ before) after)
      ∙ ap (map entry_shown) (append_assoc ps before after ∙ ap (λ qs. ps ++ qs) (sym (standings_at-append mark ranks c.loop-row.yielded (c.in-Some.row ∷ c.next.new.self))
      ∙ standings_at-all mark ranks c.args.hits.now (c.loop-row.yielded ++ c.in-Some.row ∷ c.next.new.self) c.requires.long rest)));
}

pub at-candidate-requires : goal.at-candidate-requires
at-candidate-requires c =
    let rest : c.loop-row.yielded ++ c.in-Some.row ∷ c.next.new.self ≡ indices c.args.hits.now = rw c.in-Some.ensures.steps at c.loop-row.invariant.rows in
    next_within c.args.hits.now c.args.ranks.now c.loop-row.yielded c.next.new.self c.in-Some.row rest c.requires.long

pub loop-row-preserved-in-Continue-1 : goal.loop-row-preserved-in-Continue-1
loop-row-preserved-in-Continue-1 c =
    let mark = mark_standing c.args.mark.now in
    let ranks = c.args.ranks.now in
    let done = c.loop-row.yielded in
    let row = c.in-Some.row in
    let rest : done ++ row ∷ c.next.new.self ≡ indices c.args.hits.now = rw c.in-Some.ensures.steps at c.loop-row.invariant.rows in
    let fits : length c.loop-row.shown.items < c.args.n = omega (arith, c.len.ensures, c.if-len-n.false, c.loop-row.shown.ok.0) in
    record {
      can = tt;
      finite = tt;
      rows = append_assoc done (row ∷ []) c.next.new.self ∙ rest;
      shown = λ ps h.
          c.in_ok-push_entry.ensures.ok
          ∙ row_shown mark ranks c.args.n c.loop-row.shown.items ps done row (standing_of c.at-candidate.result) (c.at-candidate.ensures none) (c.loop-row.invariant.shown ps h)
          fits (sym c.is_beyond.ensures ∙ c.if-is_beyond.true);
    }

pub loop-row-preserved : goal.loop-row-preserved
loop-row-preserved c =
    let mark = mark_standing c.args.mark.now in
    let ranks = c.args.ranks.now in
    let done = c.loop-row.yielded in
    let row = c.in-Some.row in
    let rest : done ++ row ∷ c.next.new.self ≡ indices c.args.hits.now = rw c.in-Some.ensures.steps at c.loop-row.invariant.rows in
    record {
      can = tt;
      finite = tt;
      rows = append_assoc done (row ∷ []) c.next.new.self ∙ rest;
      shown = λ ps h. row_passed mark ranks c.args.n c.loop-row.shown.items ps done row (standing_of c.at-candidate.result) (c.at-candidate.ensures none) (c.loop-row.invariant.shown ps h)
          (sym c.is_beyond.ensures ∙ c.if-is_beyond.false);
    }

pub returns : goal.returns
returns c = record {
  shown = λ ps h.
      let mark = mark_standing c.args.mark.now in
      let ended : c.loop-row.row-iterator ≡ [] = c.in-None.ensures.steps.0 in
      let all : c.loop-row.yielded ≡ indices c.args.hits.now = sym (append-nil c.loop-row.yielded) ∙ rw ended at c.loop-row.invariant.rows in
      c.loop-row.invariant.shown ps h ∙ ap (λ qs. take c.args.n (map entry_shown (ps ++ qs))) (standings_at-all mark c.args.ranks.now c.args.hits.now c.loop-row.yielded c.requires.long all);
}
