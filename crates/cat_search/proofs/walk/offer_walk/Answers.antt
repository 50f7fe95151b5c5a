use Rattle.std.proofs.Common.{◌≡◌, ◌++◌, ◌∷◌, [], sym, ap, subst, ◌∙◌, append_assoc, append-nil}
use Rattle.cat_search.specs.Candidates.{IsBestAt, mark_standing}
use Rattle.cat_search.specs.Hits.{hit_rows}
use Rattle.cat_search.proofs.Stepped.{row_within, taken, taken_more, taken_early}
use Rattle.cat_search.proofs.walk.offer_walk.Goals as goal

pub offer_step-requires : goal.offer_step-requires
offer_step-requires c =
    let rest : c.loop-row.yielded ++ c.in-Some.row ∷ c.next.new.self ≡ c.args.walk = rw c.in-Some.ensures.steps at c.loop-row.invariant.rows in
    record {
      long = c.requires.long;
      within = row_within (mark_standing c.args.mark.now) c.args.ranks.now (hit_rows c.args.hits.now) c.args.walk c.requires.run c.loop-row.yielded c.in-Some.row c.next.new.self rest;
    }

pub returns-then-not-goes_on-clause-best : goal.returns-then-not-goes_on-clause-best
returns-then-not-goes_on-clause-best c = λ ps h.
    let rest : c.loop-row.yielded ++ c.in-Some.row ∷ c.next.new.self ≡ c.args.walk = rw c.in-Some.ensures.steps at c.loop-row.invariant.rows in
    let mark = mark_standing c.args.mark.now in
    let ranks = c.args.ranks.now in
    let hits = hit_rows c.args.hits.now in
    let done = c.loop-row.yielded in
    let new = c.offer_step.new.best in
    let ended = c.in_ok-goes_on.ensures.ends c.if-not-goes_on.true in
    let so_far = ps ++ taken mark ranks hits done in
    taken_early mark ranks hits c.args.walk c.requires.run done c.in-Some.row c.next.new.self rest new ended.0 ps (subst (IsBestAt new) (append-nil so_far) (ended.1 so_far (c.loop-row.invariant.best ps h)))

pub loop-row-preserved : goal.loop-row-preserved
loop-row-preserved c =
    let ranks = c.args.ranks.now in
    let hits = hit_rows c.args.hits.now in
    let mark = mark_standing c.args.mark.now in
    let done = c.loop-row.yielded in
    let row = c.in-Some.row in
    let rest : done ++ row ∷ c.next.new.self ≡ c.args.walk = rw c.in-Some.ensures.steps at c.loop-row.invariant.rows in
    record {
      can = tt;
      finite = tt;
      rows = append_assoc done (row ∷ []) c.next.new.self ∙ rest;
      limit = c.in_ok-goes_on.ensures.limit ∙ c.loop-row.invariant.limit;
      best = λ ps h.
          let so_far = taken mark ranks hits done in
          subst (IsBestAt c.offer_step.new.best) (append_assoc ps so_far (taken mark ranks hits (row ∷ [])) ∙ ap (λ l. ps ++ l) (taken_more mark ranks hits done row))
          (c.in_ok-goes_on.ensures.goes c.if-not-goes_on.false (ps ++ so_far) (c.loop-row.invariant.best ps h));
    }

pub returns-clause-best : goal.returns-clause-best
returns-clause-best c = λ ps h.
    let mark = mark_standing c.args.mark.now in
    let ended : c.loop-row.row-iterator ≡ [] = c.in-None.ensures.steps.0 in
    let all : c.loop-row.yielded ≡ c.args.walk = sym (append-nil c.loop-row.yielded) ∙ rw ended at c.loop-row.invariant.rows in
    subst (λ l. IsBestAt c.loop-row.best (ps ++ taken mark c.args.ranks.now (hit_rows c.args.hits.now) l)) all (c.loop-row.invariant.best ps h)
