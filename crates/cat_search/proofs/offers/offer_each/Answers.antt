use Rattle.std.proofs.Common.{◌≡◌, ◌∙◌, ◌++◌, ◌∷◌, [], option_map, sym, ap, subst, append-nil, append_assoc}
use Rattle.cat_model.specs.RowSets.{indices}
use Rattle.cat_search.specs.Candidates.{standing_of, IsBestAt}
use Rattle.cat_search.proofs.Gathered.{none, one, standings_at, standings_at-more, standings_at-all, next_within}
use Rattle.cat_search.proofs.offers.offer_each.Goals as goal

pub at-requires : goal.at-requires
at-requires c =
    let rest : c.loop-row.yielded ++ c.in-Some.row ∷ c.next.new.self ≡ indices c.args.hits.now = rw c.in-Some.ensures.steps at c.loop-row.invariant.rows in
    next_within c.args.hits.now c.args.ranks.now c.loop-row.yielded c.next.new.self c.in-Some.row rest c.requires

pub loop-row-preserved : goal.loop-row-preserved
loop-row-preserved c =
    let mark = option_map standing_of c.args.mark.now in
    let ranks = c.args.ranks.now in
    let rest : c.loop-row.yielded ++ c.in-Some.row ∷ c.next.new.self ≡ indices c.args.hits.now = rw c.in-Some.ensures.steps at c.loop-row.invariant.rows in
    let more = standings_at-more mark ranks c.loop-row.yielded c.in-Some.row (standing_of c.at.result) (c.at.ensures none) in
    record {
      can = tt;
      finite = tt;
      rows = append_assoc c.loop-row.yielded (c.in-Some.row ∷ []) c.next.new.self ∙ rest;
      limit = c.in_ok-offer_hit.ensures.limit ∙ c.loop-row.invariant.limit;
      best = λ ps h. subst (IsBestAt c.offer_hit.new.best)
          (append_assoc ps (standings_at mark ranks c.loop-row.yielded) (one mark (standing_of c.at.result)) ∙ ap (λ qs. ps ++ qs) (sym more))
          (c.in_ok-offer_hit.ensures.best (ps ++ standings_at mark ranks c.loop-row.yielded) (c.loop-row.invariant.best ps h));
    }

pub returns-clause-best : goal.returns-clause-best
returns-clause-best c = λ ps h.
    let mark = option_map standing_of c.args.mark.now in
    let ended : c.loop-row.row-iterator ≡ [] = c.in-None.ensures.steps.0 in
    let all : c.loop-row.yielded ≡ indices c.args.hits.now = sym (append-nil c.loop-row.yielded) ∙ rw ended at c.loop-row.invariant.rows in
    subst (IsBestAt c.loop-row.best) (ap (λ qs. ps ++ qs) (standings_at-all mark c.args.ranks.now c.args.hits.now c.loop-row.yielded c.requires all)) (c.loop-row.invariant.best ps h)
