use Rattle.std.proofs.Common.{◌≡◌, ◌∙◌, ◌++◌, ◌∷◌, [], get_or, sym, ap, subst, refl, arith, rules, append-nil, append_assoc}
use Rattle.cat_model.specs.RowSets.{indices}
use Rattle.cat_search.specs.Candidates.{IsBestAt, mark_standing, standing_of}
use Rattle.cat_search.proofs.Bars.{rank_of_key, length-keyed, renewed_ranks, renewed_left_out}
use Rattle.cat_search.proofs.Gathered.{none, one, standings_at, standings_at-more, standings_at-all, next_within}
use Rattle.cat_search.proofs.offers.offer_by.Goals as goal

pub lets_in-requires : goal.lets_in-requires
lets_in-requires g c =
    let rest : c.loop-row.yielded ++ c.in-Some.row ∷ c.next.new.self ≡ indices c.args.hits.now = rw c.in-Some.ensures.steps at c.loop-row.invariant.rows in
    let within = next_within c.args.hits.now c.args.ranks.now c.loop-row.yielded c.next.new.self c.in-Some.row rest c.requires.long in
    let long = length-keyed (g.B.Bar.order c.loop-row.bar) (g.B.Bar.keys c.loop-row.bar) c.args.ranks.now c.loop-row.invariant.ranked in
    λ k. ((refl, tt), (c.loop-row.invariant.sound, omega (arith, within, long)))

pub at-requires : goal.at-requires
at-requires g c =
    let rest : c.loop-row.yielded ++ c.in-Some.row ∷ c.next.new.self ≡ indices c.args.hits.now = rw c.in-Some.ensures.steps at c.loop-row.invariant.rows in
    next_within c.args.hits.now c.args.ranks.now c.loop-row.yielded c.next.new.self c.in-Some.row rest c.requires.long

pub loop-row-init : goal.loop-row-init
loop-row-init g c =
    let order = g.B.Bar.order in
    let keys = g.B.Bar.keys in
    record {
      can = tt;
      finite = tt;
      rows = search rules;
      limit = refl;
      sound = c.renew.ensures.sound;
      ranked = renewed_ranks (order c.renew.new.self) (order c.args.bar.now) (keys c.renew.new.self) (keys c.args.bar.now) c.renew.ensures.order c.renew.ensures.keys c.args.ranks.now c.requires.ranked;
      out = λ row h. renewed_left_out (order c.renew.new.self) (order c.args.bar.now) (keys c.renew.new.self) (keys c.args.bar.now) c.renew.ensures.order c.renew.ensures.keys (mark_standing c.args.mark.now) c.args.best.now row
          (c.renew.ensures.bar row h);
      best = λ ps h. subst (IsBestAt c.args.best.now) (sym (append-nil ps)) h;
    }

pub loop-row-preserved-then-lets_in : goal.loop-row-preserved-then-lets_in
loop-row-preserved-then-lets_in g c =
    let order = g.B.Bar.order in
    let keys = g.B.Bar.keys in
    let mark = mark_standing c.args.mark.now in
    let ranks = c.args.ranks.now in
    let rest : c.loop-row.yielded ++ c.in-Some.row ∷ c.next.new.self ≡ indices c.args.hits.now = rw c.in-Some.ensures.steps at c.loop-row.invariant.rows in
    let more = standings_at-more mark ranks c.loop-row.yielded c.in-Some.row (standing_of c.at.result) (c.at.ensures none) in
    let renewed = c.renew-then-lets_in in
    record {
      can = tt;
      finite = tt;
      rows = append_assoc c.loop-row.yielded (c.in-Some.row ∷ []) c.next.new.self ∙ rest;
      limit = c.in_ok-offer_hit.ensures.limit ∙ c.loop-row.invariant.limit;
      sound = renewed.ensures.sound;
      ranked = renewed_ranks (order renewed.new.self) (order c.loop-row.bar) (keys renewed.new.self) (keys c.loop-row.bar) renewed.ensures.order renewed.ensures.keys ranks c.loop-row.invariant.ranked;
      out = λ row h. renewed_left_out (order renewed.new.self) (order c.loop-row.bar) (keys renewed.new.self) (keys c.loop-row.bar) renewed.ensures.order renewed.ensures.keys mark c.offer_hit.new.best row (renewed.ensures.bar row h);
      best = λ ps h. subst (IsBestAt c.offer_hit.new.best)
          (append_assoc ps (standings_at mark ranks c.loop-row.yielded) (one mark (standing_of c.at.result)) ∙ ap (λ qs. ps ++ qs) (sym more))
          (c.in_ok-offer_hit.ensures.best (ps ++ standings_at mark ranks c.loop-row.yielded) (c.loop-row.invariant.best ps h));
    }

pub loop-row-preserved : goal.loop-row-preserved
loop-row-preserved g c =
    let mark = mark_standing c.args.mark.now in
    let ranks = c.args.ranks.now in
    let rest : c.loop-row.yielded ++ c.in-Some.row ∷ c.next.new.self ≡ indices c.args.hits.now = rw c.in-Some.ensures.steps at c.loop-row.invariant.rows in
    let standing = get_or ranks c.in-Some.row none in
    let more = standings_at-more mark ranks c.loop-row.yielded c.in-Some.row standing refl in
    let rank = rank_of_key (g.B.Bar.order c.loop-row.bar) (g.B.Bar.keys c.loop-row.bar) ranks c.loop-row.invariant.ranked c.in-Some.row in
    record {
      can = tt;
      finite = tt;
      rows = append_assoc c.loop-row.yielded (c.in-Some.row ∷ []) c.next.new.self ∙ rest;
      limit = c.loop-row.invariant.limit;
      sound = c.loop-row.invariant.sound;
      ranked = c.loop-row.invariant.ranked;
      out = c.loop-row.invariant.out;
      best = λ ps h. subst (IsBestAt c.loop-row.best)
          (append_assoc ps (standings_at mark ranks c.loop-row.yielded) (one mark standing) ∙ ap (λ qs. ps ++ qs) (sym more))
          (c.loop-row.invariant.out c.in-Some.row (c.lets_in.ensures c.if-lets_in.false) standing rank (ps ++ standings_at mark ranks c.loop-row.yielded) (c.loop-row.invariant.best ps h));
    }

pub returns-clause-best : goal.returns-clause-best
returns-clause-best g c = λ ps h.
    let mark = mark_standing c.args.mark.now in
    let ended : c.loop-row.row-iterator ≡ [] = c.in-None.ensures.steps.0 in
    let all : c.loop-row.yielded ≡ indices c.args.hits.now = sym (append-nil c.loop-row.yielded) ∙ rw ended at c.loop-row.invariant.rows in
    subst (IsBestAt c.loop-row.best) (ap (λ qs. ps ++ qs) (standings_at-all mark c.args.ranks.now c.args.hits.now c.loop-row.yielded c.requires.long all)) (c.loop-row.invariant.best ps h)
