use Rattle.std.proofs.Common.{◌+◌, List, length, get_or, take, refl, sym, ap, ◌∙◌, arith, subst}
use Rattle.std.proofs.lemmas.List.{length-take, take_all}
use Rattle.cat_model.specs.Page.{first_ranked}
use Rattle.cat_model.specs.Ranks.{AreApart}
use Rattle.cat_model.proofs.Places.{all_pairs}
use Rattle.cat_search.specs.BestItems.{IsBestOf}
use Rattle.cat_facets.specs.declared.first.Ranked.{Ranked}
use Rattle.cat_facets.specs.Met.{label_comes_first, met_from}
use Rattle.cat_facets.proofs.Firsts.{length_more, met_few, none_more, some_more}
use Rattle.cat_facets.proofs.Ranking.{met_apart}
use Rattle.cat_facets.proofs.first.first_met.Goals as goal

pub loop-ordinal-preserved-then-total-eq0 : goal.loop-ordinal-preserved-then-total-eq0
loop-ordinal-preserved-then-total-eq0 c =
    let same = none_more c.args.totals.now c.loop-ordinal.ordinal (omega arith) c.if-total-eq0.true in
    record {
      met = c.loop-ordinal.invariant.met ∙ ap length (sym same);
      limit = c.loop-ordinal.invariant.limit;
      best = subst (λ (xs : List Ranked). IsBestOf label_comes_first c.loop-ordinal.best xs) (sym same) c.loop-ordinal.invariant.best;
    }

pub overflow_add-met : goal.overflow_add-met
overflow_add-met c =
    let ts = c.args.totals.now in
    let few = met_few 0 (take c.loop-ordinal.ordinal ts) in
    let long = length-take c.loop-ordinal.ordinal ts in
    let is = c.loop-ordinal.invariant.met in
    omega (arith, few, long, is)

pub loop-ordinal-preserved : goal.loop-ordinal-preserved
loop-ordinal-preserved c =
    let ts = c.args.totals.now in
    let i = c.loop-ordinal.ordinal in
    let more = some_more ts i (omega arith) c.if-total-eq0.false in
    let met = met_from 0 (take i ts) in
    record {
      met = ap (λ n. n + 1) c.loop-ordinal.invariant.met ∙ sym (length_more met (record { count = record { 0 = get_or ts i 0 }; ordinal = i })) ∙ ap length (sym more);
      limit = c.in_ok-offer.ensures.limit ∙ c.loop-ordinal.invariant.limit;
      best = subst (λ (xs : List Ranked). IsBestOf label_comes_first c.offer.new.self xs) (sym more) (c.in_ok-offer.ensures.best met c.loop-ordinal.invariant.best);
    }

pub returns-clause-first : goal.returns-clause-first
returns-clause-first c =
    let ts = c.args.totals.now in
    let seen = take c.loop-ordinal.ordinal ts in
    c.in_ok-into_items.ensures.ranked (met_from 0 seen) c.loop-ordinal.invariant.best (all_pairs (AreApart label_comes_first) (met_from 0 seen) (met_apart 0 seen))
    ∙ ap (first_ranked label_comes_first (met_from 0 seen)) c.loop-ordinal.invariant.limit
    ∙ ap (λ xs. first_ranked label_comes_first (met_from 0 xs) c.args.n) (take_all c.loop-ordinal.ordinal ts (omega arith))

pub loop-ordinal-init : goal.loop-ordinal-init
loop-ordinal-init c = record { met = refl; limit = c.new-best.ensures.limit; best = c.new-best.ensures.best }

pub returns-clause-met : goal.returns-clause-met
returns-clause-met c = c.loop-ordinal.invariant.met ∙ ap (λ xs. length (met_from 0 xs)) (take_all c.loop-ordinal.ordinal c.args.totals.now (omega arith))
