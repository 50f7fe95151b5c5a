use Rattle.std.proofs.Common.{◌++◌, [], ◌∷◌, map, take, ap, sym, ◌∙◌, subst}
use Rattle.std.proofs.lemmas.List.{take_all}
use Rattle.cat_model.specs.Page.{first_ranked}
use Rattle.cat_search.specs.BestItems.{IsBestOf}
use Rattle.cat_service_tests.specs.plain.Counts.{count_comes_first, counted_of}
use Rattle.cat_service_tests.proofs.plain.catalogue.LabelRanks.{first_told, labels_apart, labels_more, ranked_label}
use Rattle.cat_service_tests.proofs.plain.counting.first_counts.Goals as goal

pub loop-label-preserved : goal.loop-label-preserved
loop-label-preserved c =
    let told = ranked_label c.args.dim.now c.args.hits.now in
    let ls = c.args.labels.now in
    let i = c.loop-label.label-index in
    let more =
    labels_more c.args.dim.now c.args.hits.now ls i c.label-item.result c.loop-label-test.true
    ∙ ap (λ l. map told (take i ls) ++ told l ∷ []) (sym c.label-item.is)
    ∙ ap (λ r. map told (take i ls) ++ r ∷ []) (sym c.in_ok-counted.ensures.ok) in
    record {
      limit = c.in_ok-offer.ensures.limit ∙ c.loop-label.invariant.limit;
      best = subst (IsBestOf count_comes_first c.offer.new.self) (sym more) (c.in_ok-offer.ensures.best (map told (take i ls)) c.loop-label.invariant.best);
    }

pub returns : goal.returns
returns c =
    let dim = c.args.dim.now in
    let hs = c.args.hits.now in
    let ls = c.args.labels.now in
    let told = ranked_label dim hs in
    let best = subst (λ xs. IsBestOf count_comes_first c.loop-label.best (map told xs)) (take_all c.loop-label.label-index ls c.loop-label-test.false) c.loop-label.invariant.best in
    record {
      ok =
          ap (map counted_of) (c.in_ok-first.ensures.ranked (map told ls) best (labels_apart dim hs ls c.requires))
          ∙ ap (λ n. map counted_of (first_ranked count_comes_first (map told ls) n)) c.loop-label.invariant.limit
          ∙ first_told dim hs ls c.args.count;
    }
