use Rattle.std.proofs.Common.{◌<◌, ◌∙◌, length, map, ap}
use Rattle.std.proofs.lemmas.List.Elements.{All-from_recursion}
use Rattle.cat_facets.specs.Met.{label_told}
use Rattle.cat_facets.proofs.Ranking.{first_within}
use Rattle.cat_facets.proofs.first.facets_told.Goals as goal

pub counts_told-requires : goal.counts_told-requires
counts_told-requires c =
    let labels = c.args.labels.now in
    All-from_recursion (λ r. r.ordinal < length labels) c.deref.result.now
    (first_within labels c.args.totals.now c.args.n c.requires.rise c.requires.long c.deref.result.now (c.deref.ensures.value ∙ c.in_ok-met.ensures.first))

pub returns : goal.returns
returns c = record {
  ok =
      c.new.ensures
      ∙ (λ i. record {
        matching = c.args.labelled;
        met = c.in_ok-met.ensures.met i;
        counts = (c.in_ok-counts.ensures.ok ∙ ap (map (label_told c.args.labels.now)) (c.deref.ensures.value ∙ c.in_ok-met.ensures.first)) i;
      });
}
