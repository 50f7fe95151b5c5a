use Rattle.std.proofs.Common.{◌∙◌, ◌++◌, [], ap, arith}
use Rattle.std.proofs.lemmas.Grind.{elements}
use Rattle.cat_model.specs.Facets.{labels_of}
use Rattle.cat_model.specs.Item.{content_of, labels_in}
use Rattle.cat_service_tests.proofs.plain.catalogue.Written.{pieces_more}
use Rattle.cat_service_tests.proofs.plain.counting.labels_met.Goals as goal

pub loop-hit-preserved : goal.loop-hit-preserved
loop-hit-preserved c =
    let dim = c.args.dim.now in
    let labels = c.labels_in.ensures ∙ ap (λ item. labels_in (content_of dim item)) c.item.ensures ∙ ap (labels_of dim) c.hit-item.is in
    pieces_more (labels_of dim) c.args.hits.now c.loop-hit.hit-index c.hit-item.result [] c.loop-hit.texts.items c.push_labels.new.texts.items c.loop-hit-test.true
    c.loop-hit.invariant (c.in_ok-push_labels.ensures.ok ∙ ap (λ l. c.loop-hit.texts.items ++ l) labels)

pub returns : goal.returns
returns c = grind (arith, elements)
