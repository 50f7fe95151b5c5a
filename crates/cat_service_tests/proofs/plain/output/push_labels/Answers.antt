use Rattle.std.proofs.Common.{◌∙◌, ◌++◌, ap}
use Rattle.cat_service_tests.proofs.plain.catalogue.Written.{label_line, pieces_all, pieces_more}
use Rattle.cat_service_tests.proofs.plain.output.push_labels.Goals as goal

pub loop-counted-preserved : goal.loop-counted-preserved
loop-counted-preserved c =
    let line = label_line c.args.session.now in
    pieces_more line c.args.counts.now c.loop-counted.counted-index c.counted-item.result c.args.to.now.items c.loop-counted.to.items c.push_label.new.to.items
    c.loop-counted-test.true c.loop-counted.invariant (c.in_ok-push_label.ensures ∙ ap (λ x. c.loop-counted.to.items ++ line x) c.counted-item.is)

pub returns : goal.returns
returns c =
    pieces_all (label_line c.args.session.now) c.args.counts.now c.loop-counted.counted-index c.args.to.now.items c.loop-counted.to.items c.loop-counted-test.false c.loop-counted.invariant
