use Rattle.std.proofs.Common.{◌∙◌, ap}
use Rattle.cat_search.specs.Sorts.{sort_of}
use Rattle.cat_service_tests.specs.plain.Pages.{shown_by}
use Rattle.cat_service_tests.proofs.plain.catalogue.Grown.{mapped_more}
use Rattle.cat_service_tests.proofs.plain.finding.entries_of.Goals as goal

pub loop-hit-preserved : goal.loop-hit-preserved
loop-hit-preserved c =
    let shown = shown_by (sort_of c.args.sort) in
    mapped_more c.args.hits.now c.loop-hit.hit-index c.hit-item.result c.loop-hit-test.true shown c.loop-hit.entries.items c.push.new.self.items _
    c.loop-hit.invariant c.in_ok-push.ensures.items (c.in_ok-entry_of.ensures ∙ ap shown c.hit-item.is)
