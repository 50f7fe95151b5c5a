use Rattle.std.proofs.Common.{arith}
use Rattle.cat_service_tests.proofs.plain.catalogue.Tokens.{greatest_more}
use Rattle.cat_service_tests.proofs.plain.recorded.newest.Goals as goal

pub loop-view-preserved : goal.loop-view-preserved
loop-view-preserved c = grind (arith, greatest_more c.args.views.now c.loop-view.view-index c.view-item.result c.loop-view-test.true)
