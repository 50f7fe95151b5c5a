use Rattle.std.proofs.Common.{◌∙◌, ap, arith}
use Rattle.std.proofs.lemmas.Grind.{elements}
use Rattle.cat_service_tests.proofs.plain.catalogue.Grown.{mapped_more}
use Rattle.cat_service_tests.proofs.plain.recorded.tokens_of.Goals as goal

pub loop-view-preserved : goal.loop-view-preserved
loop-view-preserved c =
    mapped_more c.args.views.now c.loop-view.view-index c.view-item.result c.loop-view-test.true (λ v. v.token) c.loop-view.tokens.items c.push.new.self.items _
    c.loop-view.invariant c.in_ok-push.ensures.items (c.token.ensures ∙ ap (λ v. v.token) c.view-item.is)

pub returns : goal.returns
returns c = grind (arith, elements)
