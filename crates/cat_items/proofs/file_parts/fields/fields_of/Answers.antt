use Rattle.std.proofs.Common.{◌≡◌, ◌∙◌, arith}
use Rattle.std.proofs.lemmas.Grind.{elements}
use Rattle.cat_items.proofs.Taken.{taken_more}
use Rattle.cat_items.proofs.file_parts.fields.fields_of.Goals as goal

pub loop-head-preserved : goal.loop-head-preserved
loop-head-preserved c =
    let one : c.new.result ≡ c.head-item.result = c.new.ensures ∙ (λ j. record { name = (c.in_ok-name.ensures.ok ∙ c.name.ensures) j; kind = c.kind.ensures j }) in
    taken_more c.args.heads.now c.loop-head.head-index c.head-item.result c.new.result c.loop-head.out.items _ c.loop-head-test.true c.head-item.is one c.in_ok-push.ensures.items c.loop-head.invariant

pub returns : goal.returns
returns c = grind (arith, elements)
