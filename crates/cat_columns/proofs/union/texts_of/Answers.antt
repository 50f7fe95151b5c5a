use Rattle.std.proofs.Common.{map, ap, refl, ◌∙◌}
use Rattle.std.proofs.lemmas.List.{take_all}
use Rattle.std.specs.Borrow.{Bor}
use Rattle.cat_model.specs.Text.{Text}
use Rattle.cat_columns.proofs.Pushed.{pushed}
use Rattle.cat_columns.proofs.union.texts_of.Goals as goal

pub loop-text-init : goal.loop-text-init
loop-text-init c = ap (map (λ (t : Bor Text). t.now)) c.in_ok-texts.ensures.items

pub loop-text-preserved : goal.loop-text-preserved
loop-text-preserved c =
    pushed (λ (t : Bor Text). t.now) c.loop-text.texts.items c.push.new.self.items _ c.args.set.now c.loop-text.text-index c.text-item.result c.loop-text-test.true c.text-item.is c.loop-text.invariant c.in_ok-push.ensures.items refl

pub returns : goal.returns
returns c = record { ok = c.loop-text.invariant ∙ take_all c.loop-text.text-index c.args.set.now c.loop-text-test.false }
