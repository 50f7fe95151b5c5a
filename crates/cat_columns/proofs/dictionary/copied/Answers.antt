use Rattle.std.proofs.Common.{map, ap, ◌∙◌}
use Rattle.std.proofs.lemmas.List.{take_all}
use Rattle.std.specs.Borrow.{Bor}
use Rattle.cat_model.specs.Text.{Text}
use Rattle.cat_columns.proofs.Pushed.{pushed_seen}
use Rattle.cat_columns.proofs.dictionary.copied.Goals as goal

pub loop-text-preserved : goal.loop-text-preserved
loop-text-preserved c =
    pushed_seen (λ (t : Bor Text). t.now) c.loop-text.copies.items c.push.new.self.items _ c.args.texts.now c.loop-text.text-index c.text-item.result c.loop-text-test.true c.text-item.is c.loop-text.invariant c.in_ok-push.ensures.items c.in_ok-copy.ensures.ok

pub returns : goal.returns
returns c = record { ok = c.loop-text.invariant ∙ ap (map (λ (t : Bor Text). t.now)) (take_all c.loop-text.text-index c.args.texts.now c.loop-text-test.false) }
