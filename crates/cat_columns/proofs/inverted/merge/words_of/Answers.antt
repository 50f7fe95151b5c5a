use Rattle.std.proofs.Common.{List, map, ap, ◌∙◌}
use Rattle.std.proofs.lemmas.List.{take_all}
use Rattle.std.specs.Borrow.{Bor}
use Rattle.cat_model.specs.Text.{Text}
use Rattle.cat_model.specs.Ordinals.{dictionary_of}
use Rattle.cat_columns.specs.declared.inverted.merge.MergeInput as declared
use Rattle.cat_columns.proofs.Pushed.{pushed_both}
use Rattle.cat_columns.proofs.inverted.merge.words_of.Goals as goal

pub loop-input-preserved : goal.loop-input-preserved
loop-input-preserved c =
    pushed_both (λ (w : Bor (List Text)). w.now) (λ (p : declared.MergeInput). dictionary_of p.terms.now) c.loop-input.words.items c.push.new.self.items c.words.result c.args.inputs.now c.loop-input.input-index c.input-item.result c.loop-input-test.true c.input-item.is c.loop-input.invariant c.in_ok-push.ensures.items c.words.ensures.value

pub returns : goal.returns
returns c = record { ok = c.loop-input.invariant ∙ ap (map (λ (p : declared.MergeInput). dictionary_of p.terms.now)) (take_all c.loop-input.input-index c.args.inputs.now c.loop-input-test.false) }
