use Rattle.std.proofs.Common.{IsUtf8, ◌∙◌, ap, arith}
use Rattle.std.proofs.lemmas.List.Elements.{All-same, All-push}
use Rattle.std.proofs.lemmas.Grind.{common_steps}
use Rattle.cat_items.proofs.LabelSteps.{label_taken, label_passed}
use Rattle.cat_items.proofs.LoweredRuns.{All-sorted_set}
use Rattle.cat_items.proofs.assembly.label_set.Goals as goal
use Rattle.cat_items.proofs.assembly.label_set.Goals.{in-Some+in_ok-copied+in_ok-push, in_default}

pub loop-label-preserved : goal.loop-label-preserved
loop-label-preserved c =
    elim c.match-as_str.branch [
      | in-Some+in_ok-copied+in_ok-push w ↦ record {
        utf8 = All-same IsUtf8 _ _ (ap (λ v. v.items) w.texts-is ∙ w.in_ok-push.ensures.items) (All-push IsUtf8 _ _ c.loop-label.invariant.utf8 w.in_ok-copied.ensures.utf8);
        done = label_taken _ _ c.deref-label-items.result.now _ _ _ _ c.loop-label-test.true c.label-item.is w.in-Some.ensures w.in_ok-copied.ensures.ok (ap (λ v. v.items) w.texts-is ∙ w.in_ok-push.ensures.items) ∙ c.loop-label.invariant.done;
      }
      | in_default w ↦ record {
        utf8 = All-same IsUtf8 _ _ (ap (λ v. v.items) w.texts-is) c.loop-label.invariant.utf8;
        done = label_passed _ _ c.deref-label-items.result.now _ _ c.loop-label-test.true c.label-item.is w.in_default.ensures (ap (λ v. v.items) w.texts-is) ∙ c.loop-label.invariant.done;
      }
    ]

pub returns-clause-utf8 : goal.returns-clause-utf8
returns-clause-utf8 c = All-same IsUtf8 _ _ c.of.ensures (All-sorted_set IsUtf8 _ c.loop-label.invariant.utf8)

pub returns-clause-ok : goal.returns-clause-ok
returns-clause-ok c = grind (arith, common_steps)
