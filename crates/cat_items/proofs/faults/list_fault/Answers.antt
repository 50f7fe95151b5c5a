use Rattle.std.proofs.Common.{◌∙◌, ap, sym, arith}
use Rattle.std.proofs.lemmas.List.{drop_all}
use Rattle.serde_json.specs.View.{items_view}
use Rattle.cat_items.specs.Reading.{labels_fault}
use Rattle.cat_items.proofs.LabelSteps.{list_over, list_within, faulty_label}
use Rattle.cat_items.proofs.faults.list_fault.Goals as goal

pub returns-then-len-gt-MAX_LABELS : goal.returns-then-len-gt-MAX_LABELS
returns-then-len-gt-MAX_LABELS c = list_over c.args.labels.now.items (omega arith)

pub returns-in-Some : goal.returns-in-Some
returns-in-Some c =
    sym (faulty_label _ _ _ _ c.loop-label-test.true c.label-item.is (sym c.some_label_fault.ensures ∙ c.in-Some.is)) ∙ c.loop-label.invariant
    ∙ ap (λ l. labels_fault (items_view l)) c.deref-label-items.ensures.value
    ∙ list_within c.args.labels.now.items (omega arith)

pub returns : goal.returns
returns c =
    sym (ap (λ l. labels_fault (items_view l)) (drop_all _ _ c.loop-label-test.false)) ∙ c.loop-label.invariant
    ∙ ap (λ l. labels_fault (items_view l)) c.deref-label-items.ensures.value
    ∙ list_within c.args.labels.now.items (omega arith)
