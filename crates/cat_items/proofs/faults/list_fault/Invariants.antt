use Rattle.std.proofs.Common.{◌≡◌, drop}
use Rattle.serde_json.specs.View.{items_view}
use Rattle.cat_items.specs.Reading.{labels_fault}
use Rattle.cat_items.proofs.faults.list_fault.Given as goal

abbrev pub invariant-loop-label : goal.invariant-loop-label
invariant-loop-label l = labels_fault (items_view (drop l.label-index l.label-items)) ≡ labels_fault (items_view l.label-items)
