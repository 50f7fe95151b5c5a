use Rattle.std.specs.Prelude.{◌↔◌}
use Rattle.cat_model.specs.Item.{AreFields}
use Rattle.cat_items.specs.Contents.{named_contents}
use Rattle.cat_items.proofs.Accepted.{HasFrom}
use Rattle.cat_items.proofs.item.Item.has_fields.Given as goal

abbrev pub invariant-loop-i : goal.invariant-loop-i
invariant-loop-i l = HasFrom l.i l.fields l.own l.values ↔ AreFields l.fields (named_contents l.own l.values)
