use Rattle.std.proofs.Common.{◌≡◌}
use Rattle.serde_json.specs.View.{members_view}
use Rattle.cat_items.specs.Reading.{first_fault}
use Rattle.cat_items.proofs.faults.first_fault.Given as goal

abbrev pub invariant-loop-name : goal.invariant-loop-name
invariant-loop-name l = first_fault l.fields (members_view l.name-iterator) ≡ first_fault l.fields (members_view l.members.entries)
