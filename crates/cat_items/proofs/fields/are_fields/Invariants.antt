use Rattle.std.proofs.Common.{◌≡◌, is_some}
use Rattle.serde_json.specs.View.{members_view}
use Rattle.cat_items.specs.Reading.{fields_of}
use Rattle.cat_items.proofs.fields.are_fields.Given as goal

abbrev pub invariant-loop-name : goal.invariant-loop-name
invariant-loop-name l = is_some (fields_of (members_view l.name-iterator)) ≡ is_some (fields_of (members_view l.members.entries))
