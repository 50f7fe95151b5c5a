use Rattle.std.proofs.Common.{◌≡◌, ◌++◌, option_map}
use Rattle.serde_json.specs.View.{members_view}
use Rattle.cat_items.specs.Reading.{fields_of}
use Rattle.cat_items.proofs.fields.read_fields.Given as goal

abbrev pub invariant-loop-name : goal.invariant-loop-name
invariant-loop-name l = option_map (λ fs. l.fields.items ++ fs) (fields_of (members_view l.name-iterator)) ≡ fields_of (members_view l.members.entries)
