use Rattle.std.proofs.Common.{◌≡◌, take}
use Rattle.cat_items.proofs.file_parts.fields.fields_of.Given as goal

abbrev pub invariant-loop-head : goal.invariant-loop-head
invariant-loop-head l = l.out.items ≡ take l.head-index l.heads
