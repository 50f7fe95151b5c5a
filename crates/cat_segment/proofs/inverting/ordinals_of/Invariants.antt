use Rattle.std.proofs.Common.{◌≡◌, ◌≤◌, map, take, length}
use Rattle.cat_model.specs.Layout.{pieces, AreEnds}
use Rattle.cat_segment.specs.Parts.{ordinals_of}
use Rattle.cat_segment.proofs.inverting.ordinals_of.Given as goal

abbrev pub invariant-loop-code : goal.invariant-loop-code
invariant-loop-code l = record {
  few : length l.ordinals.items ≤ l.code-index;
  parts : AreEnds 0 l.ends.items (length l.ordinals.items);
  rows : pieces 0 l.ends.items l.ordinals.items ≡ map ordinals_of (take l.code-index l.codes);
}
