use Rattle.std.proofs.Common.{◌++◌, length, map}
use Rattle.cat_columns.specs.Merged.{HaveSame, texts_in}
use Rattle.cat_columns.proofs.union.settled.Given as goal

abbrev pub invariant-loop-below : goal.invariant-loop-below
invariant-loop-below l = HaveSame (texts_in l.parts.items ++ map (λ t. t.now) l.all.items) (texts_in l.fn.parts.items ++ map (λ t. t.now) l.fn.part.items)

abbrev pub decreases-loop-below : goal.decreases-loop-below
decreases-loop-below l = length l.parts.items
