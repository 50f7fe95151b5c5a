use Rattle.std.proofs.Common.{◌≡◌, take, map}
use Rattle.cat_columns.proofs.union.texts_of.Given as goal

abbrev pub invariant-loop-text : goal.invariant-loop-text
invariant-loop-text l = map (λ t. t.now) l.texts.items ≡ take l.text-index l.set
