use Rattle.std.proofs.Common.{◌≡◌, take, map}
use Rattle.cat_columns.proofs.dictionary.copied.Given as goal

abbrev pub invariant-loop-text : goal.invariant-loop-text
invariant-loop-text l = l.copies.items ≡ map (λ t. t.now) (take l.text-index l.texts)
