use Rattle.std.proofs.Common.{take}
use Rattle.std.specs.List.{flat_map}
use Rattle.cat_columns.specs.Merged.{HaveSame, texts_in}
use Rattle.cat_columns.proofs.union.united.Given as goal

abbrev pub invariant-loop-set : goal.invariant-loop-set
invariant-loop-set l = HaveSame (texts_in l.parts.items) (flat_map (λ s. s.now) (take l.set-index l.sets))
