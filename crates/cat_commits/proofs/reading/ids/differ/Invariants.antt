use Rattle.std.proofs.Common.{map, take}
use Rattle.cat_columns.specs.Columns.{has_text}
use Rattle.cat_commits.proofs.reading.Known.{Known}
use Rattle.cat_commits.proofs.reading.ids.differ.Given as goal

abbrev pub invariant-loop-text : goal.invariant-loop-text
invariant-loop-text l = Known (λ q. has_text q l.seen) (map (λ t. t.now) (take l.text-index l.texts))
