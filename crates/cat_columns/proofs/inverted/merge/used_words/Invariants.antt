use Rattle.std.proofs.Common.{◌≡◌, length, map, filter, nat_lt, take}
use Rattle.std.specs.List.{zip}
use Rattle.cat_columns.proofs.inverted.merge.used_words.Given as goal

abbrev pub invariant-loop-ordinal : goal.invariant-loop-ordinal
invariant-loop-ordinal l = l.used.items ≡ map (λ e. e.0) (filter (λ e. nat_lt 0 (length e.1)) (zip (take l.ordinal l.words) (map (λ list. list.items) (take l.ordinal l.lists))))
