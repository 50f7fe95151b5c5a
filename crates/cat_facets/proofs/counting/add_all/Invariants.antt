use Rattle.std.proofs.Common.{◌≡◌, ℕ, ◌+◌, ◌<◌, length, get_or, map, take}
use Rattle.cat_model.specs.Ordinals.{dictionary_of}
use Rattle.cat_facets.specs.Tallies.{label_count, sum_at}
use Rattle.cat_facets.proofs.counting.add_all.Given as goal

abbrev pub invariant-loop-ordinal : goal.invariant-loop-ordinal
invariant-loop-ordinal l = (g : ℕ) → g < length l.totals → get_or l.totals g 0 ≡ get_or l.initial.totals g 0 + sum_at g (take l.ordinal l.globals) (take l.ordinal (map (λ t. label_count t l.terms) (dictionary_of l.terms)))
