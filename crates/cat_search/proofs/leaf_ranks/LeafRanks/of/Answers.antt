use Rattle.std.proofs.Common.{◌∙◌, ap, arith}
use Rattle.std.proofs.lemmas.Grind.{elements}
use Rattle.cat_search.specs.Rows.{keyed_standings}
use Rattle.cat_search.proofs.Ranks.{standings-by_keys}
use Rattle.cat_search.proofs.leaf_ranks.LeafRanks.of.Goals as goal

pub returns : goal.returns
returns c =
    ap (λ ks. keyed_standings c.args.order ks c.args.segment.now.rows) c.column_by.ensures ∙ standings-by_keys c.args.order c.args.segment.now.rows

pub invariant_of-result : goal.invariant_of-result
invariant_of-result c = grind (arith, elements)
