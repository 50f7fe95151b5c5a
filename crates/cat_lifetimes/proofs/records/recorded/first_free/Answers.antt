use Rattle.std.proofs.Common.{ltb, not, rules, tests}
use Rattle.std.proofs.lemmas.Iterator.{YieldsList-from_slice}
use Rattle.std.proofs.lemmas.Iterator.Search.{position_from_yields_List}
use Rattle.cat_lifetimes.specs.declared.records.recorded.Recorded.{Recorded}
use Rattle.cat_lifetimes.proofs.records.recorded.first_free.Goals as goal

pub returns : goal.returns
returns c =
    position_from_yields_List (λ (r : Recorded). not (ltb 0 r.holders)) _ _ _ c.position.ensures.ran (YieldsList-from_slice c.args.recorded.now cc)
    (λ x b q k. search (rules, tests))
