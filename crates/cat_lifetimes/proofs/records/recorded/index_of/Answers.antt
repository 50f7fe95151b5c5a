use Rattle.std.proofs.Common.{rules}
use Rattle.std.proofs.lemmas.Fn.{always_returns_same}
use Rattle.cat_lifetimes.specs.records.Counts.{recorded_token}
use Rattle.cat_lifetimes.proofs.records.Searched.{searched_some, searched_none}
use Rattle.cat_lifetimes.proofs.records.recorded.index_of.Goals as goal

pub returns-clause-some : goal.returns-clause-some
returns-clause-some c =
    let found = c.binary_search_by_key.ensures.position recorded_token (always_returns_same _ _ _ (λ a r f' k. search rules)) in
    rw c.ok.ensures.value (searched_some c.args.recorded.now c.args.token c.binary_search_by_key.result c.binary_search_by_key.ensures.bound found)

pub returns-clause-none : goal.returns-clause-none
returns-clause-none c =
    let found = c.binary_search_by_key.ensures.position recorded_token (always_returns_same _ _ _ (λ a r f' k. search rules)) in
    rw c.ok.ensures.value (searched_none c.args.recorded.now c.args.token c.binary_search_by_key.result c.requires c.binary_search_by_key.ensures.bound found)
