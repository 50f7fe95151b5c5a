use Rattle.std.proofs.Common.{◌≡◌, ℕ, List, rules, tests, subst}
use Rattle.std.specs.Prelude.{◌==◌, filter}
use Rattle.std.specs.List.Sorted.{IsPermutation}
use Rattle.std.specs.Map.{keys_of}
use Rattle.std.specs.Map.Iter.{deref_pair}
use Rattle.std.specs.Vec.{vec_items}
use Rattle.std.proofs.lemmas.Iterator.{YieldsList-from_map, items_from_collect}
use Rattle.std.proofs.lemmas.Iterator.Consumers.{YieldsList-at, YieldsList-from_filter, YieldsList-from_rest}
use Rattle.std.proofs.lemmas.Result.{IfOk-at_ok}
use Rattle.cat_directory.specs.declared.name.FileName.{FileName}
use Rattle.cat_lifetimes.proofs.refs.Unused.{unused_are, unused_count}
use Rattle.cat_lifetimes.proofs.refs.refs.pending_names.Goals as goal

-- what was collected, in another order
moved : (c : goal.After-sort_unstable) → IsPermutation (keys_of (filter (λ (e : FileName × ℕ). e.1 == 0) c.args.users.now.entries)) c.sort_unstable.new.self.items
moved c =
    let collected = items_from_collect _ c.collect.ensures.ran
    (YieldsList-from_map _ (λ (e : FileName × ℕ). e.0)
    (YieldsList-at c.map.ensures.source
    (YieldsList-from_filter _ (λ (e : FileName × ℕ). e.1 == 0) (YieldsList-from_rest {shows = deref_pair} c.args.users.now.entries (search rules))
    c.filter-unused.ensures.closure (λ x r q k. search (rules, tests))))
    c.map.ensures.closure (λ x r q k. search (rules, tests))) in
    let listed : vec_items c.in_ok-names.names ≡ keys_of (filter (λ (e : FileName × ℕ). e.1 == 0) c.args.users.now.entries) = IfOk-at_ok _ c.in_ok-names.was collected in
    subst (λ (l : List FileName). IsPermutation l c.sort_unstable.new.self.items) listed c.sort_unstable.ensures.permutation

pub returns-clause-names : goal.returns-clause-names
returns-clause-names c =
    unused_are c.args.users.now.entries c.sort_unstable.new.self.items c.iter.ensures.unique (moved c) c.sort_unstable.ensures.sorted

pub returns-clause-count : goal.returns-clause-count
returns-clause-count c = unused_count c.args.users.now.entries c.sort_unstable.new.self.items (moved c)

pub returns-clause-once : goal.returns-clause-once
returns-clause-once c = c.iter.ensures.unique
