use Rattle.std.proofs.Common.{◌≡◌, List, ap, map, subst, sym}
use Rattle.cat_model.specs.View.{segments_of}
use Rattle.cat_cached_sets.specs.cache.Cached.{CachedSet}
use Rattle.cat_query.specs.View.{query_of}
use Rattle.cat_cached_sets.specs.filters.Filters.{Filters}
use Rattle.cat_cached_sets.specs.filters.Known.{Remembers, RemembersBelow}
use Rattle.cat_cached_sets.proofs.filters.Lent.{lent_if}
use Rattle.cat_cached_sets.proofs.filters.Remembered.{used_below, used_remembers}
use Rattle.cat_cached_sets.proofs.filters.filters.Filters.sets_for.Goals as goal

pub returns-clause-lent : goal.returns-clause-lent
returns-clause-lent c =
    lent_if c.sets_under.result (λ v. v.items) (query_of c.args.key.now.query) c.args.self.now c.self.inside.cache c.args.leaves.now (ap (λ (f : Filters). f.cached) c.self.view_is) c.sets_under.ensures.sets

pub returns-clause-known : goal.returns-clause-known
returns-clause-known c =
    let q = query_of c.args.key.now.query in
    let ss = segments_of c.args.leaves.now in
    let old : Filters = record { cached = c.self.inside.cache; noted = map query_of c.self.inside.noted.items; warming = c.self.inside.warming } in
    subst (λ (f : Filters). Remembers f (record old { cached = c.sets_under.new.cache })) c.self.view_is
    (subst (λ (es : List CachedSet). Remembers old (record old { cached = es })) (sym c.sets_under.ensures.used) (used_remembers q ss old))

pub returns-clause-below : goal.returns-clause-below
returns-clause-below c =
    let q = query_of c.args.key.now.query in
    let ss = segments_of c.args.leaves.now in
    let old : Filters = record { cached = c.self.inside.cache; noted = map query_of c.self.inside.noted.items; warming = c.self.inside.warming } in
    subst (λ (f : Filters). RemembersBelow f (record old { cached = c.sets_under.new.cache })) c.self.view_is
    (subst (λ (es : List CachedSet). RemembersBelow old (record old { cached = es })) (sym c.sets_under.ensures.used) (used_below q ss old))
