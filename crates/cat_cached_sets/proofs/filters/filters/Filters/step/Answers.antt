use Rattle.std.proofs.Common.{◌≡◌, ◌∙◌, map, None, inl, subst}
use Rattle.std.specs.Prelude.{Option, Result, Ok, Err, ℕ, IfOk, OnErr}
use Rattle.cat_query.specs.View.{query_of}
use Rattle.cat_cached_sets.specs.filters.Filters.{Filters}
use Rattle.cat_cached_sets.specs.filters.Known.{FiltersRemember, FiltersRememberBelow}
use Rattle.cat_cached_sets.specs.filters.Steps.{IsFiltersStep, IsLeftByStep, IsMade}
use Rattle.cat_cached_sets.proofs.filters.Remembered.{begun_below, begun_remembers, stored_below, stored_remembers}
use Rattle.cat_cached_sets.proofs.filters.filters.Filters.step.Goals as goal
use Rattle.cat_model.specs.View.{segments_of}

pub returns-in-None-clause-known : goal.returns-in-None-clause-known
returns-in-None-clause-known c =
    let ss = segments_of c.args.leaves.now in
    let old : Filters = record { cached = c.self.inside.cache; noted = map query_of c.self.inside.noted.items; warming = c.self.inside.warming } in
    subst (λ (f : Filters). FiltersRemember ss f c.begin.new.self) c.self.view_is (begun_remembers c.begin.result old c.begin.new.self ss c.begin.ensures.ok c.begin.ensures.err)

pub returns-in-None-clause-below : goal.returns-in-None-clause-below
returns-in-None-clause-below c =
    let ss = segments_of c.args.leaves.now in
    let old : Filters = record { cached = c.self.inside.cache; noted = map query_of c.self.inside.noted.items; warming = c.self.inside.warming } in
    subst (λ (f : Filters). FiltersRememberBelow ss f c.begin.new.self) c.self.view_is (begun_below c.begin.result old c.begin.new.self ss c.begin.ensures.ok c.begin.ensures.err)

pub returns-in-None-2-clause-known : goal.returns-in-None-2-clause-known
returns-in-None-2-clause-known c =
    let ss = segments_of c.args.leaves.now in
    let noted = map query_of c.self.inside.noted.items in
    let es = c.self.inside.cache in
    let w = c.in-Some.warm in
    let made : IsMade es w c.pass_on.new.cache c.pass_on.new.warm None = subst (λ (o : Option ℕ). IsMade es w c.pass_on.new.cache c.pass_on.new.warm o) c.in-None-2.is c.in_ok-rows-in-Some.ensures.ok in
    subst (λ (f : Filters). FiltersRemember ss f (record { cached = c.pass_on.new.cache; noted = noted; warming = None })) c.self.view_is
    (stored_remembers es c.pass_on.new.cache noted c.self.inside.warming w c.pass_on.new.warm ss c.in-Some.is made)

pub returns-in-None-2-clause-below : goal.returns-in-None-2-clause-below
returns-in-None-2-clause-below c =
    let ss = segments_of c.args.leaves.now in
    let noted = map query_of c.self.inside.noted.items in
    let es = c.self.inside.cache in
    let w = c.in-Some.warm in
    let made : IsMade es w c.pass_on.new.cache c.pass_on.new.warm None = subst (λ (o : Option ℕ). IsMade es w c.pass_on.new.cache c.pass_on.new.warm o) c.in-None-2.is c.in_ok-rows-in-Some.ensures.ok in
    subst (λ (f : Filters). FiltersRememberBelow ss f (record { cached = c.pass_on.new.cache; noted = noted; warming = None })) c.self.view_is
    (stored_below es c.pass_on.new.cache noted c.self.inside.warming w c.pass_on.new.warm ss c.in-Some.is made)

-- what is as it was is left by a step
left_if : {T E : Type 0} (r : Result T E) (old seen new : Filters) → seen ≡ old → OnErr r (new ≡ seen) → OnErr r (IsLeftByStep old new)
left_if (Ok x) old seen new same is = tt
left_if (Err e) old seen new same is = inl (is ∙ same)

pub returns-in-None-clause-ok : goal.returns-in-None-clause-ok
returns-in-None-clause-ok c = subst (λ (f : Filters). IfOk c.begin.result (IsFiltersStep f (segments_of c.args.leaves.now) c.begin.new.self)) c.self.view_is c.begin.ensures.ok

pub returns-in-None-clause-err : goal.returns-in-None-clause-err
returns-in-None-clause-err c = left_if c.begin.result c.args.self.now _ c.begin.new.self c.self.view_is c.begin.ensures.err
