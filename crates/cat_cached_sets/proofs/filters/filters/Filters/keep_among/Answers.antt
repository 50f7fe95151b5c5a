use Rattle.std.proofs.Common.{◌≡◌, ◌∙◌, ℕ, Bool, None, ap, map, sym, rules}
use Rattle.std.specs.Prelude.{◌==◌}
use Rattle.std.specs.List.{list_any}
use Rattle.cat_query.specs.View.{query_of}
use Rattle.cat_cached_sets.specs.filters.Filters.{Filters}
use Rattle.cat_cached_sets.proofs.filters.Notes.{without_none, without_unkept}
use Rattle.cat_cached_sets.proofs.filters.filters.Filters.keep_among.Goals as goal

pub returns-then-not-is_making_among-clause-value : goal.returns-then-not-is_making_among-clause-value
returns-then-not-is_making_among-clause-value c =
    let keeps : ℕ → Bool = λ n. list_any (λ l. l.segment.number == n) c.args.leaves.now in
    let new : c.match-self.self ≡ record { cached = c.self.inside.cache; noted = map query_of c.self.inside.noted.items; warming = None } = search rules in
    new ∙ ap (λ (f : Filters). record f { warming = None }) c.self.view_is ∙ without_unkept keeps c.args.self.now (sym c.is_making_among.ensures ∙ c.if-not-is_making_among.true)

pub returns-else-not-is_making_among-clause-value : goal.returns-else-not-is_making_among-clause-value
returns-else-not-is_making_among-clause-value c =
    let keeps : ℕ → Bool = λ n. list_any (λ l. l.segment.number == n) c.args.leaves.now in
    without_none keeps c.args.self.now (sym c.is_making_among.ensures ∙ c.if-not-is_making_among.false)
