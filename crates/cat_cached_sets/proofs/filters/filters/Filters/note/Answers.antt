use Rattle.std.proofs.Common.{◌∙◌, List, ap, refl}
use Rattle.std.specs.List.{list_any}
use Rattle.cat_model.specs.Query as model
use Rattle.cat_query.specs.Same.{same_query}
use Rattle.cat_query.specs.View.{query_of}
use Rattle.cat_cached_sets.specs.filters.Filters.{Filters}
use Rattle.cat_cached_sets.proofs.filters.Notes.{noted_again, noted_new}
use Rattle.cat_cached_sets.proofs.filters.filters.Filters.note.Goals as goal

pub returns-then-not-contains-clause-noted : goal.returns-then-not-contains-clause-noted
returns-then-not-contains-clause-noted c =
    let q = query_of c.args.query in
    let old = c.args.self.now in
    c.note_newest.ensures
    ∙ ap (λ (qs : List model.Query). record { cached = old.cached; noted = qs; warming = old.warming })
    (noted_new c.self.inside.noted.items old.noted q q c.contains.result (ap (λ (f : Filters). f.noted) c.self.view_is) refl
    (c.contains.ensures.value ∙ ap (list_any (λ y. same_query (query_of y) q)) c.deref.ensures.value) c.if-not-contains.true)

pub returns-else-not-contains-clause-noted : goal.returns-else-not-contains-clause-noted
returns-else-not-contains-clause-noted c =
    let q = query_of c.args.query in
    let old = c.args.self.now in
    ap (λ (qs : List model.Query). record { cached = old.cached; noted = qs; warming = old.warming })
    (noted_again c.self.inside.noted.items old.noted q c.contains.result (ap (λ (f : Filters). f.noted) c.self.view_is)
    (c.contains.ensures.value ∙ ap (list_any (λ y. same_query (query_of y) q)) c.deref.ensures.value) c.if-not-contains.false)
