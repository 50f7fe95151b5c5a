use Rattle.std.proofs.Common.{◌≡◌, ◌∙◌, ap, map}
use Rattle.cat_model.specs.View.{row_matches}
use Rattle.cat_query.specs.View.{clauses_of, primary_of}
use Rattle.cat_query.proofs.Listing.{sole_set}
use Rattle.cat_query.proofs.query.Query.matches.Goals as goal
use Rattle.cat_query.proofs.query.Query.matches.Goals.{in-Some+in_ok-rows-in-Some, in-None+in_ok-rows-in-None}

pub returns : goal.returns
returns c =
    let rows = c.args.segment.now.rows in
    let set : c.match-sole_primary.rows ≡ map (row_matches (clauses_of c.args.self.now.clauses.items)) rows =
    elim c.match-sole_primary.branch [
      | in-Some+in_ok-rows-in-Some w ↦
          w.rows-is ∙ w.in_ok-rows-in-Some.ensures ∙ sole_set c.deref.result.now (primary_of w.in-Some.primary.now) w.in-Some.ensures rows
          ∙ ap (λ cs. map (row_matches (clauses_of cs)) rows) c.deref.ensures.value
      | in-None+in_ok-rows-in-None w ↦
          w.rows-is ∙ w.in_ok-rows-in-None.ensures ∙ ap (λ cs. map (row_matches (clauses_of cs)) rows) w.deref-in-None.ensures.value
    ] in
    record { ok = c.of.ensures ∙ set }
