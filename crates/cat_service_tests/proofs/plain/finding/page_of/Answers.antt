use Rattle.std.proofs.Common.{subst, sym}
use Rattle.cat_model.specs.Query.{matches}
use Rattle.cat_search.specs.Sorts.{sort_of}
use Rattle.cat_search.specs.cat_query.View.{query_of}
use Rattle.cat_service_tests.specs.plain.Tables.{NumbersRise}
use Rattle.cat_service_tests.proofs.plain.catalogue.Pages.{rises_behind}
use Rattle.cat_service_tests.proofs.plain.catalogue.Rising.{rise-filter}
use Rattle.cat_service_tests.proofs.plain.finding.page_of.Goals as goal

pub keep_first-requires : goal.keep_first-requires
keep_first-requires c =
    subst NumbersRise (sym c.keep_behind.ensures)
    (rises_behind (sort_of c.args.ask.sort) c.args.records.now _ c.args.ask.after
    (subst NumbersRise (sym c.in_ok-hits.ensures.ok) (rise-filter (λ r. matches (query_of c.args.query.now) r.item) c.args.records.now c.requires)))
