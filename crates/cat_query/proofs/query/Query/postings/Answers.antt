use Rattle.std.proofs.Common.{◌∙◌, sym, ap}
use Rattle.cat_query.specs.View.{clauses_of}
use Rattle.cat_query.proofs.Listing.{relisted, sole_rows}
use Rattle.cat_query.proofs.query.Query.postings.Goals as goal

pub returns-in-Field : goal.returns-in-Field
returns-in-Field c =
    relisted c.field_postings.result
    (sole_rows c.args.self.now.clauses.items c.in_ok-primary.primary.now c.in-Field.name c.in-Field.test (sym (ap clauses_of c.deref.ensures.value) ∙ c.in_ok-primary.ensures) c.in-Field.is c.args.segment.now.rows) c.field_postings.ensures
