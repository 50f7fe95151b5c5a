use Rattle.std.proofs.Common.{◌∙◌, ap}
use Rattle.cat_model.specs.Ordinals.{postings_of}
use Rattle.cat_query.proofs.postings.label_postings.Goals as goal

pub returns-in-Label : goal.returns-in-Label
returns-in-Label c = rw c.in-Label.is ((rw c.as_str.ensures at c.postings.ensures) ∙ ap (postings_of c.in-Label.label) c.terms.ensures)
