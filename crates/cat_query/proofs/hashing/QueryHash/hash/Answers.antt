use Rattle.std.proofs.Common.{◌∙◌, ap}
use Rattle.std.specs.List.{fold}
use Rattle.cat_query.specs.Fed.{fed_query}
use Rattle.cat_query.specs.View.{clauses_of}
use Rattle.cat_query.proofs.hashing.QueryHash.hash.Goals as goal

pub returns : goal.returns
returns g c = c.feed_clauses.ensures ∙ ap (λ cs. fold g.H.Hasher.write c.args.state.now (fed_query (clauses_of cs))) c.deref.ensures.value
