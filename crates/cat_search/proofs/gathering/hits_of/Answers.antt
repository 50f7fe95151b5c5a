use Rattle.std.proofs.Common.{◌∙◌, sym, ap}
use Rattle.cat_model.specs.View.{live_rows, selected}
use Rattle.cat_query.specs.View.{query_of}
use Rattle.cat_search.proofs.Gathered.{everything}
use Rattle.cat_search.proofs.gathering.hits_of.Goals as goal

pub returns-then-is_everything : goal.returns-then-is_everything
returns-then-is_everything c =
    let leaf = c.args.leaf.now in
    record {
      ok = ap (λ s. selected s leaf.segment.rows) c.live_in.ensures.rows ∙ sym (everything (query_of c.args.query.now) (λ i. c.is_everything.ensures.all c.if-is_everything.true i) (live_rows leaf));
      long = c.live_in.ensures.long;
    }
