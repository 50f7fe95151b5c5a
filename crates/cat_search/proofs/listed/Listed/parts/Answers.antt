use Rattle.std.proofs.Common.{◌≡◌, ◌<◌, ◌∙◌, ℕ, List, Bool, All, filter, length, sym, ap, subst}
use Rattle.cat_model.specs.RowSets.{has_row, indices}
use Rattle.cat_model.specs.View.{row_matches}
use Rattle.cat_query.specs.View.{query_of}
use Rattle.cat_search.proofs.ListedRows.{hits_listed, hits_long, hits_within}
use Rattle.cat_search.proofs.listed.Listed.parts.Goals as goal

pub returns : goal.returns
returns c =
    let listed = c.self.inside in
    let test = row_matches (query_of listed.query.now) in
    let rs = listed.leaf.now.segment.rows in
    let live = listed.leaf.now.live in
    let rows = listed.rows.now in
    let long : length c.args.self.now ≡ length live = ap length (sym c.self.view_is) ∙ hits_long test rs live rows c.self.invariant.0 c.self.invariant.1 in
    record {
      long = ap length c.live.ensures.value ∙ sym long;
      within = subst (λ (n : ℕ). All (λ row. row < n) rows) (sym long) (hits_within test rs live rows c.self.invariant.0 c.self.invariant.1);
      hits =
          ap (λ (l : List Bool). filter (has_row l) rows) c.live.ensures.value ∙ hits_listed test rs live rows c.self.invariant.0 c.self.invariant.1
          ∙ ap indices c.self.view_is;
    }
