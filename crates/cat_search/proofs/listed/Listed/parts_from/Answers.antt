use Rattle.std.proofs.Common.{◌≡◌, ◌≤◌, ◌<◌, ◌∙◌, ℕ, List, Bool, All, filter, length, map, sym, ap, subst, arith}
use Rattle.cat_model.specs.RowSets.{has_row, indices}
use Rattle.cat_model.specs.View.{row_matches}
use Rattle.cat_query.specs.View.{query_of}
use Rattle.cat_search.proofs.Tested.{cleared}
use Rattle.cat_search.proofs.ListedRows.{hits_long, left_listed, left_within, matched_long}
use Rattle.cat_search.proofs.listed.Listed.parts_from.Goals as goal

pub rows_from-requires : goal.rows_from-requires
rows_from-requires c =
    let listed = c.self.inside in
    let live = listed.leaf.now.live in
    let long : length c.args.self.now ≡ length live =
    ap length (sym c.self.view_is) ∙ hits_long (row_matches (query_of listed.query.now)) listed.leaf.now.segment.rows live listed.rows.now c.self.invariant.0 c.self.invariant.1 in
    let same : length c.live-live.result.now ≡ length live = ap length c.live-live.ensures.value in
    omega (arith, c.requires, long, same, c.len-rows.ensures.few)

pub returns : goal.returns
returns c =
    let listed = c.self.inside in
    let test = row_matches (query_of listed.query.now) in
    let rs = listed.leaf.now.segment.rows in
    let live = listed.leaf.now.live in
    let rows = listed.rows.now in
    let long : length c.args.self.now ≡ length live = ap length (sym c.self.view_is) ∙ hits_long test rs live rows c.self.invariant.0 c.self.invariant.1 in
    let matched = matched_long test rs live rows c.self.invariant.0 c.self.invariant.1 in
    let here : c.args.from ≤ length live = omega (arith, c.requires, long) in
    let cut = c.rows_from.ensures (map test rs) (omega (arith, here, matched)) c.self.invariant.0 in
    record {
      long = ap length c.live-live.ensures.value ∙ sym long;
      within = subst (λ (n : ℕ). All (λ row. row < n) c.rows_from.result.now) (sym long) (left_within test rs live rows c.self.invariant.0 c.self.invariant.1 c.args.from here c.rows_from.result.now cut);
      hits =
          ap (λ (l : List Bool). filter (has_row l) c.rows_from.result.now) c.live-live.ensures.value
          ∙ left_listed test rs live rows c.self.invariant.0 c.self.invariant.1 c.args.from here c.rows_from.result.now cut
          ∙ ap (λ (s : List Bool). indices (cleared c.args.from s)) c.self.view_is;
    }
