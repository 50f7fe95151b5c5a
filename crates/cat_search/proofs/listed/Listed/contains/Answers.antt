use Rattle.std.proofs.Common.{◌≡◌, ◌∙◌, length, map, sym, ap, arith}
use Rattle.cat_model.specs.RowSets.{has_row}
use Rattle.cat_model.specs.View.{row_matches}
use Rattle.cat_query.specs.View.{query_of}
use Rattle.cat_search.proofs.ListedRows.{hits_long, told_live, told_out}
use Rattle.cat_search.proofs.listed.Listed.contains.Goals as goal

pub lists-requires : goal.lists-requires
lists-requires c =
    let listed = c.self.inside in
    let live = listed.leaf.now.live in
    let long : length c.args.self.now ≡ length live =
    ap length (sym c.self.view_is) ∙ hits_long (row_matches (query_of listed.query.now)) listed.leaf.now.segment.rows live listed.rows.now c.self.invariant.0 c.self.invariant.1 in
    let same : length c.live-live.result.now ≡ length live = ap length c.live-live.ensures.value in
    omega (arith, c.requires, long, same, c.len-rows.ensures.few)

pub is_live-requires : goal.is_live-requires
is_live-requires c =
    let listed = c.self.inside in
    let live = listed.leaf.now.live in
    let long : length c.args.self.now ≡ length live =
    ap length (sym c.self.view_is) ∙ hits_long (row_matches (query_of listed.query.now)) listed.leaf.now.segment.rows live listed.rows.now c.self.invariant.0 c.self.invariant.1 in
    let same : length c.live-live.result.now ≡ length live = ap length c.live-live.ensures.value in
    omega (arith, c.requires, long, same)

pub returns-then-lists : goal.returns-then-lists
returns-then-lists c =
    let listed = c.self.inside in
    let test = row_matches (query_of listed.query.now) in
    let rs = listed.leaf.now.segment.rows in
    c.is_live.ensures ∙ ap (λ l. has_row l c.args.row) c.live-live.ensures.value
    ∙ told_live test rs listed.leaf.now.live listed.rows.now c.self.invariant.0 c.self.invariant.1 c.args.row c.lists.result (c.lists.ensures (map test rs) c.self.invariant.0) c.if-lists.true
    ∙ ap (λ l. has_row l c.args.row) c.self.view_is

pub returns-else-lists : goal.returns-else-lists
returns-else-lists c =
    let listed = c.self.inside in
    let test = row_matches (query_of listed.query.now) in
    let rs = listed.leaf.now.segment.rows in
    told_out test rs listed.leaf.now.live listed.rows.now c.self.invariant.0 c.self.invariant.1 c.args.row c.lists.result (c.lists.ensures (map test rs) c.self.invariant.0) c.if-lists.false
    ∙ ap (λ l. has_row l c.args.row) c.self.view_is
