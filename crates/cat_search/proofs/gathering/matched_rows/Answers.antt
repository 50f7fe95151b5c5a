use Rattle.std.proofs.Common.{◌≡◌, ◌∙◌, IfSome, length, map, ap, subst, sym}
use Rattle.std.proofs.lemmas.List.{length-map}
use Rattle.cat_model.specs.RowSets.{joined, both}
use Rattle.cat_model.specs.View.{selected, row_matches}
use Rattle.cat_query.specs.View.{query_of}
use Rattle.cat_views.proofs.Selected.{selected-joined, length-joined}
use Rattle.cat_search.proofs.gathering.matched_rows.Goals as goal

pub returns-clause-ok : goal.returns-clause-ok
returns-clause-ok c =
    let test = row_matches (query_of c.args.query.now) in
    let leaf = c.args.leaf.now in
    let matched = c.in_ok-hits.ensures.ok ∙ ap (λ s. map test s.rows) c.segment.ensures in
    ap (λ s. selected s leaf.segment.rows) (c.keep_live.ensures ∙ ap (λ s. joined both s c.live.result.now) matched ∙ ap (joined both (map test leaf.segment.rows)) c.live.ensures.value)
    ∙ selected-joined test leaf.live leaf.segment.rows

pub returns-clause-long : goal.returns-clause-long
returns-clause-long c =
    let test = row_matches (query_of c.args.query.now) in
    let leaf = c.args.leaf.now in
    let matched = c.in_ok-hits.ensures.ok ∙ ap (λ s. map test s.rows) c.segment.ensures in
    let long : length (map test leaf.segment.rows) ≡ length leaf.live = length-map leaf.segment.rows test ∙ sym c.live.ensures.long in
    ap length (c.keep_live.ensures ∙ ap (λ s. joined both s c.live.result.now) matched ∙ ap (joined both (map test leaf.segment.rows)) c.live.ensures.value)
    ∙ length-joined both (map test leaf.segment.rows) leaf.live long ∙ c.live.ensures.long

pub rows_of-requires : goal.rows_of-requires
rows_of-requires c = subst (λ t. IfSome c.args.set (λ s. s.now ≡ map (row_matches (query_of c.args.query.now)) t.rows)) (sym c.segment.ensures) c.requires

pub keep_live-requires : goal.keep_live-requires
keep_live-requires c =
    let test = row_matches (query_of c.args.query.now) in
    let matched = c.in_ok-hits.ensures.ok ∙ ap (λ s. map test s.rows) c.segment.ensures in
    ap length matched ∙ length-map c.args.leaf.now.segment.rows test ∙ sym c.live.ensures.long ∙ sym (ap length c.live.ensures.value)
