use Rattle.std.proofs.Common.{List, sym, ◌∙◌, subst}
use Rattle.std.specs.List.Sorted.{IsSortedByKey}
use Rattle.cat_model.specs.Ordinals.{text_at}
use Rattle.cat_model.specs.Text.{Text, text_cmp}
use Rattle.cat_segment.specs.Body.{body_of}
use Rattle.cat_segment.specs.Index.{AreAllRows}
use Rattle.cat_segment.proofs.Columns.{ids_are, length-rows_of}
use Rattle.cat_segment.proofs.segment.Segment.rows_by_id.Goals as goal

pub returns-clause-rows : goal.returns-clause-rows
returns-clause-rows c =
    let body = body_of c.self.inside in
    rw (← c.self.view_is) (subst (λ n. AreAllRows n c.rows.result.now) (c.self.invariant.ids ∙ sym (length-rows_of body)) c.rows.ensures.rows)

pub returns-clause-rising : goal.returns-clause-rising
returns-clause-rising c =
    let body = body_of c.self.inside in
    rw (← c.self.view_is) (subst (λ (ids : List Text). IsSortedByKey (text_at ids) text_cmp c.rows.result.now) (sym (ids_are body c.self.invariant)) c.rows.ensures.rising)
