use Rattle.std.proofs.Common.{◌≡◌, subst, ap, ◌∙◌}
use Rattle.std.specs.List.{HoldsAt}
use Rattle.cat_model.specs.View.{IsSegment}
use Rattle.cat_views.specs.cat_segment.Contents.{contents_told, contents_under_name}
use Rattle.cat_merge.proofs.Read.{told_contents}
use Rattle.cat_merge.proofs.input.Input.column.Goals as goal

pub returns-clause-contents : goal.returns-clause-contents
returns-clause-contents c =
    let same : c.deref.result.now ≡ c.args.self.now.segment = c.deref.ensures ∙ ap (λ l. l.segment) c.self.view_is in
    let other : c.deref-2.result.now ≡ c.args.self.now.segment = c.deref-2.ensures ∙ ap (λ l. l.segment) c.self.view_is in
    told_contents c.args.self.now.segment c.args.index c.column_at.result.now (subst IsSegment same c.len-rows.ensures.segment) c.requires
    (subst (λ s. HoldsAt (λ f. contents_told c.column_at.result.now ≡ contents_under_name f.name s.rows) s.schema c.args.index) other c.column_at.ensures.contents)
