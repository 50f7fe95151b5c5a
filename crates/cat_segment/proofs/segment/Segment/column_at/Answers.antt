use Rattle.std.proofs.Common.{◌<◌, length, sym, ap, ◌∙◌, arith}
use Rattle.cat_segment.specs.Body.{body_of}
use Rattle.cat_segment.specs.Contents.{contents_told}
use Rattle.cat_segment.specs.Laid.{column_kind}
use Rattle.cat_segment.proofs.Assembled.{contents_at_field, kind_in_body}
use Rattle.cat_segment.proofs.segment.Segment.column_at.Goals as goal

pub index-requires : goal.index-requires
index-requires c = omega (arith, c.requires, ap (λ s. length s.schema) c.self.view_is, c.self.invariant.columns, c.self.inside.columns.ok.0)

pub returns-clause-contents : goal.returns-clause-contents
returns-clause-contents c =
    let body = body_of c.self.inside in
    let within : c.args.index < length body.schema = omega (arith, c.requires, ap (λ s. length s.schema) c.self.view_is) in
    rw (← c.self.view_is) (λ f. ap contents_told c.index.ensures ∙ contents_at_field body c.self.invariant c.args.index f c.index.result.now within)

pub returns-clause-kind : goal.returns-clause-kind
returns-clause-kind c =
    let body = body_of c.self.inside in
    let within : c.args.index < length body.schema = omega (arith, c.requires, ap (λ s. length s.schema) c.self.view_is) in
    rw (← c.self.view_is) (λ f. ap column_kind c.index.ensures ∙ sym (kind_in_body body c.self.invariant c.args.index f c.index.result.now within))
