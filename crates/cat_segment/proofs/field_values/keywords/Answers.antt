use Rattle.std.proofs.Common.{map, ap, ◌∙◌, option_map, arith}
use Rattle.std.proofs.lemmas.List.{map_push}
use Rattle.std.proofs.lemmas.Grind.{elements}
use Rattle.cat_model.specs.Item.{keyword_in}
use Rattle.cat_segment.specs.Fields.{content_in, IsFormedIn}
use Rattle.cat_segment.proofs.Steps.{made_more, holds_more}
use Rattle.cat_segment.proofs.field_values.keywords.Goals as goal

pub loop-row-preserved : goal.loop-row-preserved
loop-row-preserved c =
    let rows = c.args.rows.now in
    let i = c.loop-row.row-index in
    record {
      same = made_more rows i c.row-item.result c.loop-row-test.true c.row-item.is (λ r. keyword_in (content_in c.args.index r.item.now)) _ _ (option_map (λ t. t.now) c.keyword_at.result)
          (ap (map (option_map (λ t. t.now))) c.in_ok-push.ensures.items ∙ map_push (option_map (λ t. t.now)) c.loop-row.keywords.items c.keyword_at.result) c.keyword_at.ensures.value c.loop-row.invariant.same;
      formed = holds_more rows i c.row-item.result c.loop-row-test.true c.row-item.is (IsFormedIn c.args.index) c.loop-row.invariant.formed c.keyword_at.ensures.formed;
    }

pub returns-clause-ok : goal.returns-clause-ok
returns-clause-ok c = grind (arith, elements)

pub returns-clause-formed : goal.returns-clause-formed
returns-clause-formed c = grind (arith, elements)
