use Rattle.std.proofs.Common.{List, [], Bor, map, refl, ap, ◌∙◌}
use Rattle.std.proofs.lemmas.List.{map_push}
use Rattle.std.proofs.lemmas.List.Elements.{All-same, All-push}
use Rattle.cat_base.specs.Texts.{IsTextSet}
use Rattle.cat_model.specs.Text.{Text}
use Rattle.cat_segment.specs.Fields.{content_in, content_texts, IsFormedIn}
use Rattle.cat_segment.proofs.Steps.{made_more, made_all, holds_more, holds_all, holds_none}
use Rattle.cat_segment.proofs.field_values.texts.Goals as goal

pub loop-row-preserved : goal.loop-row-preserved
loop-row-preserved c =
    let rows = c.args.rows.now in
    let i = c.loop-row.row-index in
    record {
      same = made_more rows i c.row-item.result c.loop-row-test.true c.row-item.is (λ r. content_texts (content_in c.args.index r.item.now)) _ _ c.texts_at.result.now
          (ap (map (λ t. t.now)) c.in_ok-push.ensures.items ∙ map_push (λ t. t.now) c.loop-row.texts.items c.texts_at.result) c.texts_at.ensures.value c.loop-row.invariant.same;
      sets = All-same (λ t. IsTextSet t.now) _ _ c.in_ok-push.ensures.items (All-push (λ t. IsTextSet t.now) c.loop-row.texts.items c.texts_at.result c.loop-row.invariant.sets c.texts_at.ensures.sorted);
      formed = holds_more rows i c.row-item.result c.loop-row-test.true c.row-item.is (IsFormedIn c.args.index) c.loop-row.invariant.formed c.texts_at.ensures.formed;
    }

pub loop-row-init : goal.loop-row-init
loop-row-init c = record {
  same = ap (map (λ (t : Bor (List Text)). t.now)) c.in_ok-texts.ensures.items;
  sets = holds_none (λ (t : Bor (List Text)). IsTextSet t.now) c.in_ok-texts.texts.items c.in_ok-texts.ensures.items;
  formed = holds_none (IsFormedIn c.args.index) [] refl;
}

pub returns-clause-ok : goal.returns-clause-ok
returns-clause-ok c = made_all c.args.rows.now c.loop-row.row-index c.loop-row-test.false (λ r. content_texts (content_in c.args.index r.item.now)) (map (λ (t : Bor (List Text)). t.now) c.loop-row.texts.items) c.loop-row.invariant.same

pub returns-clause-sets : goal.returns-clause-sets
returns-clause-sets c = c.loop-row.invariant.sets

pub returns-clause-formed : goal.returns-clause-formed
returns-clause-formed c = holds_all c.args.rows.now c.loop-row.row-index c.loop-row-test.false (IsFormedIn c.args.index) c.loop-row.invariant.formed
