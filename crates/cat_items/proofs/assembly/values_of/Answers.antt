use Rattle.std.proofs.Common.{◌≡◌, ◌∙◌, ap, map, arith, rules}
use Rattle.serde_json.specs.Find.{get}
use Rattle.serde_json.specs.View.{view}
use Rattle.std.proofs.lemmas.List.{take_all}
use Rattle.std.proofs.lemmas.List.Elements.{All-same, All-push}
use Rattle.std.proofs.lemmas.Result.{IfOk-from_err}
use Rattle.cat_items.specs.Contents.{field_content_of, IsTyped}
use Rattle.cat_items.specs.Reading.{value_of}
use Rattle.cat_items.proofs.Taken.{made_more}
use Rattle.cat_items.proofs.assembly.values_of.Goals as goal

pub loop-field-preserved : goal.loop-field-preserved
loop-field-preserved c =
    let f = c.field-item.result in
    let content : field_content_of c.in_ok-value.value ≡ value_of f.kind (get f.name (view c.args.root.now)) = search rules in
    record {
      typed = All-same (λ x. IsTyped (field_content_of x)) _ _ c.in_ok-push.ensures.items (All-push (λ x. IsTyped (field_content_of x)) _ _ c.loop-field.invariant.typed c.in_ok-value.ensures.typed);
      done = made_more field_content_of (λ f. value_of f.kind (get f.name (view c.args.root.now))) c.args.fields.now c.loop-field.field-index f c.in_ok-value.value c.loop-field.values.items _ c.loop-field-test.true c.field-item.is content c.in_ok-push.ensures.items c.loop-field.invariant.done;
    }

pub loop-field-init : goal.loop-field-init
loop-field-init c = record {
  typed = All-same (λ x. IsTyped (field_content_of x)) _ _ c.in_ok-values.ensures.items (λ k d lt. absurd (omega (arith, lt)));
  done = ap (map field_content_of) c.in_ok-values.ensures.items;
}

pub returns : goal.returns
returns c = record {
  ok = c.loop-field.invariant.done ∙ ap (map (λ f. value_of f.kind (get f.name (view c.args.root.now)))) (take_all c.loop-field.field-index c.args.fields.now c.loop-field-test.false);
  typed = c.loop-field.invariant.typed;
}

pub returns-in_err-value : goal.returns-in_err-value
returns-in_err-value c = record { ok = IfOk-from_err _ _ c.from_residual-in_err-value.ensures.0; typed = IfOk-from_err _ _ c.from_residual-in_err-value.ensures.0 }

pub returns-in_err-push : goal.returns-in_err-push
returns-in_err-push c = record { ok = IfOk-from_err _ _ c.from_residual-in_err-push.ensures.0; typed = IfOk-from_err _ _ c.from_residual-in_err-push.ensures.0 }
