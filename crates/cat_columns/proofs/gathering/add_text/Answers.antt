use Rattle.std.proofs.Common.{◌∙◌, ap, sym}
use Rattle.cat_model.specs.Text.{same_text}
use Rattle.cat_columns.proofs.Members.{text_more, same_text_sym}
use Rattle.cat_columns.proofs.gathering.add_text.Goals as goal

pub returns : goal.returns
returns c = record {
  ok = (λ q.
      text_more _ _ _ _ (same_text_sym q c.args.text.now ∙ ap (λ k. same_text k q) (sym c.as_str.ensures))
      (c.in_ok-insert.ensures.updates.0 (record { ref_ptr = c.as_str.result.ref_ptr; now = q })));
}
