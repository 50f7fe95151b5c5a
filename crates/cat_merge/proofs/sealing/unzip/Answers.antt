use Rattle.std.proofs.Common.{◌≡◌, ◌++◌, ◌∷◌, [], List, ℕ, ap, ◌∙◌}
use Rattle.cat_model.specs.Text.{Text}
use Rattle.cat_merge.proofs.sealing.unzip.Goals as goal

pub returns : goal.returns
returns c = record {
  numbers = c.in_ok-push.ensures.items ∙ ap (λ (n : ℕ). c.args.numbers.now.items ++ n ∷ []) c.number.ensures;
  ids = c.in_ok-push-3.ensures.items ∙ ap (λ (t : Text). c.args.ids.now.items ++ t ∷ []) c.into_id.ensures;
  lengths = c.in_ok-push-2.ensures.items ∙ ap (λ (n : ℕ). c.args.lengths.now.items ++ n ∷ []) c.length.ensures;
}
