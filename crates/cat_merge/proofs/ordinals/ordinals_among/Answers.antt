use Rattle.std.proofs.lemmas.Result.{IfOk-from_err}
use Rattle.std.proofs.Common.{◌≡◌, ◌+◌, ◌<◌, ◌^◌, ◌++◌, ◌∷◌, [], List, ℕ, take, sym, ap, ◌∙◌, subst, arith}
use Rattle.std.proofs.lemmas.List.{take_more, take_all}
use Rattle.std.proofs.lemmas.List.Elements.{All-push}
use Rattle.std.specs.Prelude.{All}
use Rattle.cat_model.specs.Text.{Text}
use Rattle.cat_merge.specs.Coded.{AreOrdinalsAmong}
use Rattle.cat_merge.proofs.Recoded.{ordinal_is, ordinal_fits, ordinals_more}
use Rattle.cat_merge.proofs.ordinals.ordinals_among.Goals as goal

pub loop-text-preserved : goal.loop-text-preserved
loop-text-preserved c =
    let front : take (c.loop-text.text-index + 1) c.args.texts.now ≡ take c.loop-text.text-index c.args.texts.now ++ c.text-item.result ∷ []
    = take_more c.args.texts.now c.loop-text.text-index c.text-item.result c.loop-text-test.true ∙ ap (λ t. take c.loop-text.text-index c.args.texts.now ++ t ∷ []) (sym c.text-item.is) in
    record {
      ordinals = subst (λ (l : List ℕ). AreOrdinalsAmong c.args.words.now (take (c.loop-text.text-index + 1) c.args.texts.now) l) (sym c.in_ok-push.ensures.items)
          (subst (λ (l : List Text). AreOrdinalsAmong c.args.words.now l (c.loop-text.ordinals.items ++ c.unwrap_or.result ∷ [])) (sym front)
          (ordinals_more c.args.words.now (take c.loop-text.text-index c.args.texts.now) c.text-item.result c.loop-text.ordinals.items c.unwrap_or.result c.loop-text.invariant.ordinals
          (ordinal_is c.args.words.now c.text-item.result c.ordinal_of.result c.unwrap_or.result c.requires.sorted c.ordinal_of.ensures c.unwrap_or.ensures)));
      bound = subst (λ (l : List ℕ). All (λ o. o + 1 < 2 ^ 32) l) (sym c.in_ok-push.ensures.items)
          (All-push (λ o. o + 1 < 2 ^ 32) c.loop-text.ordinals.items c.unwrap_or.result c.loop-text.invariant.bound
          (ordinal_fits c.args.words.now c.text-item.result c.ordinal_of.result c.unwrap_or.result c.ordinal_of.ensures c.unwrap_or.ensures c.requires.few));
    }

pub returns : goal.returns
returns c = record {
  ok = subst (λ (l : List Text). AreOrdinalsAmong c.args.words.now l c.loop-text.ordinals.items) (take_all c.loop-text.text-index c.args.texts.now (omega arith)) c.loop-text.invariant.ordinals;
  bound = c.loop-text.invariant.bound;
}

pub returns-in_err-ordinals : goal.returns-in_err-ordinals
returns-in_err-ordinals c = record { ok = IfOk-from_err _ _ c.from_residual.ensures.0; bound = IfOk-from_err _ _ c.from_residual.ensures.0 }

pub returns-in_err-push : goal.returns-in_err-push
returns-in_err-push c = record { ok = IfOk-from_err _ _ c.from_residual-in_err-push.ensures.0; bound = IfOk-from_err _ _ c.from_residual-in_err-push.ensures.0 }
