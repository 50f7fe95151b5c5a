use Rattle.std.proofs.Common.{◌≡◌, map, sym, ◌∙◌, arith}
use Rattle.std.proofs.lemmas.Result.{IfOk-weaker}
use Rattle.cat_model.specs.Ordinals.{text_at}
use Rattle.cat_model.specs.Layout.{pieces}
use Rattle.cat_segment.proofs.Inverted.{AreTermsOf, terms_right}
use Rattle.cat_segment.proofs.inverting.terms_of_labels.Goals as goal

right : (c : goal.After-dictionary) → AreTermsOf c.args.labels.now c.dictionary.result.now (pieces 0 c.layout.result.0.now c.layout.result.1.now)
right c = terms_right c.args.labels.now c.dictionary.result.now c.layout.result.0.now c.layout.result.1.now c.dictionary.ensures c.layout.ensures.parts c.len-rows.ensures.sets (sym c.layout.ensures.laid)

pub terms_from-requires-clause-few : goal.terms_from-requires-clause-few
terms_from-requires-clause-few c = omega (arith, c.layout.ensures.rows, c.len-rows.ensures.few)

pub terms_from-requires-clause-rising : goal.terms_from-requires-clause-rising
terms_from-requires-clause-rising c = (right c).rising

pub terms_from-requires-clause-within : goal.terms_from-requires-clause-within
terms_from-requires-clause-within c = (right c).within

pub terms_from-requires-clause-whole : goal.terms_from-requires-clause-whole
terms_from-requires-clause-whole c = (right c).whole

pub returns : goal.returns
returns c =
    let back = (terms_right c.args.labels.now c.dictionary.result.now c.layout.result.0.now c.layout.result.1.now c.dictionary.ensures c.layout.ensures.parts c.len-rows.ensures.sets (sym c.layout.ensures.laid)).back in
    record { ok = IfOk-weaker c.terms_from.result (λ t. t ≡ map (map (text_at c.dictionary.result.now)) (pieces 0 c.layout.result.0.now c.layout.result.1.now)) (λ t. t ≡ c.args.labels.now) (λ t e. e ∙ back) c.terms_from.ensures.ok }
