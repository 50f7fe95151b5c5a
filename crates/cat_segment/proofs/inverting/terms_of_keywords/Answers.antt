use Rattle.std.proofs.Common.{◌≡◌, length, map, ap, ◌∙◌, arith}
use Rattle.std.proofs.lemmas.List.{length-map}
use Rattle.std.proofs.lemmas.Result.{IfOk-weaker}
use Rattle.cat_model.specs.Layout.{code_in, keywords_of, pieces}
use Rattle.cat_model.specs.Ordinals.{texts_of, text_at}
use Rattle.cat_segment.proofs.Inverted.{keywords_right, ends_many}
use Rattle.cat_segment.proofs.inverting.terms_of_keywords.Goals as goal

pub terms_from-requires-clause-few : goal.terms_from-requires-clause-few
terms_from-requires-clause-few c =
    omega (arith, ap length c.deref.ensures.value, ends_many c.codes.result.now c.in_ok-ends.ends.items c.in_ok-ends.ordinals.items c.in_ok-ends.ensures.rows, ap length c.codes.ensures, length-map c.args.values.now (code_in (keywords_of c.args.values.now)), c.len-rows.ensures.few)

pub terms_from-requires-clause-rising : goal.terms_from-requires-clause-rising
terms_from-requires-clause-rising c = (keywords_right c.args.values.now c.dictionary.result.now c.in_ok-ends.ends.items c.deref.result.now c.in_ok-ends.ordinals.items c.deref-2.result.now c.codes.result.now c.dictionary.ensures c.codes.ensures c.deref.ensures.value c.deref-2.ensures.value c.in_ok-ends.ensures.parts c.in_ok-ends.ensures.rows).rising

pub terms_from-requires-clause-within : goal.terms_from-requires-clause-within
terms_from-requires-clause-within c = (keywords_right c.args.values.now c.dictionary.result.now c.in_ok-ends.ends.items c.deref.result.now c.in_ok-ends.ordinals.items c.deref-2.result.now c.codes.result.now c.dictionary.ensures c.codes.ensures c.deref.ensures.value c.deref-2.ensures.value c.in_ok-ends.ensures.parts c.in_ok-ends.ensures.rows).within

pub terms_from-requires-clause-whole : goal.terms_from-requires-clause-whole
terms_from-requires-clause-whole c = (keywords_right c.args.values.now c.dictionary.result.now c.in_ok-ends.ends.items c.deref.result.now c.in_ok-ends.ordinals.items c.deref-2.result.now c.codes.result.now c.dictionary.ensures c.codes.ensures c.deref.ensures.value c.deref-2.ensures.value c.in_ok-ends.ensures.parts c.in_ok-ends.ensures.rows).whole

pub returns : goal.returns
returns c =
    let right = keywords_right c.args.values.now c.dictionary.result.now c.in_ok-ends.ends.items c.deref.result.now c.in_ok-ends.ordinals.items c.deref-2.result.now c.codes.result.now c.dictionary.ensures c.codes.ensures c.deref.ensures.value c.deref-2.ensures.value c.in_ok-ends.ensures.parts c.in_ok-ends.ensures.rows in
    record { ok = IfOk-weaker c.terms_from.result (λ t. t ≡ map (map (text_at c.dictionary.result.now)) (pieces 0 c.deref.result.now c.deref-2.result.now)) (λ t. t ≡ map texts_of c.args.values.now) (λ t e. e ∙ right.back) c.terms_from.ensures.ok }
