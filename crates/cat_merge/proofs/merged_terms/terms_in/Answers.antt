use Rattle.std.proofs.lemmas.Result.{IfOk-from_err}
use Rattle.std.proofs.Common.{◌<◌, ◌++◌, ◌∷◌, [], List, ℕ, length, map, get_or, sym, ap, ap₂, ◌∙◌, arith}
use Rattle.std.proofs.lemmas.List.{length-map, get_or-map, map_push, map_more, take_more, take_all}
use Rattle.cat_model.specs.Text.{Text}
use Rattle.cat_merge.specs.Fields.{texts_at}
use Rattle.cat_merge.specs.Maps.{codes_of}
use Rattle.cat_merge.proofs.Codes.{length-codes_of}
use Rattle.cat_merge.proofs.merged_terms.terms_in.Goals as goal

pub bounds-maps-place : goal.bounds-maps-place
bounds-maps-place c = omega (arith, length-map c.args.maps.now (λ m. m.items), ap length c.requires.maps, length-codes_of 0 c.args.inputs.now)

pub loop-place-preserved : goal.loop-place-preserved
loop-place-preserved c =
    let within : c.loop-place.place < length c.args.inputs.now = omega arith in
    let inside : c.loop-place.place < length c.args.maps.now = omega (arith, within, length-map c.args.maps.now (λ m. m.items), ap length c.requires.maps, length-codes_of 0 c.args.inputs.now) in
    record {
      terms = ap (map (λ p. p.terms.now)) c.in_ok-push.ensures.items ∙ map_push (λ p. p.terms.now) c.loop-place.parts.items _
          ∙ ap₂ (λ (a : List (List (List Text))) (b : List (List Text)). a ++ b ∷ []) c.loop-place.invariant.terms (c.part_of.ensures.terms ∙ ap (texts_at c.args.index) c.index-inputs-place.is)
          ∙ sym (map_more (texts_at c.args.index) c.args.inputs.now c.loop-place.place c.index-inputs-place.result within);
      maps = ap (map (λ p. p.row_map.now)) c.in_ok-push.ensures.items ∙ map_push (λ p. p.row_map.now) c.loop-place.parts.items _
          ∙ ap₂ (λ (a : List (List ℕ)) (b : List ℕ). a ++ b ∷ []) c.loop-place.invariant.maps
          (c.part_of.ensures.map ∙ c.deref.ensures.value ∙ ap (λ m. m.items) c.index-maps-place.is ∙ sym (get_or-map (λ m. m.items) c.args.maps.now c.loop-place.place c.index-maps-place.result [] inside)
          ∙ ap (λ l. get_or l c.loop-place.place []) c.requires.maps)
          ∙ sym (take_more (codes_of 0 c.args.inputs.now) c.loop-place.place [] (omega (arith, within, length-codes_of 0 c.args.inputs.now)));
    }

pub returns-clause-maps : goal.returns-clause-maps
returns-clause-maps c = c.loop-place.invariant.maps ∙ take_all c.loop-place.place (codes_of 0 c.args.inputs.now) (omega (arith, length-codes_of 0 c.args.inputs.now))

pub returns-in_err-parts : goal.returns-in_err-parts
returns-in_err-parts c = record { terms = IfOk-from_err _ _ c.from_residual.ensures.0; maps = IfOk-from_err _ _ c.from_residual.ensures.0 }

pub returns-in_err-push : goal.returns-in_err-push
returns-in_err-push c = record { terms = IfOk-from_err _ _ c.from_residual-in_err-push.ensures.0; maps = IfOk-from_err _ _ c.from_residual-in_err-push.ensures.0 }
