use Rattle.std.proofs.Common.{◌+◌, map, refl, arith, ap, ◌∙◌}
use Rattle.std.proofs.lemmas.List.{map_push, take_all}
use Rattle.std.proofs.lemmas.Result.{IfOk-from_err}
use Rattle.std.proofs.lemmas.Grind.{common_steps}
use Rattle.cat_merge.specs.Maps.{codes_of}
use Rattle.cat_merge.proofs.Codes.{maps_more, counts_more, counts_fit, length-codes_of}
use Rattle.cat_merge.proofs.row_maps.row_maps.Goals as goal

pub row_map-requires : goal.row_map-requires
row_map-requires c =
    omega (
      arith,
      c.requires.few,
      counts_fit c.args.inputs.now (c.loop-input.input-index + 1) c.requires.inputs,
      counts_more c.args.inputs.now c.loop-input.input-index c.loop-input.first c.input-item.result c.live-live.result.now c.loop-input-test.true c.input-item.is c.live-live.ensures.value c.loop-input.invariant.first,
    )

pub overflow_add-first : goal.overflow_add-first
overflow_add-first c =
    omega (
      arith,
      c.requires.few,
      counts_fit c.args.inputs.now (c.loop-input.input-index + 1) c.requires.inputs,
      c.count.ensures,
      counts_more c.args.inputs.now c.loop-input.input-index c.loop-input.first c.input-item.result c.live-live.result.now c.loop-input-test.true c.input-item.is c.live-live.ensures.value c.loop-input.invariant.first,
    )

pub loop-input-preserved : goal.loop-input-preserved
loop-input-preserved c = record {
  maps = ap (map (λ m. m.items)) c.in_ok-push.ensures.items ∙ map_push (λ m. m.items) c.loop-input.maps.items c.in_ok-row_map.field-0
      ∙ maps_more c.args.inputs.now c.loop-input.input-index c.loop-input.first c.input-item.result c.live-live.result.now (map (λ m. m.items) c.loop-input.maps.items) c.in_ok-row_map.field-0.items
      c.loop-input-test.true c.input-item.is c.live-live.ensures.value c.loop-input.invariant.first c.loop-input.invariant.maps c.in_ok-row_map.ensures.ok;
  first = ap (λ n. c.loop-input.first + n) c.count.ensures
      ∙ counts_more c.args.inputs.now c.loop-input.input-index c.loop-input.first c.input-item.result c.live-live.result.now c.loop-input-test.true c.input-item.is c.live-live.ensures.value c.loop-input.invariant.first;
}

pub returns : goal.returns
returns c = record {
  ok = c.loop-input.invariant.maps ∙ take_all c.loop-input.input-index (codes_of 0 c.args.inputs.now) (omega (arith, length-codes_of 0 c.args.inputs.now));
}

pub loop-input-init : goal.loop-input-init
loop-input-init c = record { maps = ap (map (λ m. m.items)) c.in_ok-maps.ensures.items; first = refl }

pub returns-in_err-maps : goal.returns-in_err-maps
returns-in_err-maps c = record { ok = IfOk-from_err _ _ c.from_residual.ensures.0 }

pub returns-in_err-row_map : goal.returns-in_err-row_map
returns-in_err-row_map c = record { ok = IfOk-from_err _ _ c.from_residual-in_err-row_map.ensures.0 }

pub returns-in_err-push : goal.returns-in_err-push
returns-in_err-push c = record { ok = IfOk-from_err _ _ c.from_residual-in_err-push.ensures.0 }

pub overflow_cast-first : goal.overflow_cast-first
overflow_cast-first c = grind (arith, common_steps)
