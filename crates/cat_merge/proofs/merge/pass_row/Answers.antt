use Rattle.std.proofs.Common.{◌++◌, ◌∙◌, sym, ap, arith, length, take}
use Rattle.std.specs.List.{flat_map}
use Rattle.std.proofs.Math.Seq.{take-append_seam}
use Rattle.std.proofs.lemmas.List.{take_all}
use Rattle.std.proofs.lemmas.Result.{IfOk-from_err}
use Rattle.std.proofs.lemmas.Grind.{elements}
use Rattle.cat_merge.specs.Copied.{bytes_in, no_row}
use Rattle.cat_merge.proofs.RowPassed.{no_head, no_source, one_head, one_source}
use Rattle.cat_merge.proofs.merge.pass_row.Goals as goal

pub returns-in_err-of-clause-front : goal.returns-in_err-of-clause-front
returns-in_err-of-clause-front c = take_all (length c.args.kept.now.items) c.args.kept.now.items (omega arith)

pub returns-in_err-add_source-clause-front : goal.returns-in_err-add_source-clause-front
returns-in_err-add_source-clause-front c = ap (take (length c.args.kept.now.items)) c.in_ok-push.ensures.items ∙ take-append_seam c.args.kept.now.items _

pub returns-in_ok-add_source-clause-kept : goal.returns-in_ok-add_source-clause-kept
returns-in_ok-add_source-clause-kept c =
    one_head c.args.inputs.now c.args.place c.index-inputs-place.result c.index-inputs-place.is c.requires.input c.live.result.now c.live.ensures.value c.is_live.result c.is_live.ensures c.if-is_live.true c.segment.result.now c.segment.ensures _ (c.in_ok-of.ensures.ok no_row) c.args.kept.now.items c.push.new.self.items c.in_ok-push.ensures.items

pub returns-in_ok-add_source-clause-ranges : goal.returns-in_ok-add_source-clause-ranges
returns-in_ok-add_source-clause-ranges c = λ files.
    c.in_ok-add_source.ensures.bytes files
    ∙ ap (λ bytes. flat_map (bytes_in files) c.args.ranges.now.items ++ bytes) (one_source c.args.inputs.now c.args.place c.index-inputs-place.result c.index-inputs-place.is c.requires.input c.live.result.now c.live.ensures.value c.is_live.result c.is_live.ensures c.if-is_live.true c.segment-then-is_live.result.now c.segment-then-is_live.ensures files)

pub returns-in_ok-add_source-clause-apart : goal.returns-in_ok-add_source-clause-apart
returns-in_ok-add_source-clause-apart c = c.in_ok-add_source.ensures.apart

pub returns-in_ok-add_source-clause-front : goal.returns-in_ok-add_source-clause-front
returns-in_ok-add_source-clause-front c = ap (take (length c.args.kept.now.items)) c.in_ok-push.ensures.items ∙ take-append_seam c.args.kept.now.items _

pub returns-else-is_live-clause-kept : goal.returns-else-is_live-clause-kept
returns-else-is_live-clause-kept c =
    no_head c.args.inputs.now c.args.place c.index-inputs-place.result c.index-inputs-place.is c.requires.input c.live.result.now c.live.ensures.value c.is_live.result c.is_live.ensures c.if-is_live.false c.args.kept.now.items

pub returns-else-is_live-clause-ranges : goal.returns-else-is_live-clause-ranges
returns-else-is_live-clause-ranges c = λ files.
    no_source c.args.inputs.now c.args.place c.index-inputs-place.result c.index-inputs-place.is c.requires.input c.live.result.now c.live.ensures.value c.is_live.result c.is_live.ensures c.if-is_live.false files
    (flat_map (bytes_in files) c.args.ranges.now.items)

pub returns-else-is_live-clause-apart : goal.returns-else-is_live-clause-apart
returns-else-is_live-clause-apart c = λ h. h

pub returns-else-is_live-clause-within : goal.returns-else-is_live-clause-within
returns-else-is_live-clause-within c = λ h. h

pub returns-else-is_live-clause-front : goal.returns-else-is_live-clause-front
returns-else-is_live-clause-front c = take_all (length c.args.kept.now.items) c.args.kept.now.items (omega arith)

pub returns-in_err-of-clause-kept : goal.returns-in_err-of-clause-kept
returns-in_err-of-clause-kept c = IfOk-from_err _ _ c.from_residual.ensures.0

pub returns-in_err-of-clause-ranges : goal.returns-in_err-of-clause-ranges
returns-in_err-of-clause-ranges c = IfOk-from_err _ _ c.from_residual.ensures.0

pub returns-in_err-of-clause-apart : goal.returns-in_err-of-clause-apart
returns-in_err-of-clause-apart c = IfOk-from_err _ _ c.from_residual.ensures.0

pub returns-in_err-of-clause-within : goal.returns-in_err-of-clause-within
returns-in_err-of-clause-within c = IfOk-from_err _ _ c.from_residual.ensures.0

pub returns-in_err-push-clause-kept : goal.returns-in_err-push-clause-kept
returns-in_err-push-clause-kept c = IfOk-from_err _ _ c.from_residual-in_err-push.ensures.0

pub returns-in_err-push-clause-ranges : goal.returns-in_err-push-clause-ranges
returns-in_err-push-clause-ranges c = IfOk-from_err _ _ c.from_residual-in_err-push.ensures.0

pub returns-in_err-push-clause-apart : goal.returns-in_err-push-clause-apart
returns-in_err-push-clause-apart c = IfOk-from_err _ _ c.from_residual-in_err-push.ensures.0

pub returns-in_err-push-clause-within : goal.returns-in_err-push-clause-within
returns-in_err-push-clause-within c = IfOk-from_err _ _ c.from_residual-in_err-push.ensures.0

pub returns-in_err-add_source-clause-kept : goal.returns-in_err-add_source-clause-kept
returns-in_err-add_source-clause-kept c = IfOk-from_err _ _ c.from_residual-in_err-add_source.ensures.0

pub returns-in_err-add_source-clause-ranges : goal.returns-in_err-add_source-clause-ranges
returns-in_err-add_source-clause-ranges c = IfOk-from_err _ _ c.from_residual-in_err-add_source.ensures.0

pub returns-in_err-add_source-clause-apart : goal.returns-in_err-add_source-clause-apart
returns-in_err-add_source-clause-apart c = IfOk-from_err _ _ c.from_residual-in_err-add_source.ensures.0

pub returns-in_err-add_source-clause-within : goal.returns-in_err-add_source-clause-within
returns-in_err-add_source-clause-within c = IfOk-from_err _ _ c.from_residual-in_err-add_source.ensures.0

pub returns-in_ok-add_source-clause-within : goal.returns-in_ok-add_source-clause-within
returns-in_ok-add_source-clause-within c = λ are.
    c.in_ok-add_source.ensures.within c.args.inputs.now are
    (c.args.place.input, c.index-inputs-place.result, c.requires.input, sym c.index-inputs-place.is, sym c.segment-then-is_live.ensures)

pub returns-in_err-push-clause-front : goal.returns-in_err-push-clause-front
returns-in_err-push-clause-front c = grind (arith, elements)
