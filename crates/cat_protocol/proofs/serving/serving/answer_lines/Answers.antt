use Rattle.std.proofs.Common.{[], ◌∷◌, ◌++◌, map, take, sym, ap, refl, length, ◌∙◌, append_assoc, arith, Err}
use lib.Seq.{take-take}
use Rattle.std.proofs.lemmas.Result.{err_from_is_err_and}
use Rattle.std.specs.Io.BufRead.{strip_last}
use Rattle.cat_model.specs.Input.{ended_after, rest_after}
use Rattle.cat_protocol.specs.serving.Machine.{short_line}
use Rattle.cat_protocol.proofs.serving.Cuts.{line_shortened}
use Rattle.cat_protocol.proofs.serving.Steps.{serves_as, serves_then, serves_more, serves_with}
use Rattle.cat_protocol.proofs.serving.serving.answer_lines.Goals as goal

pub lines-preserved : goal.lines-preserved
lines-preserved g c =
    let so = c.lines.invariant in
    let front = c.lines.gathered.items in
    let piece = c.in-Some.piece.now in
    let more = c.in-Some.more.now in
    let line = short_line (strip_last 13 (front ++ piece)) in
    let same = line_shortened front piece c.without_return.result.now c.as_slice.result.now c.without_return.ensures (c.as_slice.ensures.value ∙ c.gather.ensures.items) in
    let served = serves_with c.in_ok-answer_line.was c.answer_line.ensures in
    let ended = c.in-Some.ensures.ended front in
    let rest = c.in-Some.ensures.rest front in
    let empty = c.clear.ensures.items in
    record {
      room = rw c.clear.ensures.capacity c.gather.ensures.room;
      short = omega (arith, ap length empty);
      done = so.done ++ line ∷ [];
      served = serves_then so.served (serves_as (ap (λ l. l ∷ []) same) served) refl;
      whole =
          append_assoc so.done (line ∷ []) _ ∙ ap (λ l. so.done ++ line ∷ map short_line (ended_after l more)) empty
          ∙ ap (λ l. so.done ++ map short_line l) (sym ended) ∙ so.whole;
      left = ap (λ l. take 10002 (rest_after l more)) empty ∙ ap (take 10002) (sym rest) ∙ so.left;
    }

pub returns-in_err-answer_line-clause-served : goal.returns-in_err-answer_line-clause-served
returns-in_err-answer_line-clause-served g c =
    let so = c.lines.invariant in
    let front = c.lines.gathered.items in
    let piece = c.in-Some.piece.now in
    let more = c.in-Some.more.now in
    let line = short_line (strip_last 13 (front ++ piece)) in
    let same = line_shortened front piece c.without_return.result.now c.as_slice.result.now c.without_return.ensures (c.as_slice.ensures.value ∙ c.gather.ensures.items) in
    let ended = c.in-Some.ensures.ended front in
    let fault = err_from_is_err_and c.from_residual.result c.from_residual.ensures.1 in
    serves_with (ap Err (sym fault.2) ∙ sym fault.1)
    (serves_more (map short_line (ended_after [] more))
    (serves_then so.served (serves_as (ap (λ l. l ∷ []) same) (serves_with c.in_err-answer_line.was c.answer_line.ensures)) refl)
    (append_assoc so.done (line ∷ []) _ ∙ ap (λ l. so.done ++ map short_line l) (sym ended) ∙ so.whole))

pub returns-clause-gathered : goal.returns-clause-gathered
returns-clause-gathered g c =
    let all = c.in_default.ensures.all c.lines.gathered.items in
    ap (take 10002) c.gather-2.ensures.items ∙ take-take 10002 10002 _ (omega arith) ∙ ap (take 10002) (sym all) ∙ c.lines.invariant.left
