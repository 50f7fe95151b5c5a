use Rattle.std.proofs.Common.{[], ◌∷◌, ◌++◌, map, take, sym, ap, ◌∙◌, arith}
use lib.Seq.{take-take}
use Rattle.std.specs.Io.BufRead.{strip_last}
use Rattle.cat_model.specs.Input.{ended_after}
use Rattle.cat_protocol.specs.serving.Machine.{short_line}
use Rattle.cat_protocol.proofs.serving.Cuts.{line_shortened}
use Rattle.cat_protocol.proofs.serving.Steps.{serves_as, serves_then, serves_more, serves_with}
use Rattle.cat_protocol.proofs.serving.serving.feed_first.Goals as goal

pub returns-in_default-clause-gathered : goal.returns-in_default-clause-gathered
returns-in_default-clause-gathered g c =
    let all = c.in_default.ensures.all c.args.gathered.now.items in
    ap (take 10002) c.gather.ensures.items ∙ take-take 10002 10002 _ (omega arith) ∙ ap (take 10002) (sym all)

pub returns-in-Ok-clause-served : goal.returns-in-Ok-clause-served
returns-in-Ok-clause-served g c =
    let front = c.args.gathered.now.items in
    let piece = c.in-Some.piece.now in
    let more = c.in-Some.more.now in
    let line = short_line (strip_last 13 (front ++ piece)) in
    let same = line_shortened front piece c.without_return.result.now c.as_slice.result.now c.without_return.ensures (c.as_slice.ensures.value ∙ c.gather-2.ensures.items) in
    let opened = serves_as (ap (λ l. l ∷ []) (c.if_short-given.ensures ∙ same)) (serves_with c.in-Ok.is c.open_machine-opened.ensures) in
    serves_then opened c.feed_open.ensures.served
    (ap (λ l. line ∷ map short_line (ended_after l more)) c.clear.ensures.items ∙ ap (map short_line) (sym (c.in-Some.ensures.ended front)))

pub returns-in-Err-clause-served : goal.returns-in-Err-clause-served
returns-in-Err-clause-served g c =
    let front = c.args.gathered.now.items in
    let piece = c.in-Some.piece.now in
    let more = c.in-Some.more.now in
    let same = line_shortened front piece c.without_return.result.now c.as_slice.result.now c.without_return.ensures (c.as_slice.ensures.value ∙ c.gather-2.ensures.items) in
    serves_with (sym c.in-Err.is)
    (serves_more (map short_line (ended_after [] more))
    (serves_as (ap (λ l. l ∷ []) (c.if_short-given.ensures ∙ same)) (serves_with c.in-Err.is c.open_machine-opened.ensures))
    (ap (map short_line) (sym (c.in-Some.ensures.ended front))))
