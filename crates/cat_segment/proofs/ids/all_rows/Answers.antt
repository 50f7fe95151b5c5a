use Rattle.std.proofs.Common.{◌≡◌, ◌+◌, ◌∷◌, ◌++◌, [], sym, ap, ◌∙◌, arith}
use Rattle.std.specs.List.{range_with_len}
use Rattle.std.proofs.lemmas.List.{map-id}
use Rattle.std.proofs.lemmas.List.FromFn.{map-range_with_len_more}
use Rattle.cat_segment.proofs.ids.all_rows.Goals as goal

pub loop-row-preserved : goal.loop-row-preserved
loop-row-preserved c =
    let row = c.loop-row.row in
    let more = sym (map-id (range_with_len 0 (row + 1))) ∙ map-range_with_len_more (λ n. n) 0 row row (omega arith) ∙ ap (λ l. l ++ row ∷ []) (map-id (range_with_len 0 row)) in
    c.in_ok-push.ensures.items ∙ ap (λ l. l ++ row ∷ []) c.loop-row.invariant ∙ sym more

pub loop-row-init : goal.loop-row-init
loop-row-init c = c.in_ok-rows.ensures.items

pub returns : goal.returns
returns c =
    let ended : c.loop-row.row ≡ c.args.len = omega arith in
    record { ok = c.loop-row.invariant ∙ ap (range_with_len 0) ended }
