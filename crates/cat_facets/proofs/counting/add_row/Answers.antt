use Rattle.std.proofs.Common.{◌<◌, length, get_or, arith, eqb}
use Rattle.std.proofs.Math.ListN.{length-set}
use Rattle.std.proofs.lemmas.List.Elements.{All-get_or}
use Rattle.cat_facets.proofs.Counted.{count_step, set_more}
use Rattle.cat_facets.proofs.counting.add_row.Goals as goal

pub loop-ordinal-preserved : goal.loop-ordinal-preserved
loop-ordinal-preserved c = λ g low.
    let globals = c.args.globals.now in
    let os = c.args.ordinals.now in
    let i = c.loop-ordinal.ordinal-index in
    let totals = c.loop-ordinal.totals in
    let x = get_or globals (get_or os i 0) 0 in
    let o = All-get_or (λ o. o < length globals) os i 0 (omega arith) c.requires.within in
    let within : x < length totals = let w = All-get_or (λ g. g < length c.args.totals.now) globals (get_or os i 0) 0 o c.requires.globals in omega (arith, w) in
    let more = set_more totals x 1 c.in-Some.total g within c.in-Some.ensures.1 in
    let step = count_step (λ y. eqb y g) (λ o. get_or globals o 0) os i 0 (omega arith) in
    let old = c.loop-ordinal.invariant g (simp length-set at low) in
    omega (arith, more, step, old)
