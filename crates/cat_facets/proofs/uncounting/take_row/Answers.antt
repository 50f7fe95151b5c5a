use Rattle.std.proofs.Common.{◌-◌, ◌<◌, length, get_or, eqb, arith}
use Rattle.std.proofs.Math.ListN.{length-set}
use Rattle.std.proofs.lemmas.List.Elements.{All-get_or}
use Rattle.cat_facets.proofs.Counted.{count_step, set_less, some_left}
use Rattle.cat_facets.proofs.uncounting.take_row.Goals as goal

pub overflow_sub-totals : goal.overflow_sub-totals
overflow_sub-totals c =
    let globals = c.args.globals.now in
    let os = c.args.ordinals.now in
    let i = c.loop-ordinal.ordinal-index in
    let totals = c.loop-ordinal.totals in
    let x = get_or globals (get_or os i 0) 0 in
    let o = All-get_or (λ o. o < length globals) os i 0 (omega arith) c.requires.within in
    let within : x < length totals = let w = All-get_or (λ g. g < length c.args.totals.now) globals (get_or os i 0) 0 o c.requires.globals in omega (arith, w) in
    let old = c.loop-ordinal.invariant x within in
    let enough = c.requires.counted x (omega arith) in
    let some = some_left globals os i (omega arith) in
    omega (arith, old, enough, some)

pub loop-ordinal-preserved : goal.loop-ordinal-preserved
loop-ordinal-preserved c = λ g low.
    let globals = c.args.globals.now in
    let os = c.args.ordinals.now in
    let i = c.loop-ordinal.ordinal-index in
    let totals = c.loop-ordinal.totals in
    let x = get_or globals (get_or os i 0) 0 in
    let o = All-get_or (λ o. o < length globals) os i 0 (omega arith) c.requires.within in
    let within : x < length totals = let w = All-get_or (λ g. g < length c.args.totals.now) globals (get_or os i 0) 0 o c.requires.globals in omega (arith, w) in
    let taken = c.loop-ordinal.invariant x within in
    let enough = c.requires.counted x (omega arith) in
    let some = some_left globals os i (omega arith) in
    let less = set_less totals x (get_or totals x 0 - 1) g within (omega (arith, taken, enough, some)) in
    let step = count_step (λ y. eqb y g) (λ o. get_or globals o 0) os i 0 (omega arith) in
    let old = c.loop-ordinal.invariant g (simp length-set at low) in
    omega (arith, less, step, old)
