use Rattle.std.proofs.Common.{◌≤◌, take, sum, get_or, ap, arith}
use Rattle.std.proofs.lemmas.List.{map-id}
use Rattle.std.proofs.lemmas.List.Elements.{All-take}
use Rattle.std.proofs.lemmas.Grind.{common_steps, elements}
use Rattle.cat_segment.proofs.Steps.{sum_fits}
use Rattle.cat_segment.proofs.assembly.sources_from.Goals as goal

pub push-requires : goal.push-requires
push-requires c =
    let lengths = c.args.lengths.now in
    let i = c.loop-len.len-index in
    omega (arith, sum_fits (λ n. n) lengths i (get_or lengths i 0) c.loop-len-test.true c.requires.few (All-take (λ n. n ≤ 8192) i lengths c.requires.short) (c.requires.short i 0 c.loop-len-test.true), ap sum (map-id (take i lengths)), ap sum c.loop-len.invariant)

pub loop-len-preserved : goal.loop-len-preserved
loop-len-preserved c = grind (arith, common_steps)

pub returns : goal.returns
returns c = grind (arith, elements)
