use Rattle.std.proofs.Common.{ap, arith, length}
use Rattle.cat_segment.proofs.Falling.{rows_many}
use Rattle.cat_segment.proofs.sorted_numbers.SortedNumbers.of.Goals as goal

pub run_ends-requires : goal.run_ends-requires
run_ends-requires c =
    omega (arith, ap length c.deref.ensures.value, rows_many c.args.values c.args.rising.items c.requires, c.len-rows.ensures.few)
