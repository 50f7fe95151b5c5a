use Rattle.std.proofs.Common.{◌+◌, ◌<◌, ◌++◌, length, sym, subst, arith}
use Rattle.cat_search.specs.Steps.{IsBehindMisses, rows_of_parts_from}
use Rattle.cat_search.proofs.Missed.{missed_front, missed_on, missed_part}
use Rattle.cat_search.proofs.steps.first_hit_from.Goals as goal

pub first_misses-missed-requires : goal.first_misses-missed-requires
first_misses-missed-requires c =
    missed_front c.args.set.now (c.args.left.now ++ rows_of_parts_from c.args.parts c.args.next) c.loop-following.rows.now (rows_of_parts_from c.args.parts c.loop-following.following) c.loop-following.invariant.missed (λ row. row < length c.args.set.now) c.requires.within

pub returns-then-missed-rows-clause-missed : goal.returns-then-missed-rows-clause-missed
returns-then-missed-rows-clause-missed c =
    let all = c.args.left.now ++ rows_of_parts_from c.args.parts c.args.next in
    let back = rows_of_parts_from c.args.parts c.loop-following.following in
    subst (λ l. IsBehindMisses c.args.set.now all (l ++ back)) (sym c.split_at.ensures.back)
    (missed_on c.args.set.now all c.loop-following.rows.now back c.first_misses-missed.result c.loop-following.invariant.missed c.first_misses-missed.ensures.missed)

pub loop-following-preserved : goal.loop-following-preserved
loop-following-preserved c =
    let all = c.args.left.now ++ rows_of_parts_from c.args.parts c.args.next in
    let i = c.loop-following.following in
    record {
      part = omega (arith, c.loop-following-test.true, c.len.ensures);
      missed = subst (λ l. IsBehindMisses c.args.set.now all (l ++ rows_of_parts_from c.args.parts (i + 1))) (sym c.part-rows.ensures)
          (missed_part c.args.set.now all c.loop-following.rows.now c.args.parts i c.first_misses-missed.result (omega (arith, c.loop-following-test.true, c.len.ensures)) (omega (arith, c.if-missed-rows.false)) c.loop-following.invariant.missed c.first_misses-missed.ensures.missed);
    }

pub first_misses-requires : goal.first_misses-requires
first_misses-requires c =
    missed_front c.args.set.now (c.args.left.now ++ rows_of_parts_from c.args.parts c.args.next) c.loop-following.rows.now (rows_of_parts_from c.args.parts c.loop-following.following) c.loop-following.invariant.missed (λ row. row < length c.args.set.now) c.requires.within

pub returns-clause-missed : goal.returns-clause-missed
returns-clause-missed c =
    let all = c.args.left.now ++ rows_of_parts_from c.args.parts c.args.next in
    let back = rows_of_parts_from c.args.parts c.loop-following.following in
    subst (λ l. IsBehindMisses c.args.set.now all (l ++ back)) (sym c.split_at-2.ensures.back)
    (missed_on c.args.set.now all c.loop-following.rows.now back c.first_misses.result c.loop-following.invariant.missed c.first_misses.ensures.missed)
