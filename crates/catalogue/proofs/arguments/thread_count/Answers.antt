use Rattle.std.proofs.Common.{sym, arith}
use Rattle.catalogue.proofs.Counts.{spelled, too_many, unspelled}
use Rattle.catalogue.proofs.arguments.thread_count.Goals as goal

pub returns-in-Some : goal.returns-in-Some
returns-in-Some c = sym (spelled c.args.word.now c.in-Some.count c.in-Some.ensures.found.1 (omega (arith, c.if-count-gt0.true)) (omega (arith, c.if-count.true)))

pub returns-in_default : goal.returns-in_default
returns-in_default c =
    sym (too_many c.args.word.now c.in-Some.count c.in-Some.ensures.found.0 c.in-Some.ensures.found.1 (λ low high. omega (arith, c.if-count.false, high)))

pub returns-in_default-2 : goal.returns-in_default-2
returns-in_default-2 c =
    sym (too_many c.args.word.now c.in-Some.count c.in-Some.ensures.found.0 c.in-Some.ensures.found.1 (λ low high. omega (arith, c.if-count-gt0.false, low)))

pub returns-in_default-3 : goal.returns-in_default-3
returns-in_default-3 c = sym (unspelled c.args.word.now c.in_default.ensures.none)
