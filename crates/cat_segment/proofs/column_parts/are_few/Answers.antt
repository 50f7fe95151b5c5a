use Rattle.std.proofs.Common.{◌<◌, ◌≤◌, length, refl, sym, subst, arith}
use Rattle.std.specs.Prelude.{All}
use Rattle.std.proofs.lemmas.Bool.{true≢false}
use Rattle.std.proofs.lemmas.List.{take_all}
use Rattle.std.proofs.lemmas.List.Elements.{All-more}
use Rattle.cat_segment.proofs.Ends.{length-lengths_between}
use Rattle.cat_segment.proofs.Few.{between_at, next_start}
use Rattle.cat_segment.specs.Sources.{lengths_between}
use Rattle.cat_segment.proofs.column_parts.are_few.Goals as goal

pub overflow_sub-end : goal.overflow_sub-end
overflow_sub-end c =
    let ends = c.args.ends.now in
    let i = c.loop-end.end-index in
    omega (arith, (between_at 0 ends i c.requires c.loop-end-test.true).0, c.loop-end.invariant.start)

pub returns-then-end-start-gt-MAX_LABELS : goal.returns-then-end-start-gt-MAX_LABELS
returns-then-end-start-gt-MAX_LABELS c =
    let ends = c.args.ends.now in
    let i = c.loop-end.end-index in
    let inside : i < length (lengths_between 0 ends) = omega (arith, length-lengths_between 0 ends, c.loop-end-test.true) in (
      λ e. absurd (true≢false (sym e)),
      λ all. absurd (omega (arith, all i 0 inside, (between_at 0 ends i c.requires c.loop-end-test.true).1, c.loop-end.invariant.start, c.if-end-start-gt-MAX_LABELS.true)),
    )

pub loop-end-preserved : goal.loop-end-preserved
loop-end-preserved c =
    let ends = c.args.ends.now in
    let i = c.loop-end.end-index in
    let inside : i < length (lengths_between 0 ends) = omega (arith, length-lengths_between 0 ends, c.loop-end-test.true) in
    record {
      start = next_start ends i;
      few = All-more (λ n. n ≤ 64) (lengths_between 0 ends) i 0 inside c.loop-end.invariant.few
          (omega (arith, (between_at 0 ends i c.requires c.loop-end-test.true).1, c.loop-end.invariant.start, c.if-end-start-gt-MAX_LABELS.false));
    }

pub returns : goal.returns
returns c =
    let all = lengths_between 0 c.args.ends.now in
    (λ _. subst (All (λ n. n ≤ 64)) (take_all c.loop-end.end-index all (omega (arith, length-lengths_between 0 c.args.ends.now, c.loop-end-test.false))) c.loop-end.invariant.few, λ _. refl)
