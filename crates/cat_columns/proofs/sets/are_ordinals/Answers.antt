use Rattle.std.proofs.Common.{sym, arith, ◌∙◌}
use Rattle.std.proofs.lemmas.Bool.{true≢false}
use Rattle.cat_columns.proofs.sets.are_ordinals.Goals as goal

pub returns-then-len-ordinals : goal.returns-then-len-ordinals
returns-then-len-ordinals c = (λ e. absurd (true≢false (sym e)), λ are. let few = are.few in absurd (omega arith))

pub returns-then-not-ordinals_are_within : goal.returns-then-not-ordinals_are_within
returns-then-not-ordinals_are_within c = (λ e. absurd (true≢false (sym e)), λ are. absurd (true≢false (sym (c.ordinals_are_within.ensures.1 are.within) ∙ c.if-not-ordinals_are_within.true)))

pub returns-then-not-rows_rise : goal.returns-then-not-rows_rise
returns-then-not-rows_rise c = (λ e. absurd (true≢false (sym e)), λ are. absurd (true≢false (sym (c.rows_rise.ensures.1 are.rise) ∙ c.if-not-rows_rise.true)))

pub returns : goal.returns
returns c = (
  λ e. record {
    few = omega arith;
    within = c.ordinals_are_within.ensures.0 c.if-not-ordinals_are_within.false;
    used = λ o lt. c.covers.ensures.0 e o (omega arith) lt;
    rise = c.rows_rise.ensures.0 c.if-not-rows_rise.false;
  },
  λ are. c.covers.ensures.1 (λ o low lt. are.used o lt),
)
