use Rattle.std.proofs.Common.{sym, ap, length, arith, ◌∙◌}
use Rattle.cat_columns.proofs.Presence.{length-numbers}
use Rattle.cat_columns.proofs.numbers.NumberColumn.len.Goals as goal

pub returns-clause-value : goal.returns-clause-value
returns-clause-value c = c.len.ensures.value ∙ c.self.invariant.same ∙ sym (length-numbers _ _ c.self.invariant.same) ∙ ap length c.self.view_is

pub returns-clause-few : goal.returns-clause-few
returns-clause-few c = omega (arith, c.self.invariant.few, c.self.invariant.same, length-numbers _ _ c.self.invariant.same, ap length c.self.view_is)
