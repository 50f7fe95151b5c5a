use Rattle.std.proofs.Common.{◌∙◌, ap, arith, length, map}
use Rattle.std.proofs.lemmas.Grind.{elements}
use Rattle.cat_model.specs.RowSets.{joined, both}
use Rattle.cat_model.specs.Query.{has_some}
use Rattle.cat_columns.specs.Columns.{is_between}
use Rattle.cat_columns.proofs.Presence.{numbers_set}
use Rattle.cat_columns.proofs.numbers.NumberColumn.between.Goals as goal

pub returns : goal.returns
returns c = record {
  ok = (c.and_with.ensures ∙ ap (λ l. joined both l c.self.inside.present) (c.in_ok-set.ensures.ok ∙ ap (map (is_between c.args.low c.args.high)) c.deref.ensures.value)
      ∙ numbers_set (is_between c.args.low c.args.high) c.self.inside.present c.self.inside.values.items ∙ ap (map (has_some (is_between c.args.low c.args.high))) c.self.view_is);
}

pub rows_between-requires : goal.rows_between-requires
rows_between-requires c = omega (arith, c.self.invariant.few, c.self.invariant.same, ap length c.deref.ensures.value)

pub and_with-requires : goal.and_with-requires
and_with-requires c = grind (arith, elements)
