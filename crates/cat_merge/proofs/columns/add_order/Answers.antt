use Rattle.std.proofs.Common.{length, sym, subst}
use Rattle.std.specs.Prelude.{All}
use Rattle.std.proofs.lemmas.List.Elements.{All-push}
use Rattle.cat_views.specs.cat_segment.Index.{AreAllRows}
use Rattle.cat_merge.specs.Fields.{kept_rows}
use Rattle.cat_merge.proofs.columns.add_order.Goals as goal

pub returns-in_ok-push-in-Number : goal.returns-in_ok-push-in-Number
returns-in_ok-push-in-Number c = record {
  orders = subst (All (λ order. AreAllRows (length (kept_rows c.args.inputs.now)) order.items)) (sym c.in_ok-push-in-Number.ensures.items)
      (All-push (λ order. AreAllRows (length (kept_rows c.args.inputs.now)) order.items) c.args.orders.now.items c.in_ok-order-in-Number.order c.requires.orders c.in_ok-order-in-Number.ensures);
}
