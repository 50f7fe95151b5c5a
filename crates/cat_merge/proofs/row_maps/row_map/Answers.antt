use Rattle.cat_merge.specs.Maps.{codes_from}
use Rattle.std.proofs.lemmas.List.{take_all}
use Rattle.std.proofs.Common.{arith, true, false, sym, ap, ◌∙◌}
use Rattle.cat_merge.proofs.Codes.{coded, counted, fits}
use Rattle.cat_merge.proofs.row_maps.row_map.Goals as goal
use Rattle.cat_merge.proofs.row_maps.row_map.Goals.{then-is_live+in_ok-push, else-is_live+in_ok-push-2}

pub loop-row-preserved : goal.loop-row-preserved
loop-row-preserved c = elim c.if-is_live.branch [
  | then-is_live+in_ok-push w ↦ record {
    map = ap (λ v. v.items) w.map-is
        ∙ coded c.args.first c.loop-row.next c.args.live.now c.loop-row.row (omega arith) c.loop-row.invariant.next c.loop-row.map.items w.push.new.self.items true
        (sym c.is_live.ensures ∙ w.if-is_live.true) c.loop-row.invariant.map w.in_ok-push.ensures.items;
    next = w.next-is ∙ counted c.args.first c.loop-row.next c.args.live.now c.loop-row.row (omega arith) c.loop-row.invariant.next true (sym c.is_live.ensures ∙ w.if-is_live.true);
  }
  | else-is_live+in_ok-push-2 w ↦ record {
    map = ap (λ v. v.items) w.map-is
        ∙ coded c.args.first c.loop-row.next c.args.live.now c.loop-row.row (omega arith) c.loop-row.invariant.next c.loop-row.map.items w.push-else-is_live.new.self.items false
        (sym c.is_live.ensures ∙ w.if-is_live.false) c.loop-row.invariant.map w.in_ok-push-2.ensures.items;
    next = w.next-is ∙ counted c.args.first c.loop-row.next c.args.live.now c.loop-row.row (omega arith) c.loop-row.invariant.next false (sym c.is_live.ensures ∙ w.if-is_live.false);
  }
]

pub returns : goal.returns
returns c = record {
  ok = c.loop-row.invariant.map ∙ ap (codes_from c.args.first) (take_all c.loop-row.row c.args.live.now (omega arith));
}

pub overflow_add-next : goal.overflow_add-next
overflow_add-next c = omega (arith, fits c.args.first c.loop-row.next c.args.live.now c.loop-row.row (omega arith) c.loop-row.invariant.next (sym c.is_live.ensures ∙ c.if-is_live.true), c.requires)
