use Rattle.std.proofs.Common.{◌++◌, None, ap, arith, ◌∙◌}
use Rattle.std.proofs.lemmas.List.{take_all}
use Rattle.std.specs.List.{flat_map}
use Rattle.cat_model.specs.Layout.{spelled_number}
use Rattle.cat_segment.proofs.Spelled.{spelled_next}
use Rattle.cat_segment.proofs.encoding.put_integers.Goals as goal

pub loop-row-preserved : goal.loop-row-preserved
loop-row-preserved c =
    spelled_next spelled_number c.args.values.now c.loop-row.row c.value.result None c.args.out.now.items c.loop-row.out.items c.put_number.new.out.items
    (omega (arith, c.len-row-end.ensures.value, c.loop-row-test.true)) c.value.ensures c.in_ok-put_number.ensures c.loop-row.invariant

pub returns : goal.returns
returns c = record {
  ok = c.loop-row.invariant ∙ ap (λ l. c.args.out.now.items ++ flat_map spelled_number l) (take_all c.loop-row.row c.args.values.now (omega (arith, c.len-row-end.ensures.value, c.loop-row-test.false)));
}
