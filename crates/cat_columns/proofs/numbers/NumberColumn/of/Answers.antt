use Rattle.std.proofs.Common.{◌∙◌, ap, map, sym, length, pos, unwrap_or, ℤ, arith}
use Rattle.std.specs.Prelude.{is_some}
use Rattle.std.proofs.lemmas.List.{length-map}
use Rattle.cat_columns.specs.Columns.{numbers}
use Rattle.cat_columns.proofs.Presence.{numbers_there}
use Rattle.cat_columns.proofs.numbers.NumberColumn.of.Goals as goal

pub returns : goal.returns
returns c = record {
  ok = (ap (λ b. numbers b c.in_ok-values.values.items) c.in_ok-present.ensures.ok ∙ ap (numbers (map is_some c.args.values.now)) c.in_ok-values.ensures.ok ∙ numbers_there c.args.values.now);
}

pub invariant_of-result : goal.invariant_of-result
invariant_of-result c = record {
  few = omega (arith, c.requires.few, ap length c.in_ok-present.ensures.ok, length-map c.args.values.now (is_some {T = ℤ}));
  same = ap length c.in_ok-present.ensures.ok ∙ length-map c.args.values.now is_some ∙ sym (ap length c.in_ok-values.ensures.ok ∙ length-map c.args.values.now (λ n. unwrap_or n (pos 0)));
}
