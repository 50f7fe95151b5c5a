use Rattle.std.proofs.Common.{◌≡◌, length, sym, ap, subst, arith}
use Rattle.std.proofs.lemmas.Bool.{true≢false}
use Rattle.std.specs.Arc.{arc_value}
use Rattle.std.proofs.lemmas.Grind.{common_steps}
use Rattle.cat_model.specs.Item.{AreFields}
use Rattle.cat_items.proofs.Accepted.{as_many}
use Rattle.cat_items.proofs.item.Item.has_fields.Goals as goal

pub returns-then-fields-own : goal.returns-then-fields-own
returns-then-fields-own c = (
  λ e. absurd (true≢false (sym e)),
  λ h.
      let same : length c.args.fields.now ≡ length (arc_value c.self.inside.fields).items =
      as_many c.args.fields.now (arc_value c.self.inside.fields).items c.self.inside.values.items c.self.invariant.each (subst (λ i. AreFields c.args.fields.now i.fields) (sym c.self.view_is) h) in
      absurd (omega (arith, ap length c.as_slice-own.ensures.value, ap (λ v. length v.items) c.deref.ensures)),
)

pub returns-then-not-is_had : goal.returns-then-not-is_had
returns-then-not-is_had c = grind (arith, common_steps)

pub loop-i-preserved : goal.loop-i-preserved
loop-i-preserved c = grind (arith, common_steps)

pub returns : goal.returns
returns c = grind (arith, common_steps)
