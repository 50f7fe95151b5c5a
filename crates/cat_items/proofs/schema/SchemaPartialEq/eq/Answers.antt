use Rattle.std.proofs.Common.{sym, ◌∙◌}
use Rattle.cat_items.proofs.SameFields.{same_fields_decides}
use Rattle.cat_items.proofs.schema.SchemaPartialEq.eq.Goals as goal

pub returns-clause-value : goal.returns-clause-value
returns-clause-value c =
    let d = same_fields_decides c.args.self.now c.args.other.now in (
      λ e. d.0 (sym (rw (c.fields.ensures.value, c.fields-2.ensures.value) at c.eq.ensures) ∙ e),
      λ same. (rw (c.fields.ensures.value, c.fields-2.ensures.value) at c.eq.ensures) ∙ d.1 same,
    )
