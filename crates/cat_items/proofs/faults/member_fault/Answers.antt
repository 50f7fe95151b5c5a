use Rattle.std.proofs.Common.{◌≡◌, false, Some, None, refl, sym, ap, ◌∙◌}
use Rattle.std.specs.Prelude.{bytes_eq, codes, option_map}
use Rattle.serde_json.specs.Data.{Data}
use Rattle.cat_base.specs.declared.refusal.Refusal.TheVariants.{Member}
use Rattle.cat_model.specs.Text.{Text}
use Rattle.cat_model.specs.Item.{Schema, kind_of}
use Rattle.cat_items.specs.Kinds.{field_kind_of}
use Rattle.cat_items.specs.Reading.{member_fault}
use Rattle.cat_items.proofs.faults.member_fault.Goals as goal

-- a member of another name than `id` and those of the fields is wrong
unknown_name : (fields : Schema) (name : Text) (value : Data) → bytes_eq name (codes "id") ≡ false → kind_of fields name ≡ None → Some Member ≡ member_fault fields name value
unknown_name fields name value other none = rw (other, none) refl

pub returns-in-None : goal.returns-in-None
returns-in-None c =
    unknown_name c.args.fields.now c.args.name.now _ (sym c.eq.ensures ∙ c.if-eq.false) (sym c.kind_of.ensures ∙ ap (option_map field_kind_of) c.in-None.is)
