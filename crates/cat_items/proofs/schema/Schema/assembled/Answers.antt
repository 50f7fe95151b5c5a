use Rattle.std.proofs.Common.{length, ◌∙◌, ap, sym, Ok, map}
use Rattle.serde_json.specs.Find.{get}
use Rattle.serde_json.specs.View.{view}
use Rattle.cat_items.specs.Contents.{named_contents}
use Rattle.cat_items.specs.Reading.{value_of}
use Rattle.cat_items.proofs.Contents.{named_contents-map, as_many, IsItem-item_of}
use Rattle.cat_items.proofs.WholeItem.{item_is}
use Rattle.cat_items.proofs.Formed.{IsFormedItem-read}
use Rattle.cat_items.proofs.schema.Schema.assembled.Goals as goal

pub returns-clause-ok : goal.returns-clause-ok
returns-clause-ok c =
    let j = c.requires.judged in
    let made = item_is c.args.self.now c.args.bytes.now (view c.args.root.now) j.members c.args.id.now c.requires.small c.requires.read j.object j.has_id j.form j.right in
    let values = c.in_ok-values.ensures.ok ∙ ap (map (λ f. value_of f.kind (get f.name (view c.args.root.now)))) c.fields.ensures.value in
    let contents = ap (λ fs. named_contents fs c.in_ok-values.values.items) c.in_ok-shared.ensures ∙ named_contents-map _ c.args.self.now _ values in
    made ∙ ap Ok (sym (c.new-item.ensures ∙ (λ i. record { id = c.in_ok-from_str.ensures.ok i; fields = contents i; source = c.in_ok-from_slice.ensures.items i })))

pub returns-clause-typed : goal.returns-clause-typed
returns-clause-typed c = IsItem-item_of _ _ _ (returns-clause-ok c)

pub new-item-requires-clause-each : goal.new-item-requires-clause-each
new-item-requires-clause-each c = as_many _ _ _ c.in_ok-values.ensures.ok ∙ ap length (c.fields.ensures.value ∙ sym c.in_ok-shared.ensures)

pub new-item-requires-clause-formed : goal.new-item-requires-clause-formed
new-item-requires-clause-formed c =
    let j = c.requires.judged in
    let values = c.in_ok-values.ensures.ok ∙ ap (map (λ f. value_of f.kind (get f.name (view c.args.root.now)))) c.fields.ensures.value in
    IsFormedItem-read c.args.self.now _ _ c.args.bytes.now _ _ _ (view c.args.root.now) j.members c.fields.ensures.valid c.in_ok-shared.ensures c.requires.small c.in_ok-from_slice.ensures.items c.requires.read j.object j.right values c.in_ok-values.ensures.typed j.form c.in_ok-from_str.ensures.ok
