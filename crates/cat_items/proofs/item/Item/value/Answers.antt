use Rattle.std.proofs.Common.{◌∙◌, ap, sym, option_map}
use Rattle.std.specs.List.{position}
use Rattle.std.specs.Arc.{arc_value}
use Rattle.cat_model.specs.Text.{same_text}
use Rattle.cat_model.specs.Item as model
use Rattle.cat_items.specs.Contents.{field_content_of}
use Rattle.cat_items.proofs.Contents.{content-none, content-some, content-got}
use Rattle.cat_items.proofs.item.Item.value.Goals as goal

pub returns-in_err-index : goal.returns-in_err-index
returns-in_err-index c =
    let fields = c.deref-2.ensures.value ∙ ap (λ v. v.items) c.deref.ensures in
    let index = sym c.in_err-index.was ∙ c.index_of.ensures ∙ ap (position (λ f. same_text f.name c.args.name.now)) fields in
    let here = content-none c.args.name.now (arc_value c.self.inside.fields).items c.self.inside.values.items c.self.invariant.each index in
    ap (option_map (λ v. field_content_of v.now)) c.from_residual.ensures ∙ here ∙ ap (λ i. model.content_of c.args.name.now i) c.self.view_is

pub returns : goal.returns
returns c =
    let fields = c.deref-2.ensures.value ∙ ap (λ v. v.items) c.deref.ensures in
    let index = sym c.in_ok-index.was ∙ c.index_of.ensures ∙ ap (position (λ f. same_text f.name c.args.name.now)) fields in
    let found = content-got c.deref-3.result.now c.in_ok-index.index c.get.result c.get.ensures.lookup.3 in
    let here = content-some c.args.name.now (arc_value c.self.inside.fields).items c.self.inside.values.items c.in_ok-index.index c.self.invariant.each index in
    found ∙ rw c.deref-3.ensures.value (here ∙ ap (λ i. model.content_of c.args.name.now i) c.self.view_is)
