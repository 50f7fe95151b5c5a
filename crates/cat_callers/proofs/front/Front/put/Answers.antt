use Rattle.std.proofs.Common.{◌≡◌, ◌∙◌, ap, sym, subst}
use Rattle.std.specs.Prelude.{Ok, Err, Result}
use Rattle.cat_base.specs.declared.refusal.Refusal.{Refusal}
use Rattle.cat_model.specs.Item.{IsItem, Item, Schema}
use Rattle.cat_model.specs.Text.{Text}
use Rattle.cat_model.specs.Write.{Write}
use Rattle.cat_items.specs.Reading.{item_of}
use Rattle.cat_callers.specs.Told.{putting}
use Rattle.cat_callers.proofs.Telling.{unread, written}
use Rattle.cat_callers.proofs.front.Front.put.Goals as goal

item_is : (s schema : Schema) (text bytes : Text) (r : Result Item Refusal) → s ≡ schema → bytes ≡ text → item_of s bytes ≡ r → item_of schema text ≡ r
item_is s schema text bytes r same is e = subst (λ (x : Schema). item_of x text ≡ r) same (subst (λ (b : Text). item_of s b ≡ r) is e)

pub returns-in-Err-clause-told : goal.returns-in-Err-clause-told
returns-in-Err-clause-told g c =
    let from = g.J.Naming.from in
    let read = item_of from.start.schema c.args.text.now in
    unread from (λ (a : Result Write Refusal). a ≡ putting read) c.args.me.now c.in-Err.refusal
    (λ other. sym (ap putting (item_is c.args.self.now.schema.now from.start.schema c.args.text.now c.as_bytes.result.now (Err c.in-Err.refusal) c.args.self.now.fields c.as_bytes.ensures.value (c.in-Err.ensures.err other))))

pub returns-clause-told : goal.returns-clause-told
returns-clause-told g c =
    let from = g.J.Naming.from in
    let read = item_of from.start.schema c.args.text.now in
    let item = c.in-Ok.item in
    written from (λ (a : Result Write Refusal). a ≡ putting read) c.args.me.now c.write.new.me (Write.put item) c.write.result
    (sym (ap putting (item_is c.args.self.now.schema.now from.start.schema c.args.text.now c.as_bytes.result.now (Ok c.in-Ok.item) c.args.self.now.fields c.as_bytes.ensures.value c.in-Ok.ensures.ok)))
    (λ foreign. foreign (subst (λ (s : Schema). IsItem s item) c.args.self.now.fields c.in-Ok.ensures.typed))
    c.write.ensures.wrote c.write.ensures.idle c.write.ensures.refusal
