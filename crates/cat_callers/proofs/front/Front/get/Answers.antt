use Rattle.std.proofs.Common.{◌≡◌, ◌∙◌, Option, None, Some, ap, length, sym, subst}
use Rattle.std.specs.Prelude.{Err, Ok, cond, option_map}
use Rattle.cat_base.specs.declared.refusal.Refusal.TheVariants.{Id}
use Rattle.cat_model.specs.Heard.{id_of}
use Rattle.cat_model.specs.Text.{Text}
use Rattle.cat_threads.specs.cat_commands.cat_lifetimes.rights.Rights.{right_of}
use Rattle.cat_callers.specs.Sessions.{Kept}
use Rattle.cat_callers.specs.Told.{ToldGet}
use Rattle.cat_callers.proofs.Telling.{option_map_twice, reading_refusal}
use Rattle.cat_callers.proofs.front.Front.get.Goals as goal

pub returns-then-not-id_ok : goal.returns-then-not-id_ok
returns-then-not-id_ok g c =
    let id = c.args.id.now in
    let wrong : id_of id ≡ Err Id = ap (λ b. cond b (Ok id) (Err Id)) (sym c.id_ok.ensures ∙ c.if-not-id_ok.true) in
    ToldGet.wrong Id wrong

pub returns-in_default : goal.returns-in_default
returns-in_default g c =
    let id = c.args.id.now in
    let right : id_of id ≡ Ok id = ap (λ b. cond b (Ok id) (Err Id)) (sym c.id_ok.ensures ∙ c.if-not-id_ok.false) in
    ToldGet.unheld right (subst (λ (k : Kept). right_of k.rights k.session c.args.token ≡ None) c.holdings.view_is (sym c.in_default.ensures))

pub returns-in-Ok : goal.returns-in-Ok
returns-in-Ok g c =
    let hold = c.in-Some.hold.now in
    let found : Option Text = option_map (λ b. b.items) c.in-Ok.found in
    ToldGet.found hold found (subst (λ (k : Kept). right_of k.rights k.session c.args.token ≡ Some hold) c.holdings.view_is (sym c.in-Some.ensures))
    (record {
      long = option_map_twice (λ b. b.items) (λ (text : Text). length text) c.in-Ok.found ∙ c.in-Ok.ensures.whole;
      line = c.in-Ok.ensures.one_line;
      read = λ files tells. c.in-Ok.ensures.ok files tells;
    })

pub returns-in-Err : goal.returns-in-Err
returns-in-Err g c =
    ToldGet.stopped c.in-Err.refusal
    (reading_refusal (g.S.Holder.fault_count c.args.shelf.now) (g.S.Holder.fault_count c.get-2.new.shelf) c.in-Err.refusal c.in-Err.ensures.counted)
