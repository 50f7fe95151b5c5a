use Rattle.std.proofs.Common.{◌≡◌, ◌∙◌, ap, sym, inl, inr, refl}
use Rattle.std.specs.Prelude.{Ok, Err, Result, cond}
use Rattle.cat_base.specs.declared.refusal.Refusal.{Refusal}
use Rattle.cat_base.specs.declared.refusal.Refusal.TheVariants.{Id, Memory}
use Rattle.cat_model.specs.Heard.{id_of}
use Rattle.cat_model.specs.Write.{Write}
use Rattle.cat_callers.specs.Told.{ToldWrite, deleting}
use Rattle.cat_callers.proofs.Telling.{follows_itself, written}
use Rattle.cat_callers.proofs.front.Front.delete.Goals as goal

pub returns-then-not-id_ok-clause-told : goal.returns-then-not-id_ok-clause-told
returns-then-not-id_ok-clause-told g c =
    let id = c.args.id.now in
    let wrong : id_of id ≡ Err Id = ap (λ b. cond b (Ok id) (Err Id)) (sym c.id_ok.ensures ∙ c.if-not-id_ok.true) in
    ToldWrite.refused Id (inl (sym (ap deleting wrong))) refl

pub returns-in_default-clause-told : goal.returns-in_default-clause-told
returns-in_default-clause-told g c = ToldWrite.refused Memory (inr (inl refl)) refl

pub returns-clause-told : goal.returns-clause-told
returns-clause-told g c =
    let from = g.J.Naming.from in
    let id = c.args.id.now in
    let right : id_of id ≡ Ok id = ap (λ b. cond b (Ok id) (Err Id)) (sym c.id_ok.ensures ∙ c.if-not-id_ok.false) in
    written from (λ (a : Result Write Refusal). a ≡ deleting (id_of id)) c.args.me.now c.write.new.me (Write.delete c.in-Ok.id) c.write.result
    (ap (λ (t : _). Ok (Write.delete t)) c.in-Ok.ensures.ok ∙ sym (ap deleting right)) (λ no. no)
    c.write.ensures.wrote c.write.ensures.idle c.write.ensures.refusal

pub returns-then-not-id_ok-clause-seen : goal.returns-then-not-id_ok-clause-seen
returns-then-not-id_ok-clause-seen g c = follows_itself c.args.me.now

pub returns-in_default-clause-seen : goal.returns-in_default-clause-seen
returns-in_default-clause-seen g c = follows_itself c.args.me.now

pub returns-clause-seen : goal.returns-clause-seen
returns-clause-seen g c = c.write.ensures.seen
