use Rattle.std.proofs.Common.{◌≡◌, ◌∙◌, ap, sym, subst, inl, inr, refl}
use Rattle.std.specs.Prelude.{Ok, Err, Result}
use Rattle.cat_base.specs.declared.refusal.Refusal.{Refusal}
use Rattle.cat_model.specs.Grammar.{Spells}
use Rattle.cat_model.specs.Heard.{IsQueryOf}
use Rattle.cat_model.specs.Item.{Schema}
use Rattle.cat_model.specs.Query.{Query}
use Rattle.cat_model.specs.Write.{Write}
use Rattle.cat_threads.specs.cat_commands.cat_cached_sets.cat_query.View.{query_of}
use Rattle.cat_callers.specs.Told.{deleting_where}
use Rattle.cat_callers.proofs.Telling.{follows_itself, unread, unread_query, written}
use Rattle.cat_callers.proofs.front.Front.delete_where.Goals as goal

pub returns-in-Err-clause-told : goal.returns-in-Err-clause-told
returns-in-Err-clause-told g c =
    let from = g.J.Naming.from in
    unread from (λ (a : Result Write Refusal). (q : Result Query Refusal) × IsQueryOf from.start.schema c.args.text.now q × (a ≡ deleting_where q)) c.args.me.now c.in-Err.refusal
    (λ other. elim c.in-Err.ensures.err [
      | inl is ↦ absurd (other is)
      | inr fault ↦ unread_query c.args.self.now.schema.now from.start.schema c.args.text.now c.in-Err.refusal c.args.self.now.fields fault
    ])

pub returns-clause-told : goal.returns-clause-told
returns-clause-told g c =
    let from = g.J.Naming.from in
    let q = query_of c.in-Ok.query in
    written from (λ (a : Result Write Refusal). (q : Result Query Refusal) × IsQueryOf from.start.schema c.args.text.now q × (a ≡ deleting_where q)) c.args.me.now
    c.write.new.me (Write.delete_where q) c.write.result
    (Ok q, IsQueryOf.spelled q (subst (λ (s : Schema). Spells s c.args.text.now q) c.args.self.now.fields c.in-Ok.ensures.ok), refl) (λ no. no)
    c.write.ensures.wrote c.write.ensures.idle c.write.ensures.refusal

pub returns-in-Err-clause-seen : goal.returns-in-Err-clause-seen
returns-in-Err-clause-seen g c = follows_itself c.args.me.now

pub returns-clause-seen : goal.returns-clause-seen
returns-clause-seen g c = c.write.ensures.seen
