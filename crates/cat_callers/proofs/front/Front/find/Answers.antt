use Rattle.std.proofs.Common.{◌≡◌, ap, inl, inr, subst, sym, None, Some, refl}
use Rattle.std.specs.Prelude.{Err, Ok}
use Rattle.cat_base.specs.declared.refusal.Refusal.{Refusal}
use Rattle.cat_model.specs.Answer.{Found, Read}
use Rattle.cat_threads.specs.cat_commands.cat_cached_sets.cat_query.View.{query_of}
use Rattle.cat_threads.specs.cat_commands.cat_lifetimes.rights.Rights.{right_of}
use Rattle.cat_threads.specs.cat_commands.cat_protocol.cat_search.Asks.{read_of}
use Rattle.cat_threads.specs.cat_commands.cat_protocol.cat_search.Sorts.{sort_of}
use Rattle.cat_callers.specs.Sessions.{Kept}
use Rattle.cat_callers.specs.Told.{ToldQuery}
use Rattle.cat_callers.proofs.Held.{right_named}
use Rattle.cat_callers.proofs.Telling.{faulty_told, follows_itself, is_memory, page_told, same_find, unheld_told}
use Rattle.cat_callers.proofs.front.Front.find.Goals as goal

pub returns-in-Err-clause-told : goal.returns-in-Err-clause-told
returns-in-Err-clause-told g c =
    let from = g.J.Naming.from in
    let find = c.args.find in
    elim c.in-Err.ensures.err [
      | inl is ↦ subst (λ (e : Refusal). ToldQuery from c.args.me.now c.args.holdings.now.rights find.token find.query.now (Read.find find.count (sort_of find.sort) find.mark) (Err e)) (sym is) ToldQuery.stopped
      | inr fault ↦ faulty_told from c.args.self.now.schema.now c.args.me.now c.args.holdings.now.rights find.token find.query.now find.count (sort_of find.sort) find.mark
          c.in-Err.refusal c.args.self.now.fields c.requires.rights fault
    ]

pub returns-in_default-clause-told : goal.returns-in_default-clause-told
returns-in_default-clause-told g c =
    let find = c.args.find in
    let none = subst (λ (k : Kept). right_of k.rights k.session find.token ≡ None) c.holdings.view_is (sym c.in_default.ensures) in
    unheld_told g.J.Naming.from c.args.self.now.schema.now c.args.me.now c.args.holdings.now.rights find.token find.query.now find.count (sort_of find.sort) find.mark
    (query_of c.in-Ok.query) c.args.self.now.fields c.in-Ok.ensures.ok
    (subst (λ s. right_of c.args.holdings.now.rights s find.token ≡ None) c.requires.own none)

pub ready-requires : goal.ready-requires
ready-requires g c =
    let find = c.args.find in
    let hold = c.in-Some.hold.now in
    let some = subst (λ (k : Kept). right_of k.rights k.session find.token ≡ Some hold) c.holdings.view_is (sym c.in-Some.ensures) in
    right_named g.J.Naming.from c.args.me.now c.args.holdings.now.rights find.token hold c.requires.rights
    (subst (λ s. right_of c.args.holdings.now.rights s find.token ≡ Some hold) c.requires.own some)

pub returns-in_default-ready-clause-told : goal.returns-in_default-ready-clause-told
returns-in_default-ready-clause-told g c = ToldQuery.stopped

pub returns-in-Ok-page-clause-told : goal.returns-in-Ok-page-clause-told
returns-in-Ok-page-clause-told g c =
    let find = c.args.find in
    let ask = c.ask_of-ask.result in
    let hold = c.in-Some.hold.now in
    let prepared = c.in-Ok-ready.prepared in
    let some = subst (λ (k : Kept). right_of k.rights k.session find.token ≡ Some hold) c.holdings.view_is (sym c.in-Some.ensures) in
    page_told g.J.Naming.from c.args.self.now.schema.now c.args.me.now c.args.holdings.now.rights find.token find.query.now find.count (sort_of find.sort) find.mark
    (query_of c.in-Ok.query) hold prepared.view (read_of ask (query_of prepared.query)) (Ok (Found.page c.in-Ok-page.page)) c.args.self.now.fields c.requires.rights c.in-Ok.ensures.ok
    (subst (λ s. right_of c.args.holdings.now.rights s find.token ≡ Some hold) c.requires.own some) c.in-Ok-ready.ensures.shown
    (same_find ask.count find.count _ (sort_of find.sort) ask.after find.mark (query_of prepared.query) (query_of c.in-Ok.query) c.ask_of-ask.ensures.0 c.ask_of-ask.ensures.2
    c.ask_of-ask.ensures.1 (ap query_of c.in-Ok-ready.ensures.query))
    c.in-Ok-page.ensures.ok

pub returns-in-Err-page-clause-told : goal.returns-in-Err-page-clause-told
returns-in-Err-page-clause-told g c =
    let from = g.J.Naming.from in
    let find = c.args.find in
    let ask = c.ask_of-ask.result in
    let hold = c.in-Some.hold.now in
    let prepared = c.in-Ok-ready.prepared in
    let some = subst (λ (k : Kept). right_of k.rights k.session find.token ≡ Some hold) c.holdings.view_is (sym c.in-Some.ensures) in
    elim (is_memory c.in-Err-page.refusal) [
      | inl is ↦ subst (λ (e : Refusal). ToldQuery from c.args.me.now c.args.holdings.now.rights find.token find.query.now (Read.find find.count (sort_of find.sort) find.mark) (Err e)) (sym is) ToldQuery.stopped
      | inr other ↦ page_told from c.args.self.now.schema.now c.args.me.now c.args.holdings.now.rights find.token find.query.now find.count (sort_of find.sort) find.mark
          (query_of c.in-Ok.query) hold prepared.view (read_of ask (query_of prepared.query)) (Err c.in-Err-page.refusal) c.args.self.now.fields c.requires.rights c.in-Ok.ensures.ok
          (subst (λ s. right_of c.args.holdings.now.rights s find.token ≡ Some hold) c.requires.own some) c.in-Ok-ready.ensures.shown
          (same_find ask.count find.count _ (sort_of find.sort) ask.after find.mark (query_of prepared.query) (query_of c.in-Ok.query) c.ask_of-ask.ensures.0 c.ask_of-ask.ensures.2
          c.ask_of-ask.ensures.1 (ap query_of c.in-Ok-ready.ensures.query))
          (c.in-Err-page.ensures.err other)
    ]

pub returns-in-Err-clause-seen : goal.returns-in-Err-clause-seen
returns-in-Err-clause-seen g c = follows_itself c.args.me.now

pub returns-in-Err-clause-idle : goal.returns-in-Err-clause-idle
returns-in-Err-clause-idle g c = refl

pub returns-in_default-clause-seen : goal.returns-in_default-clause-seen
returns-in_default-clause-seen g c = follows_itself c.args.me.now

pub returns-in_default-clause-idle : goal.returns-in_default-clause-idle
returns-in_default-clause-idle g c = refl

pub returns-in_default-ready-clause-seen : goal.returns-in_default-ready-clause-seen
returns-in_default-ready-clause-seen g c = c.ready.ensures.seen

pub returns-in_default-ready-clause-idle : goal.returns-in_default-ready-clause-idle
returns-in_default-ready-clause-idle g c = c.ready.ensures.idle

pub returns-in-Ok-page-clause-seen : goal.returns-in-Ok-page-clause-seen
returns-in-Ok-page-clause-seen g c = c.ready.ensures.seen

pub returns-in-Ok-page-clause-idle : goal.returns-in-Ok-page-clause-idle
returns-in-Ok-page-clause-idle g c = c.ready.ensures.idle

pub returns-in-Err-page-clause-seen : goal.returns-in-Err-page-clause-seen
returns-in-Err-page-clause-seen g c = c.ready.ensures.seen

pub returns-in-Err-page-clause-idle : goal.returns-in-Err-page-clause-idle
returns-in-Err-page-clause-idle g c = c.ready.ensures.idle
