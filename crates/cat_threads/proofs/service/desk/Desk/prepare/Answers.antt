use Rattle.std.proofs.Common.{◌≡◌, ℕ, ◌+◌, [], refl, sym, ap, ◌∙◌}
use Rattle.crossbeam_utils.specs.Seq.{cell_view}
use Rattle.cat_threads.specs.history.Rules.{Sight, scribe}
use Rattle.cat_commands.specs.cat_ledger.Ledgers.{device_in, shape_in}
use Rattle.cat_threads.proofs.service.Answering.{unchanged}
use Rattle.cat_threads.proofs.service.Granting.{apart_again, prepared_all}
use Rattle.cat_threads.proofs.service.Spelled.{caller_apart, scribe_alone, scribe_own}
use Rattle.cat_threads.proofs.service.Telling.{follows_joined, idle_told, same_apart, told_apart}
use Rattle.cat_threads.proofs.service.desk.Desk.prepare.Goals as goal

pub join-requires-clause-desk : goal.join-requires-clause-desk
join-requires-clause-desk g c = (c.self.invariant.0 ∙ sym c.requires, scribe_alone (cell_view c.self.inside.scribe) g.J.Naming.sessions c.self.invariant.3.agrees.whole)

pub join-requires-clause-mine : goal.join-requires-clause-mine
join-requires-clause-mine g c = (c.me.invariant.0 ∙ sym c.requires, ap (λ (x : Sight). x.scribe) c.me.invariant.1)

pub part_into-requires : goal.part_into-requires
part_into-requires g c =
    let v = cell_view c.self.inside.scribe in
    let j = c.join.ensures.desk in
    (j.0 ∙ (c.self.invariant.0 ∙ sym c.requires), scribe_own (cell_view c.join.new.desk) v.list v.token v.seated (cell_view c.me.inside.seat).own j.1)

pub invariant_of-me : goal.invariant_of-me
invariant_of-me g c =
    let j = c.join.ensures.desk in
    let p = c.part_into.ensures.mine in
    (p.0 ∙ (j.0 ∙ c.self.invariant.0), caller_apart c.me.inside.session (cell_view c.self.inside.scribe) (cell_view c.join.new.desk) (cell_view c.me.inside.seat) (cell_view c.part_into.new.mine) c.me.invariant.1 j.1 p.1)

pub invariant_of-self : goal.invariant_of-self
invariant_of-self g c =
    let i = c.self.invariant in
    let a = i.3 in
    let j = c.join.ensures.desk in
    let p = c.part_into.ensures.desk in
    let v = cell_view c.self.inside.scribe in
    let w = cell_view c.part_into.new.desk in
    let from = g.J.Naming.from in
    let sessions = g.J.Naming.sessions in
    let is : w ≡ scribe v.list v.token sessions [] =
    apart_again v (cell_view c.join.new.desk) w sessions (cell_view c.me.inside.seat).own a.agrees.whole j.1 p.1 in (
      p.0 ∙ (j.0 ∙ i.0),
      i.1,
      i.2 ∙ ap (λ (k : ℕ). from.start.token + k) (sym (ap (λ (x : Sight). x.token) is)),
      unchanged g.D.Holder.bytes c.self.inside.ledger c.self.inside.ledger from sessions v w a refl is,
      (i.4.0, c.prepare-result.ensures.sets),
    )

pub returns-clause-shown : goal.returns-clause-shown
returns-clause-shown g c =
    let j = c.join.ensures in
    let p = c.part_into.ensures.mine in
    let old = c.self.inside.ledger in
    prepared_all (g.D.Holder.bytes (device_in old)) (shape_in old) g.J.Naming.from g.J.Naming.sessions (cell_view c.self.inside.scribe) (cell_view c.part_into.new.mine) c.args.token
    c.prepare-result.result c.self.invariant.3 (ap (λ (x : Sight). x.list) p.1 ∙ ap (λ (x : Sight). x.list) j.desk.1) c.prepare-result.ensures.view

pub returns-clause-told : goal.returns-clause-told
returns-clause-told g c = told_apart g.J.Naming.from.start.token (cell_view c.join.new.desk) (cell_view c.part_into.new.desk) (cell_view c.part_into.new.mine) c.part_into.ensures.desk.1 c.part_into.ensures.mine.1

pub returns-clause-same : goal.returns-clause-same
returns-clause-same g c = same_apart g.J.Naming.from.start.token (cell_view c.self.inside.scribe) (cell_view c.join.new.desk) (cell_view c.part_into.new.desk) (cell_view c.me.inside.seat).own c.args.self.now c.self.view_is c.join.ensures.desk.1 c.part_into.ensures.desk.1

pub returns-clause-seen : goal.returns-clause-seen
returns-clause-seen g c =
    let p = c.part_into.ensures.mine.1 in
    follows_joined g.J.Naming.from.start.token c.me.inside.session (cell_view c.me.inside.seat) (cell_view c.join.new.desk) (cell_view c.part_into.new.mine) c.args.me.now c.me.view_is c.join.ensures.seen
    (ap (λ (x : Sight). x.list) p) (ap (λ (x : Sight). x.token) p)

pub returns-clause-idle : goal.returns-clause-idle
returns-clause-idle g c =
    idle_told g.J.Naming.from.start.token c.me.inside.session (cell_view c.me.inside.seat) (cell_view c.join.new.desk) (cell_view c.part_into.new.mine) c.args.me.now c.me.view_is c.join.ensures.seen c.me.invariant.1
    (ap (λ (x : Sight). x.list) c.part_into.ensures.mine.1)

pub returns-clause-query : goal.returns-clause-query
returns-clause-query g c = c.prepare-result.ensures.query

pub returns-clause-refusal : goal.returns-clause-refusal
returns-clause-refusal g c = c.prepare-result.ensures.refusal
