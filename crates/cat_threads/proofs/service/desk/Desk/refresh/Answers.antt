use Rattle.std.proofs.Common.{◌≡◌, ℕ, ◌+◌, ◌-◌, ◌≤◌, [], length, sym, ap, ◌∙◌, arith}
use Rattle.std.specs.Prelude.{Ok, Err}
use Rattle.crossbeam_utils.specs.Seq.{cell_view}
use Rattle.cat_threads.specs.history.Rules.{Sight, recorded, scribe}
use Rattle.cat_commands.specs.cat_ledger.Ledgers.{device_in, shape_in}
use Rattle.cat_threads.proofs.sharing.Sharing.{counts_share, newest_share}
use Rattle.cat_threads.proofs.service.Answering.{refresh_left, refreshed}
use Rattle.cat_threads.proofs.service.Beside.{by_refresh}
use Rattle.cat_threads.proofs.service.Passed.{follows_told}
use Rattle.cat_threads.proofs.service.Granting.{apart_again, apart_recorded}
use Rattle.cat_threads.proofs.service.Spelled.{caller_apart, caller_behind, scribe_alone, scribe_own}
use Rattle.cat_threads.proofs.service.Telling.{follows_joined, idle_told, recorded_list, refreshed_told, same_apart, told_apart}
use Rattle.cat_threads.proofs.service.desk.Desk.refresh.Goals as goal

pub join-requires-clause-desk : goal.join-requires-clause-desk
join-requires-clause-desk g c = (c.self.invariant.0 ∙ sym c.requires, scribe_alone (cell_view c.self.inside.scribe) g.J.Naming.sessions c.self.invariant.3.agrees.whole)

pub join-requires-clause-mine : goal.join-requires-clause-mine
join-requires-clause-mine g c = (c.me.invariant.0 ∙ sym c.requires, ap (λ (x : Sight). x.scribe) c.me.invariant.1)

pub record_token-requires-clause-desk : goal.record_token-requires-clause-desk
record_token-requires-clause-desk g c =
    let v = cell_view c.self.inside.scribe in
    let j = c.join.ensures.desk in
    (j.0 ∙ (c.self.invariant.0 ∙ sym c.requires), scribe_own (cell_view c.join.new.desk) v.list v.token v.seated (cell_view c.me.inside.seat).own j.1)

pub record_token-requires-clause-token : goal.record_token-requires-clause-token
record_token-requires-clause-token g c =
    let i = c.self.invariant in
    let old = c.self.inside.ledger in
    let all = counts_share (g.D.Holder.bytes (device_in old)) (shape_in old) g.J.Naming.from g.J.Naming.sessions (cell_view c.self.inside.scribe) i.3 in
    let long = ap (λ (x : Sight). length x.list) c.join.ensures.desk.1 in
    let start = i.1 in
    let is = c.in-Ok.ensures.token in
    omega arith

pub record_token-requires-clause-rises : goal.record_token-requires-clause-rises
record_token-requires-clause-rises g c =
    let old = c.self.inside.ledger in
    let most = (newest_share (g.D.Holder.bytes (device_in old)) (shape_in old) g.J.Naming.from g.J.Naming.sessions (cell_view c.self.inside.scribe) c.self.invariant.3).1 in
    let long = ap (λ (x : Sight). length x.list) c.join.ensures.desk.1 in
    let top = ap (λ (x : Sight). x.token) c.join.ensures.desk.1 in
    omega arith

pub part_into-requires : goal.part_into-requires
part_into-requires g c =
    let v = cell_view c.self.inside.scribe in
    let t = c.in-Ok.token - c.self.inside.start in
    let j = c.join.ensures.desk in
    let n = c.record_token.ensures.scribe in (
      n.0 ∙ (j.0 ∙ (c.self.invariant.0 ∙ sym c.requires)),
      scribe_own (cell_view c.record_token.new.scribe) v.list t v.seated (cell_view c.me.inside.seat).own (n.1 ∙ ap (λ (x : Sight). recorded t x) j.1),
    )

pub part_into-requires-in-Err : goal.part_into-requires-in-Err
part_into-requires-in-Err g c =
    let v = cell_view c.self.inside.scribe in
    let j = c.join.ensures.desk in
    (j.0 ∙ (c.self.invariant.0 ∙ sym c.requires), scribe_own (cell_view c.join.new.desk) v.list v.token v.seated (cell_view c.me.inside.seat).own j.1)

pub invariant_of-me : goal.invariant_of-me
invariant_of-me g c =
    let j = c.join.ensures.desk in
    let n = c.record_token.ensures.scribe in
    let p = c.part_into.ensures.mine in (
      p.0 ∙ (n.0 ∙ (j.0 ∙ c.self.invariant.0)),
      caller_behind c.me.inside.session (cell_view c.self.inside.scribe) (cell_view c.join.new.desk) (cell_view c.record_token.new.scribe) (cell_view c.me.inside.seat) (cell_view c.part_into.new.mine) c.me.invariant.1 j.1
          (ap (λ (x : Sight). x.own) n.1) p.1,
    )

pub invariant_of-me-in-Err : goal.invariant_of-me-in-Err
invariant_of-me-in-Err g c =
    let j = c.join.ensures.desk in
    let p = c.part_into-in-Err.ensures.mine in
    (p.0 ∙ (j.0 ∙ c.self.invariant.0), caller_apart c.me.inside.session (cell_view c.self.inside.scribe) (cell_view c.join.new.desk) (cell_view c.me.inside.seat) (cell_view c.part_into-in-Err.new.mine) c.me.invariant.1 j.1 p.1)

pub invariant_of-self : goal.invariant_of-self
invariant_of-self g c =
    let i = c.self.invariant in
    let a = i.3 in
    let j = c.join.ensures.desk in
    let n = c.record_token.ensures.scribe in
    let p = c.part_into.ensures.desk in
    let v = cell_view c.self.inside.scribe in
    let w = cell_view c.part_into.new.desk in
    let old = c.self.inside.ledger in
    let new = c.refresh.new.self in
    let bytes = g.D.Holder.bytes in
    let from = g.J.Naming.from in
    let sessions = g.J.Naming.sessions in
    let t = c.in-Ok.token in
    let its = c.in-Ok.ensures.token in
    let all = counts_share (bytes (device_in old)) (shape_in old) from sessions v a in
    let is : w ≡ scribe v.list (t - from.start.token) sessions [] =
    apart_recorded v (cell_view c.join.new.desk) (cell_view c.record_token.new.scribe) w sessions (cell_view c.me.inside.seat).own (t - c.self.inside.start) a.agrees.whole j.1 n.1 p.1
    ∙ ap (λ (k : ℕ). scribe v.list (t - k) sessions []) i.1 in
    let token = ap (λ (x : Sight). x.token) is in
    let newest = c.record_token.ensures.newest in (
      p.0 ∙ (n.0 ∙ (j.0 ∙ i.0)),
      i.1,
      omega arith,
      refreshed bytes old new from sessions v w c.args.me.now.session t a its c.in-Ok.ensures.may c.in-Ok.ensures.ok is,
      by_refresh bytes c.self.inside.filters old new (Ok t) c.in-Ok.ensures.ok c.in-Ok.ensures.may tt i.4,
    )

pub invariant_of-self-in-Err : goal.invariant_of-self-in-Err
invariant_of-self-in-Err g c =
    let i = c.self.invariant in
    let a = i.3 in
    let j = c.join.ensures.desk in
    let p = c.part_into-in-Err.ensures.desk in
    let v = cell_view c.self.inside.scribe in
    let w = cell_view c.part_into-in-Err.new.desk in
    let from = g.J.Naming.from in
    let sessions = g.J.Naming.sessions in
    let is : w ≡ scribe v.list v.token sessions [] =
    apart_again v (cell_view c.join.new.desk) w sessions (cell_view c.me.inside.seat).own a.agrees.whole j.1 p.1 in (
      p.0 ∙ (j.0 ∙ i.0),
      i.1,
      i.2 ∙ ap (λ (k : ℕ). from.start.token + k) (sym (ap (λ (x : Sight). x.token) is)),
      refresh_left g.D.Holder.bytes c.self.inside.ledger c.refresh.new.self from sessions v w c.args.me.now.session a c.in-Err.ensures.err is,
      by_refresh g.D.Holder.bytes c.self.inside.filters c.self.inside.ledger c.refresh.new.self (Err c.in-Err.refusal) tt tt c.in-Err.ensures.err i.4,
    )

pub returns-in-Ok-clause-seen : goal.returns-in-Ok-clause-seen
returns-in-Ok-clause-seen g c =
    let j = c.join.ensures in
    let n = c.record_token.ensures.scribe in
    let p = c.part_into.ensures.mine in
    let v = cell_view c.self.inside.scribe in
    let old = c.self.inside.ledger in
    let i = c.self.invariant in
    let told = g.D.Holder.bytes (device_in old) in
    let all = counts_share told (shape_in old) g.J.Naming.from g.J.Naming.sessions v i.3 in
    let most = (newest_share told (shape_in old) g.J.Naming.from g.J.Naming.sessions v i.3).1 in
    let top = ap (λ (x : Sight). x.token) j.desk.1 in
    let start = i.1 in
    let is = c.in-Ok.ensures.token in
    let token : (cell_view c.part_into.new.mine).token ≡ c.in-Ok.token - c.self.inside.start = ap (λ (x : Sight). x.token) p.1 ∙ ap (λ (x : Sight). x.token) n.1 in
    follows_told g.J.Naming.from.start.token c.me.inside.session (cell_view c.me.inside.seat) (cell_view c.join.new.desk) (cell_view c.part_into.new.mine) c.args.me.now c.me.view_is j.seen
    (ap (λ (x : Sight). x.list) p.1 ∙ ap (λ (x : Sight). x.list) n.1) (omega arith)

pub returns-in-Ok-clause-told : goal.returns-in-Ok-clause-told
returns-in-Ok-clause-told g c = told_apart g.J.Naming.from.start.token (cell_view c.record_token.new.scribe) (cell_view c.part_into.new.desk) (cell_view c.part_into.new.mine) c.part_into.ensures.desk.1 c.part_into.ensures.mine.1

pub returns-in-Ok-clause-list : goal.returns-in-Ok-clause-list
returns-in-Ok-clause-list g c = recorded_list g.J.Naming.from.start.token (c.in-Ok.token - c.self.inside.start) (cell_view c.self.inside.scribe) (cell_view c.join.new.desk) (cell_view c.record_token.new.scribe) (cell_view c.part_into.new.desk) (cell_view c.me.inside.seat).own c.args.self.now c.self.view_is c.join.ensures.desk.1 c.record_token.ensures.scribe.1 c.part_into.ensures.desk.1

pub returns-in-Ok-clause-same : goal.returns-in-Ok-clause-same
returns-in-Ok-clause-same g c = tt

pub returns-in-Ok-clause-idle : goal.returns-in-Ok-clause-idle
returns-in-Ok-clause-idle g c =
    idle_told g.J.Naming.from.start.token c.me.inside.session (cell_view c.me.inside.seat) (cell_view c.join.new.desk) (cell_view c.part_into.new.mine) c.args.me.now c.me.view_is c.join.ensures.seen c.me.invariant.1
    (ap (λ (x : Sight). x.list) c.part_into.ensures.mine.1 ∙ ap (λ (x : Sight). x.list) c.record_token.ensures.scribe.1)

pub returns-in-Ok-clause-token : goal.returns-in-Ok-clause-token
returns-in-Ok-clause-token g c =
    let i = c.self.invariant in
    let old = c.self.inside.ledger in
    let n = c.record_token.ensures.scribe.1 in
    let p = c.part_into.ensures.mine.1 in
    let all = counts_share (g.D.Holder.bytes (device_in old)) (shape_in old) g.J.Naming.from g.J.Naming.sessions (cell_view c.self.inside.scribe) i.3 in
    let long = ap (λ (x : Sight). length x.list) c.join.ensures.desk.1 in
    let is = c.in-Ok.ensures.token in
    refreshed_told g.J.Naming.from.start.token c.me.inside.session c.in-Ok.token (cell_view c.me.inside.seat) (cell_view c.join.new.desk) (cell_view c.part_into.new.mine) c.args.me.now c.me.view_is c.join.ensures.seen (omega arith)
    (ap (λ (x : Sight). x.list) p ∙ ap (λ (x : Sight). x.list) n) (ap (λ (x : Sight). x.token) p ∙ (ap (λ (x : Sight). x.token) n ∙ ap (λ (k : ℕ). c.in-Ok.token - k) i.1))

pub returns-in-Ok-clause-refusal : goal.returns-in-Ok-clause-refusal
returns-in-Ok-clause-refusal g c = tt

pub returns-in-Err-clause-told : goal.returns-in-Err-clause-told
returns-in-Err-clause-told g c = told_apart g.J.Naming.from.start.token (cell_view c.join.new.desk) (cell_view c.part_into-in-Err.new.desk) (cell_view c.part_into-in-Err.new.mine) c.part_into-in-Err.ensures.desk.1 c.part_into-in-Err.ensures.mine.1

pub returns-in-Err-clause-list : goal.returns-in-Err-clause-list
returns-in-Err-clause-list g c = (same_apart g.J.Naming.from.start.token (cell_view c.self.inside.scribe) (cell_view c.join.new.desk) (cell_view c.part_into-in-Err.new.desk) (cell_view c.me.inside.seat).own c.args.self.now c.self.view_is c.join.ensures.desk.1 c.part_into-in-Err.ensures.desk.1).0

pub returns-in-Err-clause-same : goal.returns-in-Err-clause-same
returns-in-Err-clause-same g c = (same_apart g.J.Naming.from.start.token (cell_view c.self.inside.scribe) (cell_view c.join.new.desk) (cell_view c.part_into-in-Err.new.desk) (cell_view c.me.inside.seat).own c.args.self.now c.self.view_is c.join.ensures.desk.1 c.part_into-in-Err.ensures.desk.1).1

pub returns-in-Err-clause-seen : goal.returns-in-Err-clause-seen
returns-in-Err-clause-seen g c =
    let p = c.part_into-in-Err.ensures.mine.1 in
    follows_joined g.J.Naming.from.start.token c.me.inside.session (cell_view c.me.inside.seat) (cell_view c.join.new.desk) (cell_view c.part_into-in-Err.new.mine) c.args.me.now c.me.view_is c.join.ensures.seen
    (ap (λ (x : Sight). x.list) p) (ap (λ (x : Sight). x.token) p)

pub returns-in-Err-clause-idle : goal.returns-in-Err-clause-idle
returns-in-Err-clause-idle g c =
    idle_told g.J.Naming.from.start.token c.me.inside.session (cell_view c.me.inside.seat) (cell_view c.join.new.desk) (cell_view c.part_into-in-Err.new.mine) c.args.me.now c.me.view_is c.join.ensures.seen c.me.invariant.1
    (ap (λ (x : Sight). x.list) c.part_into-in-Err.ensures.mine.1)

pub returns-in-Err-clause-token : goal.returns-in-Err-clause-token
returns-in-Err-clause-token g c = tt

pub returns-in-Err-clause-refusal : goal.returns-in-Err-clause-refusal
returns-in-Err-clause-refusal g c = c.in-Err.ensures.refusal
