use Rattle.std.proofs.Common.{arith, ◌∙◌}
use Rattle.cat_ledger.proofs.Lasting.{opened_lasts}
use Rattle.cat_ledger.proofs.Swept.{counts_swept, opened_alike, opened_begins, opened_schema, opened_shape, swept_users}
use Rattle.cat_ledger.proofs.Histories.{opened_ahead}
use Rattle.cat_ledger.proofs.opening.open_swept.Goals as goal

pub returns-clause-ok : goal.returns-clause-ok
returns-clause-ok g c = record {
  state = c.in_ok-core.core;
  opened = opened_alike (g.D.Holder.bytes c.args.device.now) (g.D.Holder.bytes c.«open».new.device) c.args.schema c.in_ok-core.core c.«open».ensures.frame.same c.in_ok-core.ensures.ok;
  swept = c.sweep-swept.ensures.leaves;
  kept = λ q some. c.sweep-swept.ensures.used q some ∙ c.«open».ensures.frame.same q;
}

pub returns-clause-fields : goal.returns-clause-fields
returns-clause-fields g c =
    opened_schema (g.D.Holder.bytes c.args.device.now) c.args.schema c.in_ok-core.core c.sweep-swept.new.self
    (opened_alike (g.D.Holder.bytes c.args.device.now) (g.D.Holder.bytes c.«open».new.device) c.args.schema c.in_ok-core.core c.«open».ensures.frame.same c.in_ok-core.ensures.ok)
    c.sweep-swept.ensures.leaves

pub returns-clause-stands : goal.returns-clause-stands
returns-clause-stands g c =
    opened_begins (g.D.Holder.bytes c.args.device.now) (g.D.Holder.bytes c.sweep-swept.new.device) c.args.schema c.in_ok-core.core c.sweep-swept.new.self
    (opened_alike (g.D.Holder.bytes c.args.device.now) (g.D.Holder.bytes c.«open».new.device) c.args.schema c.in_ok-core.core c.«open».ensures.frame.same c.in_ok-core.ensures.ok)
    c.sweep-swept.ensures.leaves (λ q some. c.sweep-swept.ensures.used q some ∙ c.«open».ensures.frame.same q)

pub returns-clause-crash : goal.returns-clause-crash
returns-clause-crash g c =
    λ q some e after. c.«open».ensures.frame.crash q e
    (c.sweep-swept.ensures.crash q (swept_users c.in_ok-core.core c.sweep-swept.new.self q c.sweep-swept.ensures.leaves some) e after)

pub returns-clause-lasts : goal.returns-clause-lasts
returns-clause-lasts g c =
    let bytes = g.D.Holder.bytes in
    let told = bytes c.args.device.now in
    let d = c.«open».new.device in
    let d' = c.sweep-swept.new.device in
    let mid = c.in_ok-core.core in
    let new = c.sweep-swept.new.self in
    let opened = opened_alike told (bytes d) c.args.schema mid c.«open».ensures.frame.same c.in_ok-core.ensures.ok in
    let begins = opened_begins told (bytes d') c.args.schema mid new opened c.sweep-swept.ensures.leaves
    (λ q some. c.sweep-swept.ensures.used q some ∙ c.«open».ensures.frame.same q) in
    opened_lasts bytes g.D.Holder.may_leave g.met.D.Holder.may_stay c.args.device.now d d' mid new (opened_shape told c.args.schema told mid opened)
    (begins.2.ledger, begins.2.files, begins.2.carries) c.sweep-swept.ensures.leaves c.in_ok-core.ensures.lasts
    (λ q some. c.sweep-swept.ensures.used q some ∙ c.«open».ensures.frame.same q) c.sweep-swept.ensures.crash

pub returns-clause-ahead : goal.returns-clause-ahead
returns-clause-ahead g c =
    λ tells.
    opened_ahead (g.D.Holder.bytes c.args.device.now) c.args.schema (g.D.Holder.bytes c.«open».new.device) c.in_ok-core.core c.sweep-swept.new.self (g.D.Holder.may_leave c.«open».new.device)
    (g.D.Holder.may_leave c.sweep-swept.new.device) (tells c.args.device.now) c.in_ok-core.ensures.ok c.sweep-swept.ensures.leaves c.in_ok-core.ensures.gone
    c.sweep-swept.ensures.files.back

pub returns-clause-rises : goal.returns-clause-rises
returns-clause-rises g c = omega (arith, c.in_ok-core.ensures.counted, c.sweep-swept.ensures.rises)

pub returns-clause-swept : goal.returns-clause-swept
returns-clause-swept g c =
    counts_swept (g.D.Holder.can_fail c.args.device.now) (g.D.Holder.can_fail c.«open».new.device) (g.D.Holder.fault_count c.args.device.now)
    (g.D.Holder.fault_count c.«open».new.device) (g.D.Holder.fault_count c.sweep-swept.new.device) c.sweep-swept.new.self c.sweep-swept.result
    c.in_ok-core.ensures.counted c.sweep-swept.ensures.fails.counted c.«open».ensures.frame.can c.sweep-swept.ensures.fails.device c.sweep-swept.ensures.stays
