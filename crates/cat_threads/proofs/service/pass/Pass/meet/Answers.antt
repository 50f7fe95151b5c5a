use Rattle.std.proofs.Common.{refl, sym, ap, ◌∙◌}
use Rattle.crossbeam_utils.specs.Seq.{cell_view}
use Rattle.cat_threads.specs.history.Rules.{Sight, greater, longer}
use Rattle.cat_threads.proofs.service.Meeting.{are_one, have_met}
use Rattle.cat_threads.proofs.service.Spelled.{caller_next, caller_own}
use Rattle.cat_threads.proofs.service.Telling.{follows_joined, idle_told}
use Rattle.cat_threads.proofs.service.pass.Pass.meet.Goals as goal

pub meet-requires-clause-one : goal.meet-requires-clause-one
meet-requires-clause-one g c = (c.self.invariant.0 ∙ sym c.requires, caller_own c.self.inside.session (cell_view c.self.inside.seat) c.self.invariant.1)

pub meet-requires-clause-two : goal.meet-requires-clause-two
meet-requires-clause-two g c = (c.other.invariant.0 ∙ sym c.requires, caller_own c.other.inside.session (cell_view c.other.inside.seat) c.other.invariant.1)

pub invariant_of-self : goal.invariant_of-self
invariant_of-self g c =
    let one = cell_view c.self.inside.seat in
    let two = cell_view c.other.inside.seat in
    let e = c.meet.ensures.one in
    (e.0 ∙ c.self.invariant.0, caller_next c.self.inside.session (longer one.list two.list) (greater one.token two.token) one.own (cell_view c.meet.new.one) (ap (λ (x : Sight). x.own) c.self.invariant.1) e.1)

pub invariant_of-other : goal.invariant_of-other
invariant_of-other g c =
    let one = cell_view c.meet.new.one in
    let two = cell_view c.other.inside.seat in
    let e = c.meet.ensures.two in
    (e.0 ∙ c.other.invariant.0, caller_next c.other.inside.session (longer two.list one.list) (greater two.token one.token) two.own (cell_view c.meet.new.two) (ap (λ (x : Sight). x.own) c.other.invariant.1) e.1)

pub returns-clause-seen : goal.returns-clause-seen
returns-clause-seen g c =
    let start = g.J.Naming.from.start.token in
    let one = cell_view c.meet.new.one in
    let two = cell_view c.meet.new.two in (
      follows_joined start c.self.inside.session (cell_view c.self.inside.seat) one one c.args.self.now c.self.view_is c.meet.ensures.first.0 refl refl,
      follows_joined start c.other.inside.session (cell_view c.other.inside.seat) two two c.args.other.now c.other.view_is c.meet.ensures.second.0 refl refl,
    )

pub returns-clause-idle : goal.returns-clause-idle
returns-clause-idle g c =
    let start = g.J.Naming.from.start.token in
    let one = cell_view c.meet.new.one in
    let two = cell_view c.meet.new.two in (
      idle_told start c.self.inside.session (cell_view c.self.inside.seat) one one c.args.self.now c.self.view_is c.meet.ensures.first.0 c.self.invariant.1 refl,
      idle_told start c.other.inside.session (cell_view c.other.inside.seat) two two c.args.other.now c.other.view_is c.meet.ensures.second.0 c.other.invariant.1 refl,
    )

pub returns-clause-before : goal.returns-clause-before
returns-clause-before g c =
    are_one g.J.Naming.from.start.token c.self.inside.session c.other.inside.session (cell_view c.self.inside.seat) (cell_view c.other.inside.seat) (cell_view c.meet.new.one) c.args.self.now c.args.other.now
    c.self.view_is c.other.view_is (ap (λ (x : Sight). x.list) c.meet.ensures.one.1) c.meet.ensures.first.0 c.meet.ensures.first.1

pub returns-clause-met : goal.returns-clause-met
returns-clause-met g c = have_met g.J.Naming.from.start.token (cell_view c.other.inside.seat) (cell_view c.meet.new.one) (cell_view c.meet.new.two) c.meet.ensures.first.1 c.meet.ensures.two.1
