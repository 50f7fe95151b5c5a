use Rattle.std.proofs.Common.{◌≡◌, ◌∙◌, [], ap, false, subst, sym, true}
use Rattle.cat_model.specs.State.{State, has_view, refreshed, refuses_refresh}
use Rattle.cat_service_tests.specs.plain.Tables.{AreItems}
use Rattle.cat_service_tests.proofs.plain.catalogue.Changes.{refreshed_already, refreshed_so, takes_no_view, takes_refresh}
use Rattle.cat_service_tests.proofs.plain.catalogue.Sound.{sound_recorded}
use Rattle.cat_service_tests.proofs.plain.catalogue.Rising.{views-recorded}
use Rattle.cat_service_tests.proofs.plain.catalogue.Plain.refresh.Goals as goal

pub invariant_of-self-2 : goal.invariant_of-self-2
invariant_of-self-2 c =
    let same = ap (λ v. v.table) c.new-view.ensures ∙ c.in_ok-copy_records.ensures.ok ∙ c.deref-3.ensures.value in
    let shown : AreItems c.self.inside.schema c.new-view.result.table = subst (AreItems c.self.inside.schema) (sym same) c.self.invariant.2 in (
      rw c.in_ok-record_view.ensures.ok (sound_recorded _ _ c.in_ok-gone.gone _ c.self.invariant.0 (rw (c.deref.ensures.value, c.deref-2.ensures.value) at c.in_ok-gone.ensures.least)),
      c.self.invariant.1,
      c.self.invariant.2,
      rw c.in_ok-record_view.ensures.ok (views-recorded _ c.in_ok-gone.gone _ _ shown c.self.invariant.3),
    )

pub returns-then-is_recorded-clause-ok : goal.returns-then-is_recorded-clause-ok
returns-then-is_recorded-clause-ok c =
    let count : c.self.inside.count ≡ c.args.self.now.state.count = ap (λ w. w.state.count) c.self.view_is in
    let has : has_view c.args.self.now.state.views c.args.self.now.state.count ≡ true = ap (has_view c.args.self.now.state.views) (sym count) ∙ sym c.is_recorded.ensures ∙ c.if-is_recorded.true in
    (takes_no_view c.args.self.now.state has, count, refreshed_already c.args.self.now.state has)

pub returns-clause-ok : goal.returns-clause-ok
returns-clause-ok c =
    let st : State = record { table = c.self.inside.table.items; count = c.self.inside.count; views = c.self.inside.views.items; holds = c.self.inside.holds.items; commits = []; taken = [] } in
    let none : has_view c.self.inside.views.items c.self.inside.count ≡ false = ap (λ w. has_view w.state.views c.self.inside.count) c.self.view_is ∙ sym c.is_recorded.ensures ∙ c.if-is_recorded.false in
    let view : c.new-view.result ≡ record { token = c.self.inside.count; table = c.self.inside.table.items } =
    c.new-view.ensures ∙ (λ j. record { token = c.self.inside.count; table = (c.in_ok-copy_records.ensures.ok ∙ c.deref-3.ensures.value) j }) in (
      subst (λ w. refuses_refresh w.state ≡ false) c.self.view_is (takes_refresh st (rw (c.deref.ensures.value, c.deref-2.ensures.value) at c.in_ok-gone.ensures.room)),
      ap (λ w. w.state.count) c.self.view_is,
      subst (λ w. record st { views = c.record_view.new.views.items } ≡ refreshed w.state) c.self.view_is
          (refreshed_so st c.new-view.result _ c.record_view.new.views.items none view (rw (c.deref.ensures.value, c.deref-2.ensures.value) at c.in_ok-gone.ensures.least) c.in_ok-record_view.ensures.ok),
    )
