use Rattle.std.proofs.Common.{◌≡◌, ◌+◌, ◌∙◌, [], sym, ap, not, subst}
use Rattle.std.specs.List.{filter}
use Rattle.cat_model.specs.Item.{IsItem}
use Rattle.cat_model.specs.State.{State, written}
use Rattle.cat_model.specs.Text.{same_text}
use Rattle.cat_model.specs.Write.{Write}
use Rattle.cat_service_tests.proofs.plain.catalogue.Changes.{written_so}
use Rattle.cat_service_tests.proofs.plain.catalogue.Rising.{items-put, table-put}
use Rattle.cat_service_tests.proofs.plain.catalogue.Plain.put.Goals as goal

pub invariant_of-self-2 : goal.invariant_of-self-2
invariant_of-self-2 c =
    let next : c.in_ok-number.number ≡ c.self.inside.count + 1 = c.in_ok-number.ensures.ok.0 ∙ ap (λ w. w.state.count + 1) (sym c.self.view_is) in
    let typed : IsItem c.self.inside.schema c.args.item = subst (λ w. IsItem w.schema c.args.item) (sym c.self.view_is) c.requires in (
      c.self.invariant.0,
      rw (c.in-Ok.ensures.items, c.remove_id.ensures.items, c.in_ok-reserve.ensures.items) (table-put _ _ _ _ _ next (ap (λ r. r.number) c.new-record.ensures) c.self.invariant.1),
      rw (c.in-Ok.ensures.items, c.remove_id.ensures.items, c.in_ok-reserve.ensures.items) (items-put _ _ _ _ (subst (IsItem c.self.inside.schema) (sym (ap (λ r. r.item) c.new-record.ensures ∙ c.in_ok-new.ensures.ok)) typed) c.self.invariant.2),
      c.self.invariant.3,
    )

pub returns-clause-ok : goal.returns-clause-ok
returns-clause-ok c =
    let next : c.in_ok-number.number ≡ c.self.inside.count + 1 = c.in_ok-number.ensures.ok.0 ∙ ap (λ w. w.state.count + 1) (sym c.self.view_is) in
    let st : State = record { table = c.self.inside.table.items; count = c.self.inside.count; views = c.self.inside.views.items; holds = c.self.inside.holds.items; commits = []; taken = [] } in
    let item : c.new-record.result.item ≡ c.args.item = ap (λ r. r.item) c.new-record.ensures ∙ c.in_ok-new.ensures.ok in
    let made : c.new-record.result ≡ record { number = c.in_ok-number.number; item = c.args.item } = c.new-record.ensures ∙ (λ j. record { number = c.in_ok-number.number; item = c.in_ok-new.ensures.ok j }) in (
      c.in_ok-number.ensures.ok.1,
      c.in_ok-number.ensures.ok.0,
      subst (λ w. record st { table = c.push.new.self.items; count = c.in_ok-number.number } ≡ written w.state (Write.put c.args.item)) c.self.view_is
          (written_so st c.args.item c.in_ok-number.number c.id.result.now c.new-record.result c.remove_id.new.records.items c.push.new.self.items next
          (c.id.ensures.value ∙ ap (λ i. i.id) (c.item.ensures ∙ item)) made
          (c.remove_id.ensures.items ∙ ap (filter (λ r. not (same_text c.id.result.now r.item.id))) c.in_ok-reserve.ensures.items) c.in-Ok.ensures.items),
    )
