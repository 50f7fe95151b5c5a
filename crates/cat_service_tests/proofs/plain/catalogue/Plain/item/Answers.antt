use Rattle.std.proofs.Common.{◌≡◌, ◌≢◌, inl, inr, subst}
use Rattle.std.specs.Prelude.{◌⊎◌, IfErr, IfOk, Result, Err, Ok}
use Rattle.cat_base.specs.declared.refusal.Refusal.{Refusal}
use Rattle.cat_base.specs.declared.refusal.Refusal.TheVariants.{Memory}
use Rattle.cat_model.specs.Item.{Item, IsItem}
use Rattle.cat_search.specs.cat_items.Reading.{item_of}
use Rattle.cat_service_tests.proofs.plain.catalogue.Openings.{is_memory}
use Rattle.cat_service_tests.proofs.plain.catalogue.Plain.item.Goals as goal

-- what isn't want of memory is what is due
memory_or_due : {T : Type 0} (r : Result T Refusal) (due : Result Item Refusal) → IfErr r (λ e. e ≢ Memory → due ≡ Err e) → IfErr r (λ e. (e ≡ Memory) ⊎ (due ≡ Err e))
memory_or_due (Ok v) due h = h
memory_or_due (Err e) due h = elim (is_memory e) [ inl memory ↦ inl memory | inr other ↦ inr (h other) ]

pub returns-clause-ok : goal.returns-clause-ok
returns-clause-ok c = subst (λ w. IfOk c.item.result (λ i. item_of w.schema c.args.text.now ≡ Ok i)) c.self.view_is (rw c.as_bytes.ensures.value at c.item.ensures.ok)

pub returns-clause-err : goal.returns-clause-err
returns-clause-err c =
    memory_or_due c.item.result (item_of c.args.self.now.schema c.args.text.now)
    (subst (λ w. IfErr c.item.result (λ e. e ≢ Memory → item_of w.schema c.args.text.now ≡ Err e)) c.self.view_is (rw c.as_bytes.ensures.value at c.item.ensures.err))

pub returns-clause-due : goal.returns-clause-due
returns-clause-due c = rw c.as_bytes.ensures.value at c.item.ensures.due

pub returns-clause-typed : goal.returns-clause-typed
returns-clause-typed c = subst (λ w. IfOk c.item.result (λ i. IsItem w.schema i)) c.self.view_is c.item.ensures.typed
