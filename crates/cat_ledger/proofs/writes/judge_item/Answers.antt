use Rattle.std.proofs.Common.{◌<◌, ◌≤◌, inl, inr, refl, subst, sym}
use Rattle.std.proofs.lemmas.Bool.{iff_false}
use Rattle.cat_model.specs.Item.{IsItem}
use Rattle.cat_model.specs.Limits.{last_number}
use Rattle.cat_ledger.proofs.writes.judge_item.Goals as goal

pub returns-then-not-accepts-clause-item : goal.returns-then-not-accepts-clause-item
returns-then-not-accepts-clause-item c = tt

pub returns-then-not-accepts-clause-left : goal.returns-then-not-accepts-clause-left
returns-then-not-accepts-clause-left c = tt

pub returns-then-not-accepts-clause-kind : goal.returns-then-not-accepts-clause-kind
returns-then-not-accepts-clause-kind c = λ _ item. iff_false c.accepts.ensures c.if-not-accepts.true (subst (λ f. IsItem f c.args.item.now) (sym c.schema.ensures) item)

pub returns-then-not-accepts-clause-fitting : goal.returns-then-not-accepts-clause-fitting
returns-then-not-accepts-clause-fitting c = λ other. absurd (other refl)

pub returns-then-not-accepts-clause-spent : goal.returns-then-not-accepts-clause-spent
returns-then-not-accepts-clause-spent c = λ is. cc is

pub returns-then-not-accepts-clause-refusal : goal.returns-then-not-accepts-clause-refusal
returns-then-not-accepts-clause-refusal c = inl refl

pub returns-then-count-ge-LAST_NUMBER-clause-item : goal.returns-then-count-ge-LAST_NUMBER-clause-item
returns-then-count-ge-LAST_NUMBER-clause-item c = tt

pub returns-then-count-ge-LAST_NUMBER-clause-left : goal.returns-then-count-ge-LAST_NUMBER-clause-left
returns-then-count-ge-LAST_NUMBER-clause-left c = tt

pub returns-then-count-ge-LAST_NUMBER-clause-kind : goal.returns-then-count-ge-LAST_NUMBER-clause-kind
returns-then-count-ge-LAST_NUMBER-clause-kind c = λ is. cc is

pub returns-then-count-ge-LAST_NUMBER-clause-fitting : goal.returns-then-count-ge-LAST_NUMBER-clause-fitting
returns-then-count-ge-LAST_NUMBER-clause-fitting c = λ _. subst (λ f. IsItem f c.args.item.now) c.schema.ensures (c.accepts.ensures.0 c.if-not-accepts.false)

pub returns-then-count-ge-LAST_NUMBER-clause-spent : goal.returns-then-count-ge-LAST_NUMBER-clause-spent
returns-then-count-ge-LAST_NUMBER-clause-spent c = λ _. subst (λ n. last_number ≤ n) c.count.ensures.count c.if-count-ge-LAST_NUMBER.true

pub returns-then-count-ge-LAST_NUMBER-clause-refusal : goal.returns-then-count-ge-LAST_NUMBER-clause-refusal
returns-then-count-ge-LAST_NUMBER-clause-refusal c = inr refl

pub returns-clause-item : goal.returns-clause-item
returns-clause-item c = subst (λ f. IsItem f c.args.item.now) c.schema.ensures (c.accepts.ensures.0 c.if-not-accepts.false)

pub returns-clause-left : goal.returns-clause-left
returns-clause-left c = subst (λ n. n < last_number) c.count.ensures.count c.if-count-ge-LAST_NUMBER.false

pub returns-clause-kind : goal.returns-clause-kind
returns-clause-kind c = tt

pub returns-clause-fitting : goal.returns-clause-fitting
returns-clause-fitting c = tt

pub returns-clause-spent : goal.returns-clause-spent
returns-clause-spent c = tt

pub returns-clause-refusal : goal.returns-clause-refusal
returns-clause-refusal c = tt
