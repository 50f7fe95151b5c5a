-- What is known of a text, where its query is read, where memory is wanted, and where it has a fault.
use Rattle.std.proofs.Common.{◌≡◌, ℕ, inl, inr}
use Rattle.std.specs.Prelude.{◌⊎◌, Result, Err}
use Rattle.cat_base.specs.declared.refusal.Refusal.{Refusal}
use Rattle.cat_base.specs.declared.refusal.Refusal.TheVariants.{Memory, Query as NoQuery}
use Rattle.cat_model.specs.Faults.{Fault}
use Rattle.cat_model.specs.Grammar.{Spells}
use Rattle.cat_model.specs.Heard.{IsQueryOf}
use Rattle.cat_model.specs.Item.{IsSchema, Schema}
use Rattle.cat_model.specs.Query.{Query}
use Rattle.cat_model.specs.Text.{Text}
use Rattle.cat_model.proofs.QueryLaws.{no_fault}

-- a text that is not read for want of memory spells a query, since a fault would be told
pub spelled_unread : {X : Type 0} (schema : Schema) (text : Text) (e : Refusal) → e ≡ Memory → ((q : Result Query Refusal) × IsQueryOf schema text q)
    → ((place : ℕ) → Fault schema text place → ◌≡◌ {A = Result X Refusal} (Err e) (Err (NoQuery place)))
    → (q : Query) × Spells schema text q
spelled_unread {X = X} schema text e memory judged due = by judged.0 judged.1
  where
    by : (r : Result Query Refusal) → IsQueryOf schema text r → (q : Query) × Spells schema text q
    by _ (IsQueryOf.spelled q s) = (q, s)
    by _ (IsQueryOf.faulty place fault) = absurd (let other : ◌≡◌ {A = Result X Refusal} (Err e) (Err (NoQuery place)) = due place fault in cc)

-- so it has none
pub unread_no_fault : {X : Type 0} (schema : Schema) (text : Text) (e : Refusal) → e ≡ Memory
    → ((place : ℕ) → Fault schema text place → ◌≡◌ {A = Result X Refusal} (Err e) (Err (NoQuery place))) → (place : ℕ) → Fault schema text place → ⊥
unread_no_fault {X = X} schema text e memory due place fault =
    let other : ◌≡◌ {A = Result X Refusal} (Err e) (Err (NoQuery place)) = due place fault in cc

-- what is no want of memory is a fault
pub is_fault : (schema : Schema) (text : Text) (e : Refusal) → (e ≡ Memory → ⊥) → (e ≡ Memory) ⊎ ((place : ℕ) × (e ≡ NoQuery place) × Fault schema text place)
    → (place : ℕ) × (e ≡ NoQuery place) × Fault schema text place
is_fault schema text e other (inl memory) = absurd (other memory)
is_fault schema text e other (inr fault) = fault

-- a text with a fault spells no query
pub unspelled : (schema : Schema) (text : Text) → IsSchema schema → (e : Refusal) → ((place : ℕ) × (e ≡ NoQuery place) × Fault schema text place)
    → (q : Query) → Spells schema text q → ⊥
unspelled schema text under e fault q s = no_fault schema text q fault.0 under s fault.2
