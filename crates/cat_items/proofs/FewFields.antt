-- Members that are judged before fields are made of them: each is a field, and there are no more than a schema may have.
use Rattle.std.proofs.Common.{◌≡◌, ℕ, ◌<◌, ◌≤◌, List, length, Bool, true, false, cond, ltb, Option, Some, None, Result, Ok, Err, is_some, refl, sym, ap, ◌∙◌, arith, rules}
use Rattle.std.specs.Prelude.{String, IfErr}
use Rattle.std.proofs.lemmas.Bool.{true≢false}
use Rattle.std.specs.declared.alloc.Global.{Global}
use Rattle.serde_json.specs.View.{members_view}
use Rattle.serde_json.proofs.Views.{members_len-members_view}
use Rattle.serde_json.specs.declared.value.Value.{Value}
use Rattle.cat_base.specs.declared.refusal.Refusal.{Refusal}
use Rattle.cat_base.specs.declared.refusal.Refusal.TheVariants as refusal
use Rattle.cat_model.specs.Item.{Schema}
use Rattle.cat_items.specs.Reading.{fields_of, schema_in}

more_than : (n : ℕ) → 32 < n → ltb 32 n ≡ true
more_than n h = grind (arith, rules)

at_most : (n : ℕ) → n ≤ 32 → ltb 32 n ≡ false
at_most n h = grind (arith, rules)

-- what is known holds whatever error comes
pub whatever : {X : Type 0} (P : Type 0) (r : Result X Refusal) → P → IfErr r (λ e. e ≡ refusal.Memory → P)
whatever P (Ok x) p = tt
whatever P (Err e) p = λ _. p

pub too_many : (es : List (String Global × Value)) → 32 < length es → schema_in (members_view es) ≡ None
too_many es many =
    ap (λ (b : Bool). cond b None (fields_of (members_view es))) (ap (ltb 32) (members_len-members_view es) ∙ more_than (length es) many)

pub few_enough : (es : List (String Global × Value)) (fs : Schema) → length es ≤ 32 → fields_of (members_view es) ≡ Some fs → schema_in (members_view es) ≡ Some fs
few_enough es fs few e =
    ap (λ (b : Bool). cond b None (fields_of (members_view es))) (ap (ltb 32) (members_len-members_view es) ∙ at_most (length es) few) ∙ e

pub few_and_right : (es : List (String Global × Value)) → length es ≤ 32 → is_some (fields_of (members_view es)) ≡ true → (fs : Schema) × (schema_in (members_view es) ≡ Some fs)
few_and_right es few right = by (fields_of (members_view es)) refl right
  where
    by : (o : Option Schema) → fields_of (members_view es) ≡ o → is_some o ≡ true → (fs : Schema) × (schema_in (members_view es) ≡ Some fs)
    by None e right = absurd (true≢false (sym right))
    by (Some fs) e right = (fs, few_enough es fs few e)
