use Rattle.std.proofs.Common.{◌≡◌, Some, refl, sym, ◌∙◌, arith}
use Rattle.std.specs.Map.Iter.{deref_pair}
use Rattle.std.proofs.lemmas.Map.Iter.{rest_more}
use Rattle.serde_json.specs.View.{members_view}
use Rattle.serde_json.proofs.Views.{members_len-members_view}
use Rattle.cat_model.specs.Item.{Schema}
use Rattle.cat_items.specs.Reading.{schema_in}
use Rattle.cat_items.proofs.FewFields.{whatever, too_many, few_enough, few_and_right}
use Rattle.cat_items.proofs.MemberSteps.{fields_more}
use Rattle.cat_items.proofs.Names.{as_many, rising_names, all_named, all_read}
use Rattle.cat_items.proofs.fields.read_fields.Goals as goal

pub returns-then-len-gt-MAX_FIELDS-clause-err : goal.returns-then-len-gt-MAX_FIELDS-clause-err
returns-then-len-gt-MAX_FIELDS-clause-err c = λ _. (refl, too_many c.args.members.now.entries (omega (arith, c.len.ensures.len, c.if-len-gt-MAX_FIELDS.true)))

pub returns-in_err-read_field-clause-due : goal.returns-in_err-read_field-clause-due
returns-in_err-read_field-clause-due c =
    whatever ((fs : Schema) × (schema_in (members_view c.args.members.now.entries) ≡ Some fs)) _
    (few_and_right c.args.members.now.entries (omega (arith, c.len.ensures.len, c.if-len-gt-MAX_FIELDS.false)) (sym c.if-not-are_fields.ensures))

pub returns-in_err-push-clause-due : goal.returns-in_err-push-clause-due
returns-in_err-push-clause-due c =
    whatever ((fs : Schema) × (schema_in (members_view c.args.members.now.entries) ≡ Some fs)) _
    (few_and_right c.args.members.now.entries (omega (arith, c.len.ensures.len, c.if-len-gt-MAX_FIELDS.false)) (sym c.if-not-are_fields.ensures))

pub loop-name-preserved : goal.loop-name-preserved
loop-name-preserved c =
    fields_more _ _ _ _ _ _ _ _
    c.in_ok-push.ensures.items
    (rest_more deref_pair _ _ _ (c.in-Some.name, c.in-Some.value) c.in-Some.is c.next.ensures.steps)
    c.as_str.ensures.value
    c.in_ok-read_field.ensures.ok
    ∙ c.loop-name.invariant

pub returns-clause-ok : goal.returns-clause-ok
returns-clause-ok c =
    few_enough c.args.members.now.entries c.loop-name.fields.items (omega (arith, c.len.ensures.len, c.if-len-gt-MAX_FIELDS.false))
    (all_read _ _ _ c.in-None.ensures.steps.0 c.loop-name.invariant)

pub returns-clause-few : goal.returns-clause-few
returns-clause-few c =
    let all = as_many (members_view c.args.members.now.entries) c.loop-name.fields.items (all_read _ _ _ c.in-None.ensures.steps.0 c.loop-name.invariant) in
    omega (arith, c.len.ensures.len, c.if-len-gt-MAX_FIELDS.false, all, members_len-members_view c.args.members.now.entries)

pub returns-clause-rising : goal.returns-clause-rising
returns-clause-rising c = rising_names c.args.members.now.entries _ c.iter-name-items.ensures.ordered (all_read _ _ _ c.in-None.ensures.steps.0 c.loop-name.invariant)

pub returns-clause-named : goal.returns-clause-named
returns-clause-named c = all_named (members_view c.args.members.now.entries) _ (all_read _ _ _ c.in-None.ensures.steps.0 c.loop-name.invariant)
