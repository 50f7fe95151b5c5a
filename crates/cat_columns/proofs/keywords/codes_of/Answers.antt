use Rattle.std.proofs.Common.{◌≤◌, Option, length, map, option_map, ap, sym, subst, ◌∙◌}
use Rattle.std.proofs.lemmas.List.{take_all}
use Rattle.std.specs.Borrow.{Bor}
use Rattle.cat_model.specs.Text.{Text}
use Rattle.cat_columns.specs.Columns.{text_of_code, DictionaryHas}
use Rattle.cat_columns.proofs.Pushed.{pushed_both, all_pushed, all_none}
use Rattle.cat_columns.proofs.keywords.codes_of.Goals as goal

pub loop-value-init : goal.loop-value-init
loop-value-init c = (ap (map (text_of_code c.args.dictionary.now)) c.in_ok-codes.ensures.items, all_none (λ code. code ≤ length c.args.dictionary.now) c.in_ok-codes.codes.items c.in_ok-codes.ensures.items)

pub code_of-requires-clause-there : goal.code_of-requires-clause-there
code_of-requires-clause-there c =
    subst (λ (v : Option (Bor Text)). DictionaryHas c.args.dictionary.now (option_map (λ t. t.now) v)) (sym c.value-item.is) (c.requires.there c.loop-value.value-index c.value-item.result c.loop-value-test.true)

pub loop-value-preserved : goal.loop-value-preserved
loop-value-preserved c =
    let ds = c.args.dictionary.now in
    let old = c.loop-value.codes.items in
    let new = c.push.new.self.items in
    let more = c.in_ok-push.ensures.items in (
      pushed_both (text_of_code ds) (option_map (λ (t : Bor Text). t.now)) old new c.code_of.result c.args.values.now c.loop-value.value-index c.value-item.result c.loop-value-test.true c.value-item.is c.loop-value.invariant.0 more c.code_of.ensures.value,
      all_pushed (λ code. code ≤ length ds) old new c.code_of.result c.loop-value.invariant.1 c.code_of.ensures.bound more,
    )

pub returns : goal.returns
returns c = record {
  values = c.loop-value.invariant.0 ∙ ap (map (option_map (λ (t : Bor Text). t.now))) (take_all c.loop-value.value-index c.args.values.now c.loop-value-test.false);
  bound = c.loop-value.invariant.1;
}
