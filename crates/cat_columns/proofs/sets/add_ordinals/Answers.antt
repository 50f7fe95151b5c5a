use Rattle.std.proofs.Common.{ℕ, ◌<◌, ◌++◌, List, length, map, ap, sym, subst, append-nil, ◌∙◌}
use Rattle.std.proofs.lemmas.List.{take_all}
use Rattle.std.specs.Prelude.{Contains}
use Rattle.cat_model.specs.Ordinals.{text_at}
use Rattle.cat_columns.proofs.Pushed.{pushed_behind, all_pushed}
use Rattle.cat_columns.proofs.sets.add_ordinals.Goals as goal

pub loop-label-init : goal.loop-label-init
loop-label-init c = (sym (append-nil (map (text_at c.args.dictionary.now) c.args.ordinals.now.items)), c.requires.old)

pub ordinal_of-requires-clause-there : goal.ordinal_of-requires-clause-there
ordinal_of-requires-clause-there c =
    subst (λ (q : List ℕ). Contains c.args.dictionary.now q) (sym c.label-item.is) (c.requires.there c.loop-label.label-index c.label-item.result c.loop-label-test.true)

pub loop-label-preserved : goal.loop-label-preserved
loop-label-preserved c =
    let ds = c.args.dictionary.now in
    let old = c.loop-label.ordinals.items in
    let new = c.push.new.self.items in
    let more = c.in_ok-push.ensures.items in (
      pushed_behind (text_at ds) (map (text_at ds) c.args.ordinals.now.items) old new c.ordinal_of.result c.args.row.now c.loop-label.label-index c.label-item.result c.loop-label-test.true c.label-item.is c.loop-label.invariant.0 more c.ordinal_of.ensures.value,
      all_pushed (λ o. o < length ds) old new c.ordinal_of.result c.loop-label.invariant.1 c.ordinal_of.ensures.bound more,
    )

pub returns : goal.returns
returns c = record {
  value = c.loop-label.invariant.0 ∙ ap (λ l. map (text_at c.args.dictionary.now) c.args.ordinals.now.items ++ l) (take_all c.loop-label.label-index c.args.row.now c.loop-label-test.false);
  bound = c.loop-label.invariant.1;
}
