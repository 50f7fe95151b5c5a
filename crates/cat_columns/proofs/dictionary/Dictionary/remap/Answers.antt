use Rattle.std.proofs.Common.{ℕ, ◌<◌, List, length, map, ap, sym, subst, ◌∙◌}
use Rattle.std.proofs.lemmas.List.{take_all}
use Rattle.std.specs.Prelude.{Contains}
use Rattle.cat_model.specs.Ordinals.{text_at}
use Rattle.cat_columns.proofs.Pushed.{pushed, all_pushed, all_none}
use Rattle.cat_columns.proofs.dictionary.Dictionary.remap.Goals as goal

pub loop-text-init : goal.loop-text-init
loop-text-init c = (ap (map (text_at c.args.self.now)) c.in_ok-ordinals.ensures.items, all_none (λ o. o < length c.args.self.now) c.in_ok-ordinals.ordinals.items c.in_ok-ordinals.ensures.items)

pub ordinal_from-ordinal-requires : goal.ordinal_from-ordinal-requires
ordinal_from-ordinal-requires c =
    subst (λ (q : List ℕ). Contains c.args.self.now q) (sym c.text-item.is) (c.requires.there c.loop-text.text-index c.text-item.result c.loop-text-test.true)

pub loop-text-preserved : goal.loop-text-preserved
loop-text-preserved c =
    let old = c.loop-text.ordinals.items in
    let new = c.push.new.self.items in
    let ordinal = c.ordinal_from-ordinal.result in
    let more = c.in_ok-push.ensures.items in (
      pushed (text_at c.args.self.now) old new ordinal c.args.texts.now c.loop-text.text-index c.text-item.result c.loop-text-test.true c.text-item.is c.loop-text.invariant.0 more c.ordinal_from-ordinal.ensures.value,
      all_pushed (λ o. o < length c.args.self.now) old new ordinal c.loop-text.invariant.1 c.ordinal_from-ordinal.ensures.bound more,
    )

pub returns : goal.returns
returns c = record {
  texts = c.loop-text.invariant.0 ∙ take_all c.loop-text.text-index c.args.texts.now c.loop-text-test.false;
  bound = c.loop-text.invariant.1;
}
