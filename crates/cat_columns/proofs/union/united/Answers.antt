use Rattle.std.proofs.Common.{◌≡◌, ◌++◌, ◌+◌, [], ◌∷◌, List, map, ap, ◌∙◌, sym, refl, subst, take, arith, append-nil}
use Rattle.std.proofs.lemmas.List.{take_more, take_all}
use Rattle.std.specs.Borrow.{Bor}
use Rattle.std.specs.List.{flat_map}
use Rattle.cat_model.specs.Text.{Text}
use Rattle.cat_columns.specs.Merged.{HaveSame, texts_in}
use Rattle.cat_columns.proofs.Merged.{if_ok_both, more_sets, same_by}
use Rattle.cat_columns.proofs.union.united.Goals as goal

abbrev seen : List (Bor Text) → List Text
seen texts = map (λ t. t.now) texts

pub loop-set-preserved : goal.loop-set-preserved
loop-set-preserved c =
    let next : take (c.loop-set.set-index + 1) c.args.sets.now ≡ take c.loop-set.set-index c.args.sets.now ++ c.set-item.result ∷ [] =
    take_more c.args.sets.now c.loop-set.set-index c.set-item.result c.loop-set-test.true ∙ ap (λ (s : Bor (List Text)). take c.loop-set.set-index c.args.sets.now ++ s ∷ []) (sym c.set-item.is) in
    more_sets c.args.sets.now c.loop-set.set-index c.set-item.result (texts_in c.loop-set.parts.items) (texts_in c.add_set.new.parts.items) next c.loop-set.invariant c.in_ok-add_set.ensures.ok

pub returns : goal.returns
returns c =
    let whole : take c.loop-set.set-index c.args.sets.now ≡ c.args.sets.now = take_all c.loop-set.set-index c.args.sets.now (omega (arith, c.loop-set-test.false)) in
    let added : HaveSame (texts_in c.loop-set.parts.items) (flat_map (λ s. s.now) c.args.sets.now) = subst (λ l. HaveSame (texts_in c.loop-set.parts.items) (flat_map (λ s. s.now) l)) whole c.loop-set.invariant in
    let before : texts_in c.loop-set.parts.items ++ seen c.new.result.items ≡ texts_in c.loop-set.parts.items =
    ap (λ (l : List (Bor Text)). texts_in c.loop-set.parts.items ++ seen l) c.new.ensures.items ∙ append-nil (texts_in c.loop-set.parts.items) in
    record {
      ok =
          if_ok_both _ _ _ (λ v same all.
          same_by (seen v.items) (texts_in c.loop-set.parts.items) (flat_map (λ s. s.now) c.args.sets.now)
          (subst (HaveSame (seen v.items)) before (subst (λ l. HaveSame (texts_in l ++ seen v.items) (texts_in c.loop-set.parts.items ++ seen c.new.result.items)) (all refl) same)) added) c.settled.result c.settled.ensures.ok c.settled.ensures.all;
    }
