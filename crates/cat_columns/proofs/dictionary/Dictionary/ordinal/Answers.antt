use Rattle.std.proofs.Common.{◌∙◌, ◌<◌, ◌^◌, length, sym, ap, subst}
use Rattle.std.specs.Arc.{arc_value}
use Rattle.cat_columns.specs.Hints.{hint_of, AreHints}
use Rattle.cat_columns.specs.TextHash.{text_hash}
use Rattle.cat_columns.proofs.Hinted.{none_tells, one_tells}
use Rattle.cat_columns.proofs.dictionary.Dictionary.ordinal.Goals as goal

pub hint_of-requires : goal.hint_of-requires
hint_of-requires c = subst (λ l. length l < 2 ^ 32) (sym (c.deref-2.ensures.value ∙ ap (λ v. v.items) c.deref.ensures)) c.self.invariant.1.few

pub returns-in-Empty : goal.returns-in-Empty
returns-in-Empty c =
    let hints = (arc_value c.self.inside.hints).items in
    let items = c.deref-2.ensures.value ∙ ap (λ v. v.items) c.deref.ensures in
    let told = ap (λ l. hint_of l (text_hash c.args.text.now)) (sym items) ∙ ap (hint_of c.deref-2.result.now) (sym c.text_hash.ensures) ∙ sym c.in-Empty.ensures in
    none_tells c.args.self.now hints c.args.text.now (subst (λ ds. AreHints ds hints) c.self.view_is c.self.invariant.1) told

pub returns-in-Crowded : goal.returns-in-Crowded
returns-in-Crowded c = c.search.ensures

pub returns-in-One : goal.returns-in-One
returns-in-One c =
    let hints = (arc_value c.self.inside.hints).items in
    let items = c.deref-2.ensures.value ∙ ap (λ v. v.items) c.deref.ensures in
    let told = ap (λ l. hint_of l (text_hash c.args.text.now)) (sym items) ∙ ap (hint_of c.deref-2.result.now) (sym c.text_hash.ensures) ∙ sym c.in-One.ensures in
    one_tells c.args.self.now hints c.args.text.now c.in-One.ordinal c.ordinal_if.result (subst (λ ds. AreHints ds hints) c.self.view_is c.self.invariant.1) told c.ordinal_if.ensures.some c.ordinal_if.ensures.none
