use Rattle.std.proofs.Common.{◌∙◌, ℕ, List, length, refl, sym, ap, subst}
use Rattle.std.proofs.lemmas.Bool.{true≢false}
use Rattle.cat_base.specs.Texts.{IsTextSet}
use Rattle.cat_model.specs.Layout.{AreEnds}
use Rattle.cat_columns.proofs.Laid.{labels_rise, AreOrdinals-of, IsSets-from, labels_read, some_sets, AreOrdinals-moved}
use Rattle.cat_columns.proofs.sets.SetColumn.from_ordinals.Goals as goal

pub returns-then-not-rises-clause-damaged : goal.returns-then-not-rises-clause-damaged
returns-then-not-rises-clause-damaged c = λ _ rows sets e laid.
    absurd (true≢false (sym (c.rises.ensures.1 (subst IsTextSet (sym c.deref.ensures.value) (labels_rise _ rows e))) ∙ c.if-not-rises.true))

pub are_ordinals-requires : goal.are_ordinals-requires
are_ordinals-requires c =
    subst (λ (l : List ℕ). AreEnds 0 l (length c.deref-3.result.now)) (sym c.deref-2.ensures.value) (subst (λ (l : List ℕ). AreEnds 0 c.args.ends.items (length l)) (sym c.deref-3.ensures.value) c.requires.parts)

pub returns-then-not-are_ordinals-clause-damaged : goal.returns-then-not-are_ordinals-clause-damaged
returns-then-not-are_ordinals-clause-damaged c = λ _ rows sets e laid.
    let are = AreOrdinals-of c.args.dictionary.items c.args.ends.items c.args.ordinals.items rows c.requires.parts sets e laid in
    absurd (true≢false (sym (c.are_ordinals.ensures.1 (AreOrdinals-moved (sym (c.len.ensures ∙ c.args.dictionary.ok.0)) (sym c.deref-2.ensures.value) (sym c.deref-3.ensures.value) are)) ∙ c.if-not-are_ordinals.true))

pub from_sorted-requires : goal.from_sorted-requires
from_sorted-requires c = subst IsTextSet c.deref.ensures.value (c.rises.ensures.0 c.if-not-rises.false)

pub returns-in_err-dictionary-clause-due : goal.returns-in_err-dictionary-clause-due
returns-in_err-dictionary-clause-due c = λ none.
    let sorted = subst IsTextSet c.deref.ensures.value (c.rises.ensures.0 c.if-not-rises.false) in
    let are = AreOrdinals-moved (c.len.ensures ∙ c.args.dictionary.ok.0) c.deref-2.ensures.value c.deref-3.ensures.value (c.are_ordinals.ensures.0 c.if-not-are_ordinals.false) in
    absurd (some_sets c.args.dictionary.items c.args.ends.items c.args.ordinals.items sorted c.requires.parts are c.requires.few none)

pub invariant_of-result : goal.invariant_of-result
invariant_of-result c =
    let sorted = subst IsTextSet c.deref.ensures.value (c.rises.ensures.0 c.if-not-rises.false) in
    let are = AreOrdinals-moved (c.len.ensures ∙ c.args.dictionary.ok.0) c.deref-2.ensures.value c.deref-3.ensures.value (c.are_ordinals.ensures.0 c.if-not-are_ordinals.false) in
    IsSets-from c.in_ok-dictionary.dictionary c.args.ends.items c.args.ordinals.items (subst IsTextSet (sym c.in_ok-dictionary.ensures.ok) sorted) c.requires.parts
    (AreOrdinals-moved (sym (ap length c.in_ok-dictionary.ensures.ok)) refl refl are) c.requires.few

pub returns-clause-ok : goal.returns-clause-ok
returns-clause-ok c = labels_read _ _ _ _ _ c.in_ok-dictionary.ensures.ok (invariant_of-result c) refl

pub returns-clause-due : goal.returns-clause-due
returns-clause-due c = λ none.
    let h = labels_read _ _ _ _ _ c.in_ok-dictionary.ensures.ok (invariant_of-result c) refl in
    let is = invariant_of-result c in
    absurd (none _ is.sets h.0 h.1)
