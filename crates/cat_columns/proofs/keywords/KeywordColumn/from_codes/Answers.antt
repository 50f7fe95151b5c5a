use Rattle.std.proofs.Common.{◌∙◌, ℕ, List, length, sym, subst}
use Rattle.std.proofs.lemmas.Bool.{true≢false}
use Rattle.cat_base.specs.Texts.{IsTextSet}
use Rattle.cat_model.specs.Text.{Text}
use Rattle.cat_columns.specs.Columns.{AreCodes}
use Rattle.cat_columns.proofs.Laid.{keywords_rise, AreCodes-of, IsKeywords-from, keywords_read, some_keywords}
use Rattle.cat_columns.proofs.keywords.KeywordColumn.from_codes.Goals as goal

pub returns-then-not-rises-clause-damaged : goal.returns-then-not-rises-clause-damaged
returns-then-not-rises-clause-damaged c = λ _ values e laid.
    absurd (true≢false (sym (c.rises.ensures.1 (subst IsTextSet (sym c.deref.ensures.value) (keywords_rise _ values e))) ∙ c.if-not-rises.true))

pub returns-then-not-are_codes-clause-damaged : goal.returns-then-not-are_codes-clause-damaged
returns-then-not-are_codes-clause-damaged c = λ _ values e laid.
    let are = AreCodes-of c.args.dictionary.items c.args.codes.items values e laid in
    absurd (true≢false (sym (c.are_codes.ensures.1 (subst (λ (n : ℕ). AreCodes n c.deref-2.result.now) (sym (c.len.ensures ∙ c.args.dictionary.ok.0)) (subst (λ (l : List ℕ). AreCodes (length c.args.dictionary.items) l) (sym c.deref-2.ensures.value) are))) ∙ c.if-not-are_codes.true))

pub from_sorted-requires : goal.from_sorted-requires
from_sorted-requires c = subst IsTextSet c.deref.ensures.value (c.rises.ensures.0 c.if-not-rises.false)

pub returns-in_err-dictionary-clause-due : goal.returns-in_err-dictionary-clause-due
returns-in_err-dictionary-clause-due c = λ none.
    let sorted = subst IsTextSet c.deref.ensures.value (c.rises.ensures.0 c.if-not-rises.false) in
    let are = subst (λ (l : List ℕ). AreCodes (length c.args.dictionary.items) l) c.deref-2.ensures.value (subst (λ (n : ℕ). AreCodes n c.deref-2.result.now) (c.len.ensures ∙ c.args.dictionary.ok.0) (c.are_codes.ensures.0 c.if-not-are_codes.false)) in
    absurd (some_keywords c.args.dictionary.items c.args.codes.items sorted are c.requires.few none)

pub invariant_of-result : goal.invariant_of-result
invariant_of-result c =
    let sorted = subst IsTextSet c.deref.ensures.value (c.rises.ensures.0 c.if-not-rises.false) in
    let are = subst (λ (l : List ℕ). AreCodes (length c.args.dictionary.items) l) c.deref-2.ensures.value (subst (λ (n : ℕ). AreCodes n c.deref-2.result.now) (c.len.ensures ∙ c.args.dictionary.ok.0) (c.are_codes.ensures.0 c.if-not-are_codes.false)) in
    IsKeywords-from c.in_ok-dictionary.dictionary c.args.codes.items (subst IsTextSet (sym c.in_ok-dictionary.ensures.ok) sorted)
    (subst (λ (l : List Text). AreCodes (length l) c.args.codes.items) (sym c.in_ok-dictionary.ensures.ok) are) c.requires.few

pub returns-clause-ok : goal.returns-clause-ok
returns-clause-ok c = keywords_read _ _ _ c.in_ok-dictionary.ensures.ok (invariant_of-result c)

pub returns-clause-due : goal.returns-clause-due
returns-clause-due c = λ none.
    let h = keywords_read _ _ _ c.in_ok-dictionary.ensures.ok (invariant_of-result c) in
    absurd (none _ h.0 h.1)
