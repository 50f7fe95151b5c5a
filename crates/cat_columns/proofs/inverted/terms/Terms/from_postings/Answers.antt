use Rattle.std.proofs.Common.{◌≡◌, ℕ, List, length, sym, ap, ◌∙◌, subst}
use Rattle.std.proofs.lemmas.Bool.{true≢false}
use Rattle.std.proofs.lemmas.List.FromFn.{length-map-range_with_len}
use Rattle.std.specs.Prelude.{All}
use Rattle.cat_base.specs.Texts.{IsTextSet}
use Rattle.cat_model.specs.Text.{Text}
use Rattle.cat_model.specs.Layout.{pieces, paired_postings}
use Rattle.cat_columns.specs.inverted.Postings.{words_at, IsPart, IsTerms}
use Rattle.cat_columns.proofs.inverted.Parts.{length-pieces}
use Rattle.cat_columns.proofs.inverted.Told.{rising_words, posted_parts, terms_posted, some_terms, terms_from}
use Rattle.cat_columns.proofs.inverted.terms.Terms.from_postings.Goals as goal

pub returns-then-not-rises-clause-damaged : goal.returns-then-not-rises-clause-damaged
returns-then-not-rises-clause-damaged c = λ _ texts same sets e.
    let parts = pieces 0 c.args.ends.items c.args.rows.items in
    let long : length parts ≡ length c.args.words.items = length-pieces 0 c.args.ends.items c.args.rows.items ∙ c.requires.paired in
    absurd (true≢false (sym (c.rises.ensures.1 (subst IsTextSet (sym c.deref.ensures.value) (rising_words texts c.args.words.items parts long e))) ∙ c.if-not-rises.true))

pub returns-then-not-are_parts-clause-damaged : goal.returns-then-not-are_parts-clause-damaged
returns-then-not-are_parts-clause-damaged c = λ _ texts same sets e.
    let parts = pieces 0 c.args.ends.items c.args.rows.items in
    let long : length parts ≡ length c.args.words.items = length-pieces 0 c.args.ends.items c.args.rows.items ∙ c.requires.paired in
    let given = ap (λ (l : List ℕ). pieces 0 l c.deref-3.result.now) c.deref-2.ensures.value ∙ ap (pieces 0 c.args.ends.items) c.deref-3.ensures.value in
    let all = subst (λ n. All (IsPart n) parts) same (posted_parts texts c.args.words.items parts long e) in
    absurd (true≢false (sym (c.are_parts.ensures.parts.1 (subst (All (IsPart c.args.len)) (sym given) all)) ∙ c.if-not-are_parts.true))

pub from_sorted-requires : goal.from_sorted-requires
from_sorted-requires c = subst IsTextSet c.deref.ensures.value (c.rises.ensures.0 c.if-not-rises.false)

pub returns-in_err-words-clause-due : goal.returns-in_err-words-clause-due
returns-in_err-words-clause-due c = λ none.
    let sorted = subst IsTextSet c.deref.ensures.value (c.rises.ensures.0 c.if-not-rises.false) in
    absurd (some_terms c.args.len c.args.words.items c.args.ends.items c.args.rows.items
    (terms_from c.args.len c.args.words.items c.args.ends.items c.args.rows.items _ _ c.deref-2.ensures.value c.deref-3.ensures.value c.requires.few c.are_parts.ensures.few sorted c.requires.paired c.requires.parts
    (c.are_parts.ensures.parts.0 c.if-not-are_parts.false)) none)

pub invariant_of-result : goal.invariant_of-result
invariant_of-result c =
    let sorted = subst IsTextSet c.deref.ensures.value (c.rises.ensures.0 c.if-not-rises.false) in
    subst (λ (ws : List Text). IsTerms c.args.len ws c.args.ends.items c.args.rows.items) (sym c.in_ok-words.ensures.ok)
    (terms_from c.args.len c.args.words.items c.args.ends.items c.args.rows.items _ _ c.deref-2.ensures.value c.deref-3.ensures.value c.requires.few c.are_parts.ensures.few sorted c.requires.paired c.requires.parts
    (c.are_parts.ensures.parts.0 c.if-not-are_parts.false))

pub returns-clause-ok : goal.returns-clause-ok
returns-clause-ok c =
    let parts = pieces 0 c.args.ends.items c.args.rows.items in (
      length-map-range_with_len (words_at c.in_ok-words.words parts) 0 c.args.len,
      terms_posted c.args.len c.in_ok-words.words c.args.ends.items c.args.rows.items (invariant_of-result c) ∙ ap (λ (words : List Text). paired_postings words parts) c.in_ok-words.ensures.ok,
    )

pub returns-clause-due : goal.returns-clause-due
returns-clause-due c = λ none.
    absurd (some_terms c.args.len c.args.words.items c.args.ends.items c.args.rows.items
    (subst (λ (ws : List Text). IsTerms c.args.len ws c.args.ends.items c.args.rows.items) c.in_ok-words.ensures.ok (invariant_of-result c)) none)
