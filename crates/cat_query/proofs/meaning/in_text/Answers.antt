use Rattle.std.proofs.Common.{◌≡◌, true, false, ap, ◌∙◌, Some, None}
use Rattle.cat_model.specs.Item.{Kind}
use Rattle.cat_model.specs.Query as model
use Rattle.cat_model.specs.Words.{lowered}
use Rattle.cat_model.specs.Reader.{meaning}
use Rattle.cat_query.specs.Escapes.{is_escaped}
use Rattle.cat_query.specs.Reading.{asks_of, end_of}
use Rattle.cat_query.proofs.Meanings.{judged_as, judged_none, word_is, prefix_is, no_words_between}
use Rattle.cat_query.proofs.meaning.in_text.Goals as goal

pub returns-in_err-run-in-Is : goal.returns-in_err-run-in-Is
returns-in_err-run-in-Is c =
    let right : is_escaped c.in-Is.text.now ≡ true = rw c.in-Is.is at c.requires in
    λ f. judged_none c.from_residual.result f (meaning f Kind.text (asks_of c.args.value)) c.from_residual.ensures
    (ap (λ v. meaning f Kind.text (asks_of v)) c.in-Is.is ∙ word_is f c.in-Is.text.now None right c.in_err-run-in-Is.ensures)

pub returns-then-not-all_word_bytes : goal.returns-then-not-all_word_bytes
returns-then-not-all_word_bytes c =
    let none = rw c.as_bytes.ensures.value at c.if-not-all_word_bytes.ensures in
    λ f. ap (λ v. meaning f Kind.text (asks_of v)) c.in-Begins.is ∙ prefix_is f c.in-Begins.text.now false none

pub returns-in_ok-run-in-Is : goal.returns-in_ok-run-in-Is
returns-in_ok-run-in-Is c =
    let right : is_escaped c.in-Is.text.now ≡ true = rw c.in-Is.is at c.requires in
    λ f. judged_as c.word.result f (meaning f Kind.text (asks_of c.args.value)) (model.Primary.word f (lowered c.in_ok-run-in-Is.run'.now))
    (ap (λ v. meaning f Kind.text (asks_of v)) c.in-Is.is ∙ word_is f c.in-Is.text.now (Some (lowered c.in_ok-run-in-Is.run'.now)) right c.in_ok-run-in-Is.ensures) (c.word.ensures f)

pub returns-else-not-all_word_bytes : goal.returns-else-not-all_word_bytes
returns-else-not-all_word_bytes c =
    let all = rw c.as_bytes.ensures.value at c.if-not-all_word_bytes.ensures in
    λ f. judged_as c.word_prefix.result f (meaning f Kind.text (asks_of c.args.value)) (model.Primary.word_prefix f (lowered c.in-Begins.text.now))
    (ap (λ v. meaning f Kind.text (asks_of v)) c.in-Begins.is ∙ prefix_is f c.in-Begins.text.now true all) (c.word_prefix.ensures f)

pub returns-in-Between : goal.returns-in-Between
returns-in-Between c = λ f. ap (λ v. meaning f Kind.text (asks_of v)) c.in-Between.is ∙ no_words_between f (end_of c.in-Between.field-0) (end_of c.in-Between.field-1)
