use Rattle.std.proofs.Common.{ap, ◌∙◌}
use Rattle.cat_model.specs.Item.{Kind}
use Rattle.cat_model.specs.Query as model
use Rattle.cat_model.specs.Reader.{meaning}
use Rattle.cat_query.specs.Escapes.{unescaped}
use Rattle.cat_query.specs.Reading.{asks_of, end_of}
use Rattle.cat_query.proofs.Meanings.{judged_as, label_is, label_prefix_is, no_labels_between}
use Rattle.cat_query.proofs.meaning.in_facet.Goals as goal

pub returns-in-Is : goal.returns-in-Is
returns-in-Is c = λ f. judged_as c.label.result f (meaning f Kind.facet (asks_of c.args.value)) (model.Primary.label f (unescaped c.in-Is.text.now))
    (ap (λ v. meaning f Kind.facet (asks_of v)) c.in-Is.is ∙ label_is f (unescaped c.in-Is.text.now)) (c.label.ensures f)

pub returns-in-Begins : goal.returns-in-Begins
returns-in-Begins c = λ f. judged_as c.label_prefix.result f (meaning f Kind.facet (asks_of c.args.value)) (model.Primary.label_prefix f c.in-Begins.text.now)
    (ap (λ v. meaning f Kind.facet (asks_of v)) c.in-Begins.is ∙ label_prefix_is f c.in-Begins.text.now) (c.label_prefix.ensures f)

pub returns-in-Between : goal.returns-in-Between
returns-in-Between c = λ f. ap (λ v. meaning f Kind.facet (asks_of v)) c.in-Between.is ∙ no_labels_between f (end_of c.in-Between.field-0) (end_of c.in-Between.field-1)
