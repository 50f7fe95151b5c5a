use Rattle.std.proofs.Common.{ap, map, ◌∙◌, option_map, arith}
use Rattle.std.proofs.lemmas.Grind.{elements}
use Rattle.cat_model.specs.Item.{Kind}
use Rattle.cat_segment.proofs.Filled.{texts_told, keywords_told, numbers_told, labels_told, words_of_terms, words_of_none}
use Rattle.cat_segment.proofs.building.column_of.Goals as goal

pub returns-in_ok-terms-in-Text-clause-ok : goal.returns-in_ok-terms-in-Text-clause-ok
returns-in_ok-terms-in-Text-clause-ok c =
    let filled = rw c.in-Text.is at c.requires.filled in
    texts_told c.args.index c.args.rows.now filled _ (c.in_ok-terms-in-Text.ensures.ok ∙ ap (map (λ t. t.now)) c.deref.ensures.value ∙ c.in_ok-texts-in-Text.ensures.ok)

pub returns-in_ok-joined-in-Keyword-clause-ok : goal.returns-in_ok-joined-in-Keyword-clause-ok
returns-in_ok-joined-in-Keyword-clause-ok c =
    let filled = rw c.in-Keyword.is at c.requires.filled in
    keywords_told c.args.index c.args.rows.now filled _ (c.in_ok-joined-in-Keyword.ensures.ok ∙ c.in_ok-values-in-Keyword.ensures.ok ∙ ap (map (option_map (λ t. t.now))) c.deref-in-Keyword.ensures.value ∙ c.in_ok-keywords-in-Keyword.ensures.ok)

pub returns-in_ok-joined-in-Number-clause-ok : goal.returns-in_ok-joined-in-Number-clause-ok
returns-in_ok-joined-in-Number-clause-ok c =
    let filled = rw c.in-Number.is at c.requires.filled in
    numbers_told c.args.index c.args.rows.now filled _ (c.in_ok-joined-in-Number.ensures.ok ∙ c.in_ok-values-in-Number.ensures.ok ∙ c.deref-in-Number.ensures.value ∙ c.in_ok-numbers-in-Number.ensures.ok)

pub returns-in_ok-joined-in-Facet-clause-ok : goal.returns-in_ok-joined-in-Facet-clause-ok
returns-in_ok-joined-in-Facet-clause-ok c =
    let filled = rw c.in-Facet.is at c.requires.filled in
    labels_told c.args.index c.args.rows.now filled _ (c.in_ok-joined-in-Facet.ensures.ok ∙ c.in_ok-labels-in-Facet.ensures.ok ∙ ap (map (λ t. t.now)) c.deref-in-Facet.ensures.value ∙ c.in_ok-texts-in-Facet.ensures.ok)

pub returns-in_ok-terms-in-Text-clause-fitting : goal.returns-in_ok-terms-in-Text-clause-fitting
returns-in_ok-terms-in-Text-clause-fitting c =
    let filled = rw c.in-Text.is at c.requires.filled in
    record {
      formed = c.in_ok-texts-in-Text.ensures.formed;
      words = words_of_terms c.args.index c.args.rows.now filled _ (c.in_ok-terms-in-Text.ensures.ok ∙ ap (map (λ t. t.now)) c.deref.ensures.value ∙ c.in_ok-texts-in-Text.ensures.ok) c.in_ok-terms-in-Text.ensures.few;
    }

pub returns-in_ok-joined-in-Keyword-clause-fitting : goal.returns-in_ok-joined-in-Keyword-clause-fitting
returns-in_ok-joined-in-Keyword-clause-fitting c =
    record {
      formed = c.in_ok-keywords-in-Keyword.ensures.formed;
      words = words_of_none c.args.index c.args.rows.now Kind.keyword (λ e. (cc)) (rw c.in-Keyword.is at c.requires.filled);
    }

pub returns-in_ok-joined-in-Number-clause-fitting : goal.returns-in_ok-joined-in-Number-clause-fitting
returns-in_ok-joined-in-Number-clause-fitting c =
    record {
      formed = c.in_ok-numbers-in-Number.ensures.formed;
      words = words_of_none c.args.index c.args.rows.now Kind.number (λ e. (cc)) (rw c.in-Number.is at c.requires.filled);
    }

pub returns-in_ok-joined-in-Facet-clause-fitting : goal.returns-in_ok-joined-in-Facet-clause-fitting
returns-in_ok-joined-in-Facet-clause-fitting c =
    record {
      formed = c.in_ok-texts-in-Facet.ensures.formed;
      words = words_of_none c.args.index c.args.rows.now Kind.facet (λ e. (cc)) (rw c.in-Facet.is at c.requires.filled);
    }

pub terms-requires-clause-few : goal.terms-requires-clause-few
terms-requires-clause-few c = grind (arith, elements)

pub of-requires : goal.of-requires
of-requires c = grind (arith, elements)

pub of-requires-in-Number : goal.of-requires-in-Number
of-requires-in-Number c = grind (arith, elements)

pub of-requires-in-Facet-clause-few : goal.of-requires-in-Facet-clause-few
of-requires-in-Facet-clause-few c = grind (arith, elements)
