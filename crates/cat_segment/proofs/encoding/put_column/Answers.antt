use Rattle.std.proofs.Common.{◌≡◌, ◌++◌, ℕ, List, Result, Ok, Err, ap, sym, ◌∙◌}
use Rattle.std.specs.Prelude.{OnOk}
use Rattle.cat_model.specs.Layout.{Laid, spelled_column}
use Rattle.cat_segment.proofs.Columned.{words_laid, keywords_laid, numbers_laid, labels_laid}
use Rattle.cat_segment.specs.Laid.{laid_in}
use Rattle.cat_segment.specs.declared.column.Column.{Column}
use Rattle.cat_segment.specs.declared.column.Column.TheVariants.{Keyword, Number, Facet}
use Rattle.cat_segment.proofs.encoding.put_column.Goals as goal

-- the column is laid out as what was put
put : {E : Type 0} (r : Result (Unit {0}) E) (new old : List ℕ) (column : Column) (laid : Laid) → laid ≡ laid_in column → OnOk r (new ≡ old ++ spelled_column laid) → OnOk r (new ≡ old ++ spelled_column (laid_in column))
put (Ok x) new old column laid same spelled = spelled ∙ ap (λ l. old ++ spelled_column l) same
put (Err e) new old column laid same spelled = tt

pub returns-in-Text : goal.returns-in-Text
returns-in-Text c = record { ok = put c.put_words.result _ _ c.args.column.now _ (sym (words_laid c.in-Text.terms) ∙ ap laid_in (sym c.in-Text.is)) c.put_words.ensures.ok }

pub returns-in-Keyword : goal.returns-in-Keyword
returns-in-Keyword c =
    record { ok = put c.put_keywords.result _ _ c.args.column.now _ (sym (keywords_laid c.values.result.now) ∙ ap (λ (k : List _). laid_in (Keyword k)) c.values.ensures ∙ ap laid_in (sym c.in-Keyword.is)) c.put_keywords.ensures.ok }

pub returns-in-Number : goal.returns-in-Number
returns-in-Number c = record { ok = put c.put_integers.result _ _ c.args.column.now _ (sym (numbers_laid c.values-in-Number.result.now) ∙ ap (λ (n : List _). laid_in (Number n)) c.values-in-Number.ensures ∙ ap laid_in (sym c.in-Number.is)) c.put_integers.ensures.ok }

pub returns-in-Facet : goal.returns-in-Facet
returns-in-Facet c =
    record { ok = put c.put_labels.result _ _ c.args.column.now _ (sym (labels_laid c.labels.result.now) ∙ ap (λ (l : List _). laid_in (Facet l)) c.labels.ensures ∙ ap laid_in (sym c.in-Facet.is)) c.put_labels.ensures.ok }
