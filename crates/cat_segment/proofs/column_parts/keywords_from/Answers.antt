use Rattle.std.proofs.Common.{List, Option, map, sym, subst}
use Rattle.std.proofs.lemmas.Result.{err_from_is_err_and}
use Rattle.cat_items.specs.declared.file_parts.parts.ColumnParts.TheVariants as parts
use Rattle.cat_model.specs.Item.{Content}
use Rattle.cat_model.specs.Text.{Text}
use Rattle.cat_segment.proofs.Columned.{keywords_read}
use Rattle.cat_segment.specs.Parts.{IsColumnOf}
use Rattle.cat_segment.specs.declared.column.Column.TheVariants.{Keyword}
use Rattle.cat_segment.proofs.column_parts.keywords_from.Goals as goal

pub returns-clause-ok : goal.returns-clause-ok
returns-clause-ok c =
    let read = keywords_read c.args.rows c.in_ok-values.values c.args.dictionary.items c.args.codes.items c.in_ok-values.ensures.ok.0 c.in_ok-values.ensures.ok.1 c.requires.laid in
    subst (λ (ks : List (Option Text)). IsColumnOf c.args.rows (parts.Keyword c.args.dictionary c.args.codes) (Keyword ks)) (sym c.in_ok-joined.ensures.ok) (record { contents = read.0; spelled = read.1 })

pub returns-in_err-values-clause-due : goal.returns-in_err-values-clause-due
returns-in_err-values-clause-due c =
    let p = err_from_is_err_and c.from_residual.result c.from_residual.ensures.1 in
    rw (p.1, p.2) (λ is none.
    let damage = c.in_err-values.ensures.due (λ values same coded. let read = keywords_read c.args.rows values c.args.dictionary.items c.args.codes.items same coded c.requires.laid in none (map Content.keyword values) read.0 read.1) in
    absurd (cc (damage, is)))

pub returns-in_err-joined-clause-due : goal.returns-in_err-joined-clause-due
returns-in_err-joined-clause-due c =
    let p = err_from_is_err_and c.from_residual-in_err-joined.result c.from_residual-in_err-joined.ensures.1 in
    let read = keywords_read c.args.rows c.in_ok-values.values c.args.dictionary.items c.args.codes.items c.in_ok-values.ensures.ok.0 c.in_ok-values.ensures.ok.1 c.requires.laid in
    rw (p.1, p.2) (λ is none. none (map Content.keyword c.in_ok-values.values) read.0 read.1)
