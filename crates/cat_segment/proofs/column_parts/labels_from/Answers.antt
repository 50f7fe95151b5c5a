use Rattle.std.proofs.Common.{List, map, sym, subst, arith}
use Rattle.std.proofs.lemmas.Result.{err_from_is_err_and}
use Rattle.cat_items.proofs.file_parts.Pieces.{length-pieces}
use Rattle.cat_items.specs.declared.file_parts.parts.ColumnParts.TheVariants as parts
use Rattle.cat_model.specs.Item.{Content}
use Rattle.cat_model.specs.Text.{Text}
use Rattle.cat_model.specs.Layout.{pieces}
use Rattle.cat_segment.proofs.Columned.{labels_read, no_labels}
use Rattle.cat_segment.specs.Parts.{IsColumnOf}
use Rattle.cat_segment.specs.declared.column.Column.TheVariants.{Facet}
use Rattle.cat_segment.proofs.column_parts.labels_from.Goals as goal

pub from_ordinals-requires-clause-few : goal.from_ordinals-requires-clause-few
from_ordinals-requires-clause-few c = omega (arith, length-pieces 0 c.args.ends.items c.args.ordinals.items, c.requires.laid.2, c.requires.few)

pub returns-in_err-labels-clause-damaged : goal.returns-in_err-labels-clause-damaged
returns-in_err-labels-clause-damaged c =
    let p = err_from_is_err_and c.from_residual.result c.from_residual.ensures.1 in
    rw (p.1, p.2) (λ is contents are. no_labels c.args.rows c.args.dictionary.items (pieces 0 c.args.ends.items c.args.ordinals.items) (c.in_err-labels.ensures.damaged is) contents are)

pub returns-clause-ok : goal.returns-clause-ok
returns-clause-ok c =
    let read = labels_read c.args.rows c.in_ok-labels.labels c.args.dictionary.items (pieces 0 c.args.ends.items c.args.ordinals.items) c.len-rows.ensures.sets c.requires.labels c.in_ok-labels.ensures.ok.0 c.in_ok-labels.ensures.ok.1 c.requires.laid in
    subst (λ (ls : List (List Text)). IsColumnOf c.args.rows (parts.Facet c.args.dictionary c.args.ends c.args.ordinals) (Facet ls)) (sym c.in_ok-joined.ensures.ok) (record { contents = read.0; spelled = read.1 })

pub returns-in_err-labels-clause-due : goal.returns-in_err-labels-clause-due
returns-in_err-labels-clause-due c =
    let p = err_from_is_err_and c.from_residual.result c.from_residual.ensures.1 in
    let cut = pieces 0 c.args.ends.items c.args.ordinals.items in
    rw (p.1, p.2) (λ is none.
    let damage = c.in_err-labels.ensures.due (λ sets rising same laid. let read = labels_read c.args.rows sets c.args.dictionary.items cut rising c.requires.labels same laid c.requires.laid in none (map Content.labels sets) read.0 read.1) in
    absurd (cc (damage, is)))

pub returns-in_err-joined-clause-due : goal.returns-in_err-joined-clause-due
returns-in_err-joined-clause-due c =
    let p = err_from_is_err_and c.from_residual-in_err-joined.result c.from_residual-in_err-joined.ensures.1 in
    let read = labels_read c.args.rows c.in_ok-labels.labels c.args.dictionary.items (pieces 0 c.args.ends.items c.args.ordinals.items) c.len-rows.ensures.sets c.requires.labels c.in_ok-labels.ensures.ok.0 c.in_ok-labels.ensures.ok.1 c.requires.laid in
    rw (p.1, p.2) (λ is none. none (map Content.labels c.in_ok-labels.labels) read.0 read.1)
