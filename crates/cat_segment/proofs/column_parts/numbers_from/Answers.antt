use Rattle.std.proofs.Common.{◌≡◌, ℕ, ℤ, List, Option, IfSome, length, map, sym, ap, ◌∙◌, subst}
use Rattle.cat_model.specs.Item.{Content}
use Rattle.cat_segment.proofs.Columned.{numbers_read}
use Rattle.cat_segment.specs.Index.{AreAllRows}
use Rattle.cat_segment.specs.Parts.{IsColumnOf}
use Rattle.cat_segment.specs.declared.column.Column.TheVariants.{Number}
use Rattle.cat_items.specs.declared.file_parts.parts.ColumnParts.TheVariants as parts
use Rattle.cat_segment.proofs.column_parts.numbers_from.Goals as goal

pub joined-requires : goal.joined-requires
joined-requires c =
    let rows : c.args.rows ≡ length c.in_ok-values.values = sym (ap length (c.in_ok-values.ensures.ok ∙ c.deref.ensures.value) ∙ c.requires.laid.0) in
    subst (λ (n : ℕ). IfSome c.args.runs (λ order. AreAllRows n order.items)) rows c.requires.runs

pub returns-clause-ok : goal.returns-clause-ok
returns-clause-ok c =
    let read = numbers_read c.args.rows c.args.numbers.items c.requires.laid in
    subst (λ (zs : List (Option ℤ)). IsColumnOf c.args.rows (parts.Number c.args.numbers) (Number zs)) (sym (c.in_ok-joined.ensures.ok ∙ c.in_ok-values.ensures.ok ∙ c.deref.ensures.value)) (record { contents = read.0; spelled = read.1 })

pub returns-clause-due : goal.returns-clause-due
returns-clause-due c = λ none.
    let read = numbers_read c.args.rows c.args.numbers.items c.requires.laid in
    none (map Content.number c.args.numbers.items) read.0 read.1

pub returns-in_err-values-clause-due : goal.returns-in_err-values-clause-due
returns-in_err-values-clause-due c = λ none.
    let read = numbers_read c.args.rows c.args.numbers.items c.requires.laid in
    none (map Content.number c.args.numbers.items) read.0 read.1

pub returns-in_err-joined-clause-due : goal.returns-in_err-joined-clause-due
returns-in_err-joined-clause-due c = λ none.
    let read = numbers_read c.args.rows c.args.numbers.items c.requires.laid in
    none (map Content.number c.args.numbers.items) read.0 read.1
