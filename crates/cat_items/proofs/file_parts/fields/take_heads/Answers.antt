use Rattle.std.proofs.Common.{sym, ◌∙◌, subst, arith}
use Rattle.std.proofs.lemmas.Bool.{true≢false}
use Rattle.std.proofs.lemmas.Result.{err_from_is_err_and}
use Rattle.cat_model.specs.Item.{IsSchema}
use Rattle.cat_items.proofs.file_parts.Forms.{fields_here, fields_not_schema, fields_not_count, fields_not_each}
use Rattle.cat_items.proofs.file_parts.Rests.{fields_too_many}
use Rattle.cat_items.proofs.file_parts.fields.take_heads.Goals as goal

pub returns-in_err-count-clause-found : goal.returns-in_err-count-clause-found
returns-in_err-count-clause-found c =
    let p = err_from_is_err_and c.from_residual.result c.from_residual.ensures.1 in
    rw p.1 (fields_not_count c.args.cursor.now c.in_err-count.ensures)

pub returns-then-count-gt-MAX_FIELDS-clause-found : goal.returns-then-count-gt-MAX_FIELDS-clause-found
returns-then-count-gt-MAX_FIELDS-clause-found c = fields_too_many c.args.cursor.now c.take_u32.new.cursor c.in_ok-count.count c.in_ok-count.ensures (omega arith)

pub returns-in_err-heads-clause-found : goal.returns-in_err-heads-clause-found
returns-in_err-heads-clause-found c =
    let p = err_from_is_err_and c.from_residual-in_err-heads.result c.from_residual-in_err-heads.ensures.1 in
    rw p.1 (fields_not_each c.args.cursor.now c.take_u32.new.cursor c.in_ok-count.count c.in_ok-count.ensures c.in_err-heads.ensures)

pub returns-then-not-are_schema-clause-found : goal.returns-then-not-are_schema-clause-found
returns-then-not-are_schema-clause-found c =
    fields_not_schema c.args.cursor.now c.take_u32.new.cursor c.take_each_field.new.cursor c.in_ok-count.count c.in_ok-heads.heads.items c.in_ok-count.ensures c.in_ok-heads.ensures
    (λ s. true≢false (sym (c.are_schema.ensures.1 (subst IsSchema (sym c.deref.ensures.0) s)) ∙ c.if-not-are_schema.true))

pub returns-clause-found : goal.returns-clause-found
returns-clause-found c =
    fields_here c.args.cursor.now c.take_u32.new.cursor c.take_each_field.new.cursor c.in_ok-count.count c.in_ok-heads.heads.items c.in_ok-count.ensures c.in_ok-heads.ensures
    (subst IsSchema c.deref.ensures.0 (c.are_schema.ensures.0 c.if-not-are_schema.false))
