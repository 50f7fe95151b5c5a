use Rattle.std.proofs.lemmas.Result.{err_from_is_err_and}
use Rattle.cat_items.specs.file_parts.Layouts.{fields_at}
use Rattle.cat_items.proofs.file_parts.Layouts.{reads_fields, never}
use Rattle.cat_model.specs.Item.{IsSchema}
use Rattle.cat_model.specs.Layout.{spelled_fields}
use Rattle.cat_items.proofs.file_parts.fields.read_fields.Goals as goal

pub returns-clause-ok : goal.returns-clause-ok
returns-clause-ok c = let s = reads_fields.sound c.args.cursor.now (c.in_ok-schema.schema, c.take_fields.new.cursor) c.in_ok-schema.ensures.gives in (s.1, s.0)

pub returns-in_err-schema-clause-damaged : goal.returns-in_err-schema-clause-damaged
returns-in_err-schema-clause-damaged c =
    let p = err_from_is_err_and c.from_residual.result c.from_residual.ensures.1 in
    rw (p.1, p.2) (never fields_at spelled_fields IsSchema reads_fields c.args.cursor.now c.in_err-schema.field-0.0 c.in_err-schema.ensures.gives)

pub returns-in_err-schema-clause-due : goal.returns-in_err-schema-clause-due
returns-in_err-schema-clause-due c =
    let p = err_from_is_err_and c.from_residual.result c.from_residual.ensures.1 in
    rw (p.1, p.2) (λ memory.
    let found = c.in_err-schema.ensures.due memory in
    let s = reads_fields.sound c.args.cursor.now (found.0, c.take_fields.new.cursor) found.1 in
    (found.0, s.1, s.0))
