use Rattle.std.proofs.Common.{◌<◌, ◌^◌, length, map, ap, ◌∙◌, arith}
use Rattle.std.specs.Prelude.{All}
use Rattle.std.specs.List.{range_with_len}
use Rattle.std.proofs.lemmas.Grind.{elements}
use Rattle.cat_model.specs.Text.{Text}
use Rattle.cat_model.specs.View.{row_of, IsFormedRow}
use Rattle.cat_model.specs.Layout.{words_of_field}
use Rattle.cat_segment.specs.Fields.{contents_of_rows, row_record}
use Rattle.cat_segment.proofs.Made.{fields_right, rows_formed, rows_words, IsMade, rows_in_body, IsBody-made}
use Rattle.cat_segment.proofs.segment.Segment.of.Goals as goal

pub columns_of-requires-clause-typed : goal.columns_of-requires-clause-typed
columns_of-requires-clause-typed c = rw c.fields.ensures.value (fields_right c.args.schema.now c.args.rows.now c.requires.rows)

made : (c : goal.In_ok-columns_of) → IsMade c.args.schema.now c.args.rows.now (record { schema = c.in_ok-copy.field-0; numbers = c.in_ok-write_numbers.field-0.items; ids = c.in_ok-ids.field-0; lengths = c.in_ok-sources.field-0; columns = c.in_ok-columns_of.field-0.items })
made c = record {
  schema = c.in_ok-copy.ensures;
  numbers = c.in_ok-write_numbers.ensures.ok;
  ids = c.in_ok-ids.ensures.ok;
  lengths = c.in_ok-sources.ensures.ok;
  columns = c.in_ok-columns_of.ensures.ok ∙ ap (λ fs. map (λ k. contents_of_rows k c.args.rows.now) (range_with_len 0 (length fs))) c.fields.ensures.value;
}

formed : (c : goal.In_ok-columns_of) → All IsFormedRow (map (λ r. row_of (row_record r)) c.args.rows.now)
formed c = rows_formed c.args.schema.now c.args.rows.now c.requires.rows c.fields.ensures.valid c.in_ok-write_numbers.ensures.fit c.in_ok-ids.ensures.forms c.in_ok-sources.ensures.sizes (rw (← c.fields.ensures.value) c.in_ok-columns_of.ensures.fitting)

words : (c : goal.In_ok-columns_of) → (name : Text) → length (words_of_field (map (λ r. row_of (row_record r)) c.args.rows.now) name) < 2 ^ 32
words c = rows_words c.args.schema.now c.args.rows.now c.requires.rows c.fields.ensures.valid c.in_ok-write_numbers.ensures.fit c.in_ok-ids.ensures.forms c.in_ok-sources.ensures.sizes (rw (← c.fields.ensures.value) c.in_ok-columns_of.ensures.fitting)

pub invariant_of-result : goal.invariant_of-result
invariant_of-result c = IsBody-made c.args.schema.now c.args.rows.now c.requires.rows c.fields.ensures.valid (formed c) (words c) _ (made c)

pub returns : goal.returns
returns c =
    let rows = rows_in_body c.args.schema.now c.args.rows.now c.requires.rows c.fields.ensures.valid (formed c) (words c) _ (made c) in
    record { ok = λ i. record { number = c.args.number; schema = c.in_ok-copy.ensures i; rows = rows i } }

pub ids-requires : goal.ids-requires
ids-requires c = grind (arith, elements)

pub sources-requires : goal.sources-requires
sources-requires c = grind (arith, elements)

pub columns_of-requires-clause-few : goal.columns_of-requires-clause-few
columns_of-requires-clause-few c = grind (arith, elements)
