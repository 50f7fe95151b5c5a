use Rattle.std.proofs.Common.{sym, ap, inl, inr}
use Rattle.cat_items.specs.file_parts.Reading.{rest_of}
use Rattle.cat_commits.proofs.Fields.{fields_told, no_fields}
use Rattle.cat_commits.proofs.decoding.take_fields.Goals as goal

pub returns-in-Ok-clause-rest : goal.returns-in-Ok-clause-rest
returns-in-Ok-clause-rest c = sym (ap rest_of (fields_told _ _ _ c.in-Ok.ensures.ok))

pub returns-in-Ok-clause-fields : goal.returns-in-Ok-clause-fields
returns-in-Ok-clause-fields c = fields_told _ _ _ c.in-Ok.ensures.ok

pub returns-in-Memory-clause-rest : goal.returns-in-Memory-clause-rest
returns-in-Memory-clause-rest c = let due = c.in-Err.ensures.due c.in-Memory.is in sym (ap rest_of (fields_told _ _ due.0 (due.1, due.2)))

pub returns-in_default : goal.returns-in_default
returns-in_default c = record {
  rest = elim c.in-Err.ensures.refusal [ inl damaged ↦ sym (ap rest_of (no_fields _ (c.in-Err.ensures.damaged damaged))) | inr memory ↦ absurd (c.in_default.not-Memory memory) ];
  fields = tt;
}
