use Rattle.std.proofs.Common.{ap, ◌∙◌, sym, refl, length, arith}
use Rattle.serde_json.specs.Read.{read}
use Rattle.cat_items.proofs.Formed.{some_bytes}
use Rattle.cat_items.proofs.JsonTexts.{json_of-text, json_of-other, no_text_fault}
use Rattle.cat_items.proofs.parsing.read_json.Goals as goal

pub returns-in_default-clause-err : goal.returns-in_default-clause-err
returns-in_default-clause-err c = λ other. (refl, json_of-other c.args.bytes.now c.in_default.ensures.cases.0)

pub returns-in-Ok-from_str-clause-ok : goal.returns-in-Ok-from_str-clause-ok
returns-in-Ok-from_str-clause-ok c =
    json_of-text c.args.bytes.now _ c.in-Ok.ensures.cases.1 (ap read (sym c.in-Ok.ensures.cases.0) ∙ c.in-Ok-from_str.ensures.ok)

pub returns-in-Ok-from_str-clause-due : goal.returns-in-Ok-from_str-clause-due
returns-in-Ok-from_str-clause-due c =
    no_text_fault c.args.bytes.now _ c.in-Ok.ensures.cases.1 (some_bytes _ _ (returns-in-Ok-from_str-clause-ok c))

pub returns-in-Err-clause-due : goal.returns-in-Err-clause-due
returns-in-Err-clause-due c =
    let some = c.in-Err.ensures.memory (c.is_memory.ensures.0 c.if-is_memory.true) in
    no_text_fault c.args.bytes.now _ c.in-Ok.ensures.cases.1 (omega (arith, some, ap length c.in-Ok.ensures.cases.0))
