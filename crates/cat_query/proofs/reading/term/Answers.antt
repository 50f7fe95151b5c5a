use Rattle.std.proofs.Common.{length}
use Rattle.cat_model.specs.Reader.{meaning}
use Rattle.cat_segment.specs.cat_items.Kinds.{field_kind_of}
use Rattle.cat_query.specs.Reading.{asks_of}
use Rattle.cat_query.proofs.ValueSteps.{no_colon}
use Rattle.cat_query.proofs.Meanings.{judged_is, no_kind, no_colon_behind, no_value, no_meaning, term_read}
use Rattle.cat_query.proofs.reading.term.Goals as goal

pub returns-in_default : goal.returns-in_default
returns-in_default c = no_kind c.args.fields.now c.args.text.now c.name.result.0.now c.name.result.1.now c.name.ensures.front c.name.ensures.behind c.in_default.ensures

pub returns-in_default-behind : goal.returns-in_default-behind
returns-in_default-behind c =
    no_colon_behind c.args.fields.now c.args.text.now c.name.result.0.now c.name.result.1.now c.name.ensures.front c.name.ensures.behind (field_kind_of c.in-Some.kind) c.in-Some.ensures
    (no_colon (length c.args.text.now) c.name.result.1.now c.in_default-behind.ensures)

pub returns-in_default-read_value : goal.returns-in_default-read_value
returns-in_default-read_value c =
    no_value c.args.fields.now c.args.text.now c.name.result.0.now c.name.result.1.now c.name.ensures.front c.name.ensures.behind (field_kind_of c.in-Some.kind) c.in-Some.ensures
    c.in-Some-behind.rest.now c.in-Some-behind.ensures c.in_default-read_value.ensures.parts

pub returns-in_default-test : goal.returns-in_default-test
returns-in_default-test c =
    no_meaning c.args.fields.now c.args.text.now c.name.result.0.now c.name.result.1.now c.name.ensures.front c.name.ensures.behind (field_kind_of c.in-Some.kind) c.in-Some.ensures
    c.in-Some-behind.rest.now c.in-Some-behind.ensures (asks_of c.in-Some-read_value.value) c.in-Some-read_value.behind_value.now c.in-Some-read_value.ensures.parts (c.in_default-test.ensures c.name.result.0.now)

pub returns : goal.returns
returns c =
    let judged = judged_is c.in-Some-test.test c.name.result.0.now (meaning c.name.result.0.now (field_kind_of c.in-Some.kind) (asks_of c.in-Some-read_value.value)) (c.in-Some-test.ensures c.name.result.0.now) in (
      judged.0,
      term_read c.args.fields.now c.args.text.now c.name.result.0.now c.name.result.1.now c.name.ensures.front c.name.ensures.behind (field_kind_of c.in-Some.kind) c.in-Some.ensures
          c.in-Some-behind.rest.now c.in-Some-behind.ensures (asks_of c.in-Some-read_value.value) c.in-Some-read_value.behind_value.now c.in-Some-read_value.ensures.parts judged.0 judged.1,
      c.field_test.ensures judged.0 judged.2,
    )
