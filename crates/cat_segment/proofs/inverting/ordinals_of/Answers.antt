use Rattle.std.proofs.Common.{◌∙◌, map, refl, ap, arith}
use Rattle.std.proofs.lemmas.List.{take_all}
use Rattle.cat_segment.specs.Parts.{ordinals_of}
use Rattle.cat_segment.proofs.Inverted.{code_more, no_code, one_ordinal}
use Rattle.cat_segment.proofs.inverting.ordinals_of.Goals as goal

pub loop-code-preserved : goal.loop-code-preserved
loop-code-preserved c =
    let i = c.loop-code.code-index in
    let more = code_more c.args.codes.now i _ c.loop-code.ends.items c.push.new.self.items c.loop-code.ordinals.items c.add_ordinal.new.ordinals.items c.len.result c.loop-code-test.true refl c.in_ok-add_ordinal.ensures.ok (omega (arith, c.len.ensures, c.add_ordinal.new.ordinals.ok.0)) c.in_ok-push.ensures.items
    c.loop-code.invariant.parts c.loop-code.invariant.rows in
    record {
      few = omega (arith, c.loop-code.invariant.few, one_ordinal _ _ _ c.in_ok-add_ordinal.ensures.ok);
      parts = more.0;
      rows = more.1;
    }

pub loop-code-init : goal.loop-code-init
loop-code-init c =
    let start = no_code c.in_ok-ends.ends.items c.in_ok-ordinals.ordinals.items c.in_ok-ends.ensures.items c.in_ok-ordinals.ensures.items in
    record {
      few = start.0;
      parts = start.1;
      rows = start.2;
    }

pub returns-clause-parts : goal.returns-clause-parts
returns-clause-parts c = c.loop-code.invariant.parts

pub returns-clause-rows : goal.returns-clause-rows
returns-clause-rows c = c.loop-code.invariant.rows ∙ ap (map ordinals_of) (take_all c.loop-code.code-index c.args.codes.now c.loop-code-test.false)

pub overflow_cast-len : goal.overflow_cast-len
overflow_cast-len c = omega (arith, c.requires, c.loop-code-test.true, c.loop-code.invariant.few, one_ordinal _ _ _ c.in_ok-add_ordinal.ensures.ok, c.len.ensures)
