use Rattle.std.proofs.Common.{arith, rules, pos, get_or, ap, ◌∙◌, to_z, of_z, w64}
use mir.Val.{SFits}
use Rattle.std.proofs.Math.Facts.{to_z-of_z}
use Rattle.std.proofs.lemmas.Grind.{common_steps}
use Rattle.cat_columns.specs.Columns.{is_within, is_between}
use Rattle.cat_columns.proofs.Packs.{bits_done, bits_left, within_between}
use Rattle.cat_columns.proofs.numbers.block_between.Goals as goal

pub loop-bit-preserved : goal.loop-bit-preserved
loop-bit-preserved c = let fits : SFits w64 (get_or c.args.values.now c.loop-bit.bit (pos 0)) = search rules in record {
  done = bits_done (is_between c.args.low c.args.high) c.args.values.now _ c.loop-bit.bit c.within.result (omega (arith, c.requires, c.loop-bit-test.true))
      (c.within.ensures ∙ ap (is_within (to_z w64 (of_z w64 c.unwrap_or-low.result)) (to_z w64 (of_z w64 c.unwrap_or-high.result))) (to_z-of_z fits)
      ∙ within_between c.args.low c.args.high _ _ _ fits (search rules) (search rules)) c.loop-bit.invariant.done c.loop-bit.invariant.left;
  left = bits_left _ c.loop-bit.bit c.within.result (omega (arith, c.requires, c.loop-bit-test.true)) c.loop-bit.invariant.left;
}

pub returns : goal.returns
returns c = grind (arith, common_steps)
