use Rattle.std.proofs.Common.{◌≡◌, ◌*◌, length, min, take, drop, refl, rules}
use Rattle.cat_columns.specs.Columns.{is_between}
use Rattle.cat_columns.proofs.Packs.{bits_in_block, bits_past_block}
use Rattle.cat_columns.proofs.numbers.block_at.Goals as goal

pub returns-clause-bits : goal.returns-clause-bits
returns-clause-bits c =
    let values = c.args.values.now in
    let rest = drop (64 * c.args.block) values in
    let near : c.split_at-2.result.0.now ≡ take (min (length rest) 64) rest = search rules in
    bits_in_block (is_between c.args.low c.args.high) values rest c.split_at-2.result.0.now c.block_between.result (64 * c.args.block) (min (length rest) 64) refl near refl c.block_between.ensures

pub returns-clause-rest : goal.returns-clause-rest
returns-clause-rest c =
    let rest = drop (64 * c.args.block) c.args.values.now in
    let near : c.split_at-2.result.0.now ≡ take (min (length rest) 64) rest = search rules in
    bits_past_block (is_between c.args.low c.args.high) rest c.split_at-2.result.0.now c.block_between.result (min (length rest) 64) near refl c.block_between.ensures
