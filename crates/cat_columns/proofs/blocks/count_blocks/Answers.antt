use Rattle.std.proofs.Common.{refl, ◌∙◌}
use Rattle.cat_columns.proofs.Counts.{count_rows}
use Rattle.cat_columns.proofs.blocks.count_blocks.Goals as goal

pub returns : goal.returns
returns c = c.ones_in.ensures ∙ count_rows 64 refl c.args.blocks.now (λ k. (c.type_inv.blocks k).fits)
