use Rattle.cat_columns.proofs.Below.{below_cut}
use Rattle.cat_columns.proofs.blocks.clear_below.Goals as goal

pub returns-then-row-ne0 : goal.returns-then-row-ne0
returns-then-row-ne0 c = below_cut c.args.blocks.now c.fill.new.self c.args.row c.requires (c.fill.ensures.after (λ y h. h)) c.if-row-ne0.true
