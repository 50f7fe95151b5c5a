use Rattle.std.proofs.Common.{◌∙◌, ap, arith, length}
use Rattle.cat_columns.specs.Bits.{is_set}
use Rattle.cat_columns.proofs.Bits.{flags-length, flag_at}
use Rattle.cat_columns.proofs.row_set.RowSet.contains.Goals as goal

pub has_row-requires : goal.has_row-requires
has_row-requires c =
    omega (arith, flags-length c.self.inside.len c.self.inside.blocks.items c.args.self.now c.self.view_is, ap length c.deref.ensures.value)

pub returns : goal.returns
returns c =
    c.has_row.ensures ∙ ap (λ blocks. is_set blocks c.args.row) c.deref.ensures.value
    ∙ flag_at c.self.inside.len c.self.inside.blocks.items c.args.self.now c.args.row c.self.view_is c.requires
