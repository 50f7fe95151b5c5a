use Rattle.std.proofs.Common.{◌∙◌}
use Rattle.cat_segment.specs.RowParts.{parts_of}
use Rattle.cat_segment.proofs.Runs.{last_of_part}
use Rattle.cat_segment.proofs.row_parts.RowParts.last_through.Goals as goal

pub returns-in_default : goal.returns-in_default
returns-in_default c =
    last_of_part (parts_of c.args.self.now) c.args.index c.part.result.now c.copied.result c.requires c.part.ensures
    (c.copied.ensures ∙ c.last.ensures.value)
