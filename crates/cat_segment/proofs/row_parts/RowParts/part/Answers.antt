use Rattle.std.proofs.Common.{◌<◌, length, subst, sym, arith}
use Rattle.std.proofs.lemmas.Grind.{elements}
use Rattle.cat_segment.specs.RowParts.{parts_of, parts_of_runs}
use Rattle.cat_segment.proofs.row_parts.RowParts.part.Goals as goal

pub part-requires : goal.part-requires
part-requires c = subst (λ parts. c.args.index < length (parts_of parts)) c.in-Runs.is c.requires

pub part-requires-in-AllRuns : goal.part-requires-in-AllRuns
part-requires-in-AllRuns c =
    subst (λ l. c.args.index < length (parts_of_runs c.in-AllRuns.runs l)) (sym c.behind.ensures)
    (subst (λ parts. c.args.index < length (parts_of parts)) c.in-AllRuns.is c.requires)

pub keyword_part-requires : goal.keyword_part-requires
keyword_part-requires c = grind (arith, elements)

pub keyword_part_from_end-requires : goal.keyword_part_from_end-requires
keyword_part_from_end-requires c = grind (arith, elements)
