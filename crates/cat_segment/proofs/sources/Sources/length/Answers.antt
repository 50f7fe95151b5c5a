use Rattle.std.proofs.Common.{◌+◌, ◌<◌, ◌≡◌, length, take, sum, get_or, ap, ◌∙◌, arith}
use Rattle.std.proofs.lemmas.List.{get_or_read}
use Rattle.std.proofs.lemmas.List.Sums.{sum_by_more}
use Rattle.cat_segment.proofs.Ends.{length-lengths_between, end_of}
use Rattle.cat_segment.proofs.sources.Sources.length.Goals as goal

pub index-requires : goal.index-requires
index-requires c =
    let ends = c.self.inside.ends.items in
    omega (arith, ap length c.self.view_is, length-lengths_between 0 ends, c.requires, c.self.inside.ends.ok.0)

ends_after : (c : goal.After-row_known-1) → c.index.result.now ≡ sum (take c.args.row c.args.self.now) + get_or c.args.self.now c.args.row 0
ends_after c =
    let ends = c.self.inside.ends.items in
    let within : c.args.row < length ends = omega (arith, ap length c.self.view_is, length-lengths_between 0 ends, c.requires) in
    get_or_read ends c.args.row c.index.result.now within c.index.ensures 0
    ∙ end_of 0 ends c.args.row c.self.invariant within
    ∙ ap (λ l. 0 + sum (take (c.args.row + 1) l)) c.self.view_is
    ∙ omega (arith, sum_by_more (λ n. n) c.args.self.now c.args.row 0 c.requires)

pub overflow_sub-result : goal.overflow_sub-result
overflow_sub-result c = omega (arith, ends_after c, c.offset-start.ensures)

pub returns : goal.returns
returns c = omega (arith, ends_after c, c.offset-start.ensures)
