use Rattle.std.proofs.Common.{◌≡◌, ◌+◌, ◌-◌, ◌<◌, length, take, sum, ap, ◌∙◌, arith}
use Rattle.std.proofs.lemmas.List.{get_or_read}
use Rattle.cat_segment.proofs.Ends.{length-lengths_between, end_of}
use Rattle.cat_segment.specs.Sources.{lengths_between}
use Rattle.cat_segment.proofs.sources.Sources.offset.Goals as goal

pub index-requires : goal.index-requires
index-requires c =
    let ends = c.self.inside.ends.items in
    omega (arith, ap length c.self.view_is, length-lengths_between 0 ends, c.requires, c.self.inside.ends.ok.0)

pub returns-else-row-eq0 : goal.returns-else-row-eq0
returns-else-row-eq0 c =
    let ends = c.self.inside.ends.items in
    let within : c.args.row - 1 < length ends = omega (arith, ap length c.self.view_is, length-lengths_between 0 ends, c.requires) in
    let next : c.args.row - 1 + 1 ≡ c.args.row = omega arith in
    get_or_read ends (c.args.row - 1) c.index.result.now within c.index.ensures 0
    ∙ end_of 0 ends (c.args.row - 1) c.self.invariant within
    ∙ ap (λ n. 0 + sum (take n (lengths_between 0 ends))) next
    ∙ ap (λ l. 0 + sum (take c.args.row l)) c.self.view_is
    ∙ omega arith
