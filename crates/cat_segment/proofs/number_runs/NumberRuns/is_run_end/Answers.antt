use Rattle.std.proofs.Common.{◌∙◌, ap, arith}
use Rattle.cat_segment.specs.NumberRuns.{changes_behind}
use Rattle.cat_segment.proofs.Runs.{changes_in}
use Rattle.cat_segment.proofs.number_runs.NumberRuns.is_run_end.Goals as goal

pub returns-else-place-len : goal.returns-else-place-len
returns-else-place-len c =
    let runs = c.args.self.now in
    let rows = runs.numbers.now.rising.items in
    c.is_run_end.ensures ∙ ap (changes_behind runs.numbers.now.values rows) c.whole_place.ensures
    ∙ changes_in runs.numbers.now.values rows runs.from runs.to runs.ordered runs.within c.args.place (omega (arith, c.requires, c.len.ensures, c.if-place-len.false))
