use Rattle.std.proofs.Common.{option_map}
use Rattle.cat_search.specs.Candidates.{standing_of}
use Rattle.cat_search.proofs.Bars.{bar_of}
use Rattle.cat_search.proofs.number_bar.NumberBar.of.Goals as goal

pub returns : goal.returns
returns c =
    bar_of c.args.order (option_map standing_of c.args.mark.now) c.args.best.now c.of-ends.result c.number_of.result c.number_of-2.result c.of-ends.ensures
    c.number_of.ensures c.number_of-2.ensures
