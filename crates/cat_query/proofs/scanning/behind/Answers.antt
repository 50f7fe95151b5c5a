use Rattle.std.proofs.lemmas.Str.Pattern.{strip_prefix_char}
use Rattle.cat_query.proofs.Cuts.{mark_taken}
use Rattle.cat_query.proofs.scanning.behind.Goals as goal

pub returns : goal.returns
returns c = mark_taken c.args.mark c.args.text.now c.strip_prefix.result (strip_prefix_char c.args.mark c.args.text.now c.strip_prefix.result c.strip_prefix.ensures.cases c.requires)
